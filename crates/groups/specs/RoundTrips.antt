-- Writing and reading undo each other, by the rows of a table: what was written is read as the group that it was, and a
-- group that was read is written as the bytes that it came from. `proofs/Inverse.antt` proves it of every table that passes
-- a computed test, and so of document 01's.
use Rattle.std.specs.Prelude.{ℕ, ◌<◌, ◌≡◌, List, length, get_or}
use Rattle.frame.specs.Result.{accepted}
use Rattle.groups.specs.Reading.{read_in}
use Rattle.groups.specs.Writing.{outcome, write_in}
use Rattle.groups.specs.declared.Group.{Group}
use Rattle.groups.specs.declared.Row.{Row}

pub record RoundTrips (table : List Row) : Type 0 where
  -- whatever stood in the lent bytes before
  pub read_written : (g : Group) (s t : List ℕ) → write_in table g s ≡ outcome (accepted tt) t
      → read_in table t ≡ accepted g
  -- into any eight bytes; what was read has to be bytes
  pub written_read : (s : List ℕ) (g : Group) → ((n : ℕ) → get_or s n 0 < 256) → read_in table s ≡ accepted g
      → (t : List ℕ) → length t ≡ 8 → write_in table g t ≡ outcome (accepted tt) s
