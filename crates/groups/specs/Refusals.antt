-- Document 01, Refusals, by place: a refusal is a number, and nothing else comes of it. Said here of every call on groups,
-- apart from the definitions that answer refusals; `proofs/Refusals.antt` proves it.
use Rattle.std.specs.Prelude.{ℕ, ◌≡◌, ◌⊎◌, List}
use Rattle.frame.specs.Result.{refused}
use Rattle.groups.specs.Reading.{read_of}
use Rattle.groups.specs.Table.{find_of}
use Rattle.groups.specs.Writing.{write_of}
use Rattle.groups.specs.declared.Group.{Group}

-- the numbers that the table has for a group
abbrev pub GroupRefusal : ℕ → Type 0
GroupRefusal number = (number ≡ 9) ⊎ (number ≡ 10)

pub record Refusals : Type 0 where
  -- looking for a code: refused, it answers no row
  pub find : (code number : ℕ) → find_of code ≡ refused number → number ≡ 9
  -- reading, which only looks at the lent bytes: refused, it answers no group
  pub read : (bytes : List ℕ) (number : ℕ) → read_of bytes ≡ refused number → GroupRefusal number
  -- writing: refused, it leaves the lent bytes as they were, whatever their length
  pub write : (g : Group) (bytes : List ℕ) (number : ℕ) → (write_of g bytes).answer ≡ refused number
      → GroupRefusal number × ((write_of g bytes).bytes ≡ bytes)
