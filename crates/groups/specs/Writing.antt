-- Document 01, Refusals, parameter group, in writing: the answer and the lent bytes after it. A refusal leaves the bytes.
use Rattle.std.specs.Prelude.{ℕ, List, eqb, length}
use Rattle.frame.specs.Choice.{pick}
use Rattle.frame.specs.Result.{Result, accepted, refused}
use Rattle.groups.specs.Format.{kinds_of, values, row_allows, bytes_for}
use Rattle.groups.specs.Table.{rows, find_in}
use Rattle.groups.specs.declared.Group.{Group}
use Rattle.groups.specs.declared.Row.{Row}

pub record Outcome : Type 0 where
  pub answer : Result Unit
  pub bytes : List ℕ

abbrev pub outcome : Result Unit → List ℕ → Outcome
outcome answer bytes = record { answer = answer; bytes = bytes }

-- last, 10: a value that its kind does not allow; else the group's bytes
unfoldable pub write_row : Group → List ℕ → Row → Outcome
write_row g s x =
    pick (row_allows x (values g))
    (outcome (accepted tt) (bytes_for g.code (kinds_of x) (values g)))
    (outcome (refused 10) s)

-- before it 9: no row has the code
unfoldable pub write_by : Group → List ℕ → Result Row → Outcome
write_by g s (accepted x) = write_row g s x
write_by g s (refused n) = outcome (refused n) s

-- and first 9: other than eight bytes are lent. By the rows of any table, and of document 01's.
unfoldable pub write_in : List Row → Group → List ℕ → Outcome
write_in table g s = pick (eqb (length s) 8) (write_by g s (find_in g.code table)) (outcome (refused 9) s)

abbrev pub write_of : Group → List ℕ → Outcome
write_of g s = write_in rows g s
