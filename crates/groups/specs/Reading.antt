-- Reading a group. Document 01, Refusals, parameter group: everything that is refused 9 goes before what is refused 10.
use Rattle.std.specs.Prelude.{ℕ, List, eqb, length, get_or, drop}
use Rattle.frame.specs.Choice.{pick}
use Rattle.frame.specs.Reading.{all_filler}
use Rattle.frame.specs.Result.{Result, accepted, refused}
use Rattle.groups.specs.Format.{kinds_of, values, row_allows, group_from}
use Rattle.groups.specs.Table.{rows, find_in}
use Rattle.groups.specs.declared.Group.{Group}
use Rattle.groups.specs.declared.Row.{Row}

-- last, 10: a value that its kind does not allow
unfoldable pub judged : Row → Group → Result Group
judged x g = pick (row_allows x (values g)) (accepted g) (refused 10)

-- before it 9: a byte behind the group is not 0xFF
unfoldable pub read_row : List ℕ → ℕ → Row → Result Group
read_row s code x = pick (all_filler (drop x.length s)) (judged x (group_from code (kinds_of x) s)) (refused 9)

-- before it 9: no row has the first byte as its code
unfoldable pub read_by : List ℕ → ℕ → Result Row → Result Group
read_by s code (accepted x) = read_row s code x
read_by s code (refused n) = refused n

-- and first 9: other than eight bytes are lent. By the rows of any table, and of document 01's.
unfoldable pub read_in : List Row → List ℕ → Result Group
read_in table s = pick (eqb (length s) 8) (read_by s (get_or s 0 0) (find_in (get_or s 0 0) table)) (refused 9)

abbrev pub read_of : List ℕ → Result Group
read_of s = read_in rows s
