-- Joining parts and parting an identifier. Document 01, Refusals, identifier: 8 is the only refusal.
use Rattle.std.specs.Prelude.{ℕ, Bool, ◌&&◌, eqb, ltb}
use Rattle.frame.specs.Choice.{pick}
use Rattle.frame.specs.Result.{Result, accepted, refused}
use Rattle.identifier.specs.Identifier.{number_of, parts_of, fits_of}
use Rattle.identifier.specs.declared.Parts.{Parts}

-- from parts: refused where one does not fit its bits, or where EDP or DP is set
unfoldable pub join_of : Parts → Result ℕ
join_of x = pick (fits_of x) (accepted (number_of x)) (refused 8)

-- to parts: refused where the number needs more than 29 bits, or where the bit of EDP or DP is set
unfoldable pub parts_fit : ℕ → Bool
parts_fit n = ltb n 536870912 && eqb (parts_of n).edp 0 && eqb (parts_of n).dp 0

unfoldable pub part_of : ℕ → Result Parts
part_of n = pick (parts_fit n) (accepted (parts_of n)) (refused 8)
