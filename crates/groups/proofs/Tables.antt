-- A table is looked up as the definition looks it up. Nothing here says how many lines a table has or what stands in them: that
-- the code's tables are the definition's is one computed test of each.
-- Assumes nothing.
use Rattle.std.proofs.Common.{◌≡◌, refl, ℕ, zero, suc, ◌+◌, Bool, true, false, ◌&&◌, cond, eqb, List, [], ◌∷◌, map, get_or, Option, Some, arith}
use mathlib.Core.Bool.{and-eq-true_iff}
use borrow.Author.Tests.{eq-eqb, ne_eqb, eqb-true}
use Rattle.std.specs.List.{find}
use Rattle.std.specs.Option.{ok_or}
use Rattle.frame.specs.Choice.{pick}
use Rattle.frame.specs.Result.{Result, accepted, told_result}
use Rattle.frame.specs.declared.refusal.Refusal.TheVariants as refusals
use Rattle.groups.specs.Table.{Line, no_field, kinds, kind_in, kind_at, find_in}
use Rattle.groups.specs.declared.Row.{Row}

-- A row by its code,
abbrev pub told_row : Option Row → Result Row
told_row found = told_result (ok_or found refusals.Group)

row_step : (x : Row) (found : Option Row) (a : Result Row) (t : Bool) → told_row found ≡ a
    → told_row (cond t (Some x) found) ≡ pick t (accepted x) a
unfolding pick
row_step x found a true e = refl
row_step x found a false e = e

pub row_found : (code : ℕ) (table : List Row) → told_row (find (λ (x : Row). eqb x.code code) table) ≡ find_in code table
unfolding find_in
row_found code [] = refl
row_found code (x ∷ rest) = row_step x _ _ (eqb x.code code) (row_found code rest)

-- and a kind by its number, where lines are numbered one by one from a first on: it stands that far in.
abbrev numbered : ℕ → List Line → Bool
numbered n [] = true
numbered n (line ∷ rest) = eqb line.0 n && numbered (suc n) rest

kind_placed : (table : List Line) (first at number : ℕ) → number ≡ first + at → numbered first table ≡ true
    → get_or (map (λ (line : Line). line.1) table) at no_field ≡ kind_in number table
unfolding kind_in pick
kind_placed [] first at number e h = refl
kind_placed (line ∷ rest) first zero number e h =
    let both = (and-eq-true_iff (eqb line.0 first) (numbered (suc first) rest)).0 h in
    let same : line.0 ≡ first = eqb-true _ _ both.0 in
    rw (eq-eqb line.0 number (omega arith))
kind_placed (line ∷ rest) first (suc at) number e h =
    let both = (and-eq-true_iff (eqb line.0 first) (numbered (suc first) rest)).0 h in
    let same : line.0 ≡ first = eqb-true _ _ both.0 in
    rw (ne_eqb line.0 number (λ (k : line.0 ≡ number). omega arith)) (kind_placed rest (suc first) at number (omega arith) both.1)

pub kind_found : (number : ℕ) → get_or (no_field ∷ map (λ (line : Line). line.1) kinds) number no_field ≡ kind_at number
unfolding kinds kind_at kind_in pick
kind_found zero = refl
kind_found (suc at) = kind_placed kinds 1 at (suc at) (omega arith) refl
