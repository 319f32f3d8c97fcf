-- A rule of a table, proved at all of its rows by one test that antt computes, one row after the other.
-- Assumes nothing.
use mathlib.Core.Bool.{Bool, true, false}
use mathlib.Core.List.{List, [], ◌∷◌}
use Prim.Native.Nat.{ℕ, zero, suc, ◌<◌}
use native.Mathlib.Nat.{le_of_suc-le-suc, not-suc-le-zero}
use lib.Dec.{T}
use lib.ListN.{length, get_or}

abbrev pub both : Bool → Bool → Bool
both true b = b
both false b = false

pub both_left : (a b : Bool) → T (both a b) → T a
both_left true b t = tt
both_left false b t = t

pub both_right : (a b : Bool) → T (both a b) → T b
both_right true b t = t
both_right false b t = absurd t

module _ {A : Type 0} (test : A → Bool) where
  -- the test passes at every row
  abbrev pub every : List A → Bool
  every [] = true
  every (x ∷ xs) = both (test x) (every xs)

  -- then it passes at the row of each place; d stands past the table's end
  pub passes_at : (d : A) (xs : List A) → T (every xs) → (k : ℕ) → k < length xs → T (test (get_or xs k d))
  passes_at d [] t k h = absurd (not-suc-le-zero h)
  passes_at d (x ∷ xs) t zero h = both_left (test x) (every xs) t
  passes_at d (x ∷ xs) t (suc k) h = passes_at d xs (both_right (test x) (every xs) t) k (le_of_suc-le-suc h)
