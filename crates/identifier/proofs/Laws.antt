-- Laws on the tests of the definitions, and a law for each path through joining and parting.
-- Assumes nothing.
use Prim.Native.Nat.{ℕ, ◌+◌, ◌*◌, ◌/◌, ◌%◌}
use mathlib.Core.Path.{◌≡◌, refl, sym, ap, ◌∙◌}
use mathlib.Core.Bool.{Bool, true, false, ◌&&◌, and-eq-true_iff, and-true, and_assoc}
use native.Mathlib.Omega.{arith}
use borrow.Author.Tests.{ltb-true, ltb-false, eqb-true, eqb-false, lt-ltb, le-ltb, eq-eqb, ne_eqb}
use lib.Dec.{eqb, ltb}
use Rattle.frame.specs.Choice.{pick}
use Rattle.frame.specs.Result.{accepted}
use Rattle.identifier.specs.Identifier.{number_of, parts_of, fits_of, Within}
use Rattle.identifier.specs.Answer.{join_of, parts_fit, part_of}
use Rattle.identifier.specs.declared.Parts.{Parts}

-- Six tests that pass together pass each.
six : (a b c d e f : Bool) → (a && b && c && d && e && f) ≡ true
    → (a ≡ true) × (b ≡ true) × (c ≡ true) × (d ≡ true) × (e ≡ true) × (f ≡ true)
six a b c d e f h =
    let five = (and-eq-true_iff (a && b && c && d && e) f).0 h in
    let four = (and-eq-true_iff (a && b && c && d) e).0 five.0 in
    let three = (and-eq-true_iff (a && b && c) d).0 four.0 in
    let two = (and-eq-true_iff (a && b) c).0 three.0 in
    let one = (and-eq-true_iff a b).0 two.0 in
    (one.0, one.1, two.1, three.1, four.1, five.1)

-- Where the test of parts passes, what it tests holds.
pub within : (x : Parts) → fits_of x ≡ true → Within x
unfolding fits_of
within x h =
    let all = six (ltb x.p 8) (eqb x.edp 0) (eqb x.dp 0) (ltb x.pf 256) (ltb x.ps 256) (ltb x.sa 256) h in
    record {
      p = ltb-true _ _ all.0;
      edp = eqb-true _ _ all.1;
      dp = eqb-true _ _ all.2;
      pf = ltb-true _ _ all.3;
      ps = ltb-true _ _ all.4;
      sa = ltb-true _ _ all.5;
    }

-- What lies above the low 26 bits is below 8 just if the number has 29 bits.
top : (n : ℕ) (t : Bool) → ltb n 536870912 ≡ t → ltb (n / 67108864) 8 ≡ t
top n true h = lt-ltb (n / 67108864) 8 (omega (arith, ltb-true n 536870912 h))
top n false h = le-ltb (n / 67108864) 8 (omega (arith, ltb-false n 536870912 h))

-- The parts of a number fit just if the number has 29 bits and EDP and DP are 0: the other parts
-- are cut to their widths.
pub fits_number : (n : ℕ) → fits_of (parts_of n) ≡ parts_fit n
unfolding fits_of parts_of parts_fit
fits_number n =
    simp (
      top n _ refl,
      lt-ltb (n / 65536 % 256) 256 (omega arith),
      lt-ltb (n / 256 % 256) 256 (omega arith),
      lt-ltb (n % 256) 256 (omega arith),
      and-true,
    )

-- EDP and DP lie side by side: both are 0 just if the number that they make is.
side_by_side : (n : ℕ) (edp dp : Bool) → eqb (n / 33554432 % 2) 0 ≡ edp
    → eqb (n / 16777216 % 2) 0 ≡ dp
    → eqb (n / 16777216 % 4) 0 ≡ (edp && dp)
side_by_side n true true e d =
    let made : n / 16777216 % 4 ≡ n / 33554432 % 2 * 2 + n / 16777216 % 2 = omega arith in
    eq-eqb (n / 16777216 % 4) 0 (omega (arith, eqb-true (n / 33554432 % 2) 0 e, eqb-true (n / 16777216 % 2) 0 d))
side_by_side n true false e d = ne_eqb (n / 16777216 % 4) 0 (λ z. eqb-false (n / 16777216 % 2) 0 d (omega (arith, z)))
side_by_side n false dp e d = ne_eqb (n / 16777216 % 4) 0 (λ z. eqb-false (n / 33554432 % 2) 0 e (omega (arith, z)))

-- So the code's test of the number is the definition's.
pub fits_at_once : (n : ℕ) → (ltb n 536870912 && eqb (n / 16777216 % 4) 0) ≡ parts_fit n
unfolding parts_of parts_fit
fits_at_once n =
    ap (λ (b : Bool). ltb n 536870912 && b) (side_by_side n _ _ refl refl)
    ∙ sym (and_assoc (ltb n 536870912) (eqb (parts_of n).edp 0) (eqb (parts_of n).dp 0))

-- Joining goes by the test of the parts, parting by that of the number.
pub join_accepted : (x : Parts) (n : ℕ) (fits : Bool) → fits ≡ true → fits ≡ fits_of x
    → n ≡ number_of x
    → accepted n ≡ join_of x
unfolding join_of pick
join_accepted x n fits t e v = rw (v, ← e, t)

pub part_accepted : (x : Parts) (n : ℕ) (fits : Bool) → fits ≡ true → fits ≡ parts_fit n
    → x ≡ parts_of n
    → accepted x ≡ part_of n
unfolding part_of pick
part_accepted x n fits t e v = rw (v, ← e, t)
