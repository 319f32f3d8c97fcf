-- What holds of every row of a table, by one computed test: a row's fields fill its length, which is at most eight, and what
-- the kinds of its fields allow fits their widths. A new row or kind is tested with the others.
-- Assumes nothing.
use Prim.Native.Nat.{ℕ, ◌+◌, ◌≤◌, ◌<◌}
use mathlib.Core.Path.{◌≡◌, refl, sym, ap, ◌∙◌}
use mathlib.Core.Bool.{Bool, true, false, ◌&&◌, ◌||◌, and-eq-true_iff}
use mathlib.Core.List.{List, [], ◌∷◌}
use native.Mathlib.Omega.{arith}
use borrow.Author.Tests.{ltb-true, leb-true, eqb-true}
use lib.Dec.{eqb, leb, ltb}
use Rattle.std.specs.List.{list_all}
use Rattle.frame.specs.Choice.{pick}
use Rattle.frame.specs.Result.{accepted}
use Rattle.groups.specs.Format.{sizes_of, kinds_of, allowed, all_allowed, row_allows}
use Rattle.groups.specs.Table.{kinds, kind_in, kind_at, pause, IsNumbered, rows, find_in, find_of}
use Rattle.groups.specs.declared.Kind.{Kind}
use Rattle.groups.specs.declared.Row.{Row}
use Rattle.groups.specs.declared.Width.{Width}
use Rattle.groups.specs.declared.Width.TheVariants.{None, Byte, Word}

-- A test that passes at every row passes at the row that is found, whose code is the one that was looked for: the first row
-- has it, or the search goes on.
module _ (test : Row → Bool) (code : ℕ) (x : Row) where
  abbrev pub Tested : Type 0
  Tested = (test x ≡ true) × (x.code ≡ code)

  at_row : (y : Row) (rest : List Row) (t : Bool) → eqb y.code code ≡ t → test y ≡ true
      → (find_in code rest ≡ accepted x → Tested) → pick t (accepted y) (find_in code rest) ≡ accepted x → Tested
  unfolding pick
  at_row y rest true same here there e =
      let row : y ≡ x = cc in
      (ap test (sym row) ∙ here, ap (λ (y : Row). y.code) (sym row) ∙ eqb-true y.code code same)
  at_row y rest false same here there e = there e

  pub at_code : (table : List Row) → list_all test table ≡ true → find_in code table ≡ accepted x → Tested
  unfolding find_in
  at_code [] h e = cc
  at_code (y ∷ rest) h e =
      let both = (and-eq-true_iff (test y) (list_all test rest)).0 h in
      at_row y rest (eqb y.code code) refl both.0 (at_code rest both.1) e

-- The numbers of a row of document 01's table are 0 or of kinds.
abbrev numbered_test : Row → Bool
numbered_test x = leb x.first pause && leb x.second pause && leb x.third pause && leb x.fourth pause

rows_numbered : list_all numbered_test rows ≡ true
unfolding rows
rows_numbered = refl

pub numbered : (code : ℕ) (x : Row) → find_of code ≡ accepted x → IsNumbered x
numbered code x e =
    let at = at_code numbered_test code x rows rows_numbered e in
    let four = (and-eq-true_iff (leb x.first pause && leb x.second pause && leb x.third pause) (leb x.fourth pause)).0 at.0 in
    let three = (and-eq-true_iff (leb x.first pause && leb x.second pause) (leb x.third pause)).0 four.0 in
    let two = (and-eq-true_iff (leb x.first pause) (leb x.second pause)).0 three.0 in
    record {
      first = leb-true _ _ two.0;
      second = leb-true _ _ two.1;
      third = leb-true _ _ three.1;
      fourth = leb-true _ _ four.1;
    }

-- One more than the highest number in a field of a width.
abbrev pub room : Width → ℕ
room None = 1
room Byte = 256
room Word = 65536

-- What a kind allows fits its width if the highest value of its range and its marks do.
abbrev kind_fits : Kind → Bool
kind_fits k =
    let top : ℕ = room k.width in ltb k.high top && ltb k.mark top && ltb k.other top

-- A table is fit to be read and written by: the fields of each row and its code fill its length, which is at most eight, and
-- the kinds of its fields fit their widths.
abbrev row_fits : Row → Bool
row_fits x = eqb (1 + sizes_of (kinds_of x)) x.length && leb x.length 8 && list_all kind_fits (kinds_of x)

abbrev pub Fits : List Row → Type 0
Fits table = list_all row_fits table ≡ true

-- Document 01's is.
pub rows_fit : Fits rows
unfolding rows kinds kind_at kind_in pick
rows_fit = refl

pub record Known (x : Row) : Type 0 where
  pub filled : 1 + sizes_of (kinds_of x) ≡ x.length
  pub small : sizes_of (kinds_of x) ≤ 7
  pub fitting : list_all kind_fits (kinds_of x) ≡ true

pub known : (table : List Row) → Fits table → (code : ℕ) (x : Row) → find_in code table ≡ accepted x
    → Known x
known table fit code x e =
    let at = at_code row_fits code x table fit e in
    let fill : Bool = eqb (1 + sizes_of (kinds_of x)) x.length in
    let all = (and-eq-true_iff (fill && leb x.length 8) (list_all kind_fits (kinds_of x))).0 at.0 in
    let both = (and-eq-true_iff fill (leb x.length 8)).0 all.0 in
    let filled : 1 + sizes_of (kinds_of x) ≡ x.length = eqb-true _ _ both.0 in
    let short : x.length ≤ 8 = leb-true _ _ both.1 in
    record { filled = filled; small = omega arith; fitting = all.1 }

-- a test of three parts passes by one of them
pub one_of : (a b c : Bool) (P : Type 0) → (a || b || c) ≡ true → (a ≡ true → P) → (b ≡ true → P) → (c ≡ true → P) → P
one_of true b c P h p q r = p refl
one_of false true c P h p q r = q refl
one_of false false true P h p q r = r refl
one_of false false false P h p q r = cc

allowed_fits : (k : Kind) (v : ℕ) → kind_fits k ≡ true → allowed k v ≡ true → v < room k.width
unfolding allowed
allowed_fits k v h a =
    let r : ℕ = room k.width in
    let top = (and-eq-true_iff (ltb k.high r && ltb k.mark r) (ltb k.other r)).0 h in
    let two = (and-eq-true_iff (ltb k.high r) (ltb k.mark r)).0 top.0 in
    let high : k.high < r = ltb-true _ _ two.0 in
    let mark : k.mark < r = ltb-true _ _ two.1 in
    let other : k.other < r = ltb-true _ _ top.1 in
    one_of (leb k.low v && leb v k.high) (eqb v k.mark) (eqb v k.other) (v < r) a
    (λ i. let below : v ≤ k.high = leb-true _ _ ((and-eq-true_iff (leb k.low v) (leb v k.high)).0 i).1 in omega arith)
    (λ i. let same : v ≡ k.mark = eqb-true _ _ i in omega arith)
    (λ i. let same : v ≡ k.other = eqb-true _ _ i in omega arith)

-- Values fit the widths of their kinds,
abbrev pub Fit : List Kind → List ℕ → Type 0
Fit [] vs = Unit
Fit (k ∷ ks) [] = Unit
Fit (k ∷ ks) (v ∷ vs) = (v < room k.width) × Fit ks vs

-- if kinds that fit allow them,
fit_all : (ks : List Kind) (vs : List ℕ) → list_all kind_fits ks ≡ true → all_allowed ks vs ≡ true → Fit ks vs
fit_all [] vs h a = tt
fit_all (k ∷ ks) [] h a = tt
fit_all (k ∷ ks) (v ∷ vs) h a =
    let fit = (and-eq-true_iff (kind_fits k) (list_all kind_fits ks)).0 h in
    let fine = (and-eq-true_iff (allowed k v) (all_allowed ks vs)).0 a in
    (allowed_fits k v fit.0 fine.0, fit_all ks vs fit.1 fine.1)

-- and so if a row does that is found.
pub all_fit : (x : Row) (vs : List ℕ) → Known x → row_allows x vs ≡ true → Fit (kinds_of x) vs
unfolding row_allows
all_fit x vs k a = fit_all (kinds_of x) vs k.fitting a
