-- A value out of range is refused, and nothing else is: the refusals of a group whose length, code and filler are as they
-- must be, in words of numbers.
-- Assumes nothing.
use Prim.Native.Nat.{ℕ, ◌≤◌}
use mathlib.Core.Path.{◌≡◌, refl, sym, ap, ◌∙◌}
use mathlib.Core.Bool.{Bool, true, false, ◌&&◌, ◌||◌, and-eq-true_iff, or-true, beq}
use mathlib.Core.List.{List, [], ◌∷◌}
use mathlib.Core.Logic.{◌⊎◌, inl, inr, ⊎_elim}
use borrow.Author.Tests.{eq-eqb, le-leb, leb-true, eqb-true}
use lib.Dec.{eqb, leb}
use lib.ListN.{length, get_or, drop}
use Rattle.std.specs.List.{list_all}
use Rattle.frame.specs.Choice.{pick}
use Rattle.frame.specs.Reading.{all_filler}
use Rattle.frame.specs.Result.{accepted, refused}
use Rattle.groups.specs.Format.{kinds_of, values, allowed, all_allowed, row_allows, group_from, bytes_for}
use Rattle.groups.specs.Reading.{judged, read_row, read_by, read_in}
use Rattle.groups.specs.Table.{kinds, kind_in, kind_at, rows, find_in, find_of}
use Rattle.groups.specs.Writing.{outcome, write_row, write_by, write_in}
use Rattle.groups.specs.declared.Group.{Group}
use Rattle.groups.specs.declared.Kind.{Kind}
use Rattle.groups.specs.declared.Row.{Row}
use Rattle.groups.specs.declared.Width.{Width}
use Rattle.groups.specs.declared.Width.TheVariants.{None, Byte, Word}
use Rattle.groups.proofs.Rows.{at_code, one_of}

-- A value is in the range of a kind or is one of its marks; values are so, each of its own kind.
abbrev pub InRange : Kind → ℕ → Type 0
InRange k v = ((k.low ≤ v) × (v ≤ k.high)) ⊎ ((v ≡ k.mark) ⊎ (v ≡ k.other))

abbrev pub AllInRange : List Kind → List ℕ → Type 0
AllInRange [] vs = Unit
AllInRange (k ∷ ks) [] = Unit
AllInRange (k ∷ ks) (v ∷ vs) = InRange k v × AllInRange ks vs

-- That is what a kind allows.
in_range : (k : Kind) (v : ℕ) → allowed k v ≡ true → InRange k v
unfolding allowed
in_range k v h =
    one_of (leb k.low v && leb v k.high) (eqb v k.mark) (eqb v k.other) (InRange k v) h
    (λ i. let both = (and-eq-true_iff (leb k.low v) (leb v k.high)).0 i in
    inl (leb-true _ _ both.0, leb-true _ _ both.1))
    (λ i. inr (inl (eqb-true _ _ i)))
    (λ i. inr (inr (eqb-true _ _ i)))

range_allowed : (k : Kind) (v : ℕ) → InRange k v → allowed k v ≡ true
unfolding allowed
range_allowed k v h =
    ⊎_elim (λ i. rw (le-leb _ _ i.0, le-leb _ _ i.1))
    (λ m. ⊎_elim (λ i. rw (eq-eqb v k.mark i, or-true)) (λ i. rw (eq-eqb v k.other i, or-true)) m) h

all_in_range : (ks : List Kind) (vs : List ℕ) → all_allowed ks vs ≡ true → AllInRange ks vs
all_in_range [] vs h = tt
all_in_range (k ∷ ks) [] h = tt
all_in_range (k ∷ ks) (v ∷ vs) h =
    let both = (and-eq-true_iff (allowed k v) (all_allowed ks vs)).0 h in
    (in_range k v both.0, all_in_range ks vs both.1)

range_all_allowed : (ks : List Kind) (vs : List ℕ) → AllInRange ks vs → all_allowed ks vs ≡ true
range_all_allowed [] vs h = refl
range_all_allowed (k ∷ ks) [] h = refl
range_all_allowed (k ∷ ks) (v ∷ vs) h = rw (range_allowed k v h.0, range_all_allowed ks vs h.1)

-- A row takes values that are so of the kinds of its fields: that is what it allows.
abbrev pub Takes : Row → List ℕ → Type 0
Takes x vs = AllInRange (kinds_of x) vs

takes_allowed : (x : Row) (vs : List ℕ) → Takes x vs → row_allows x vs ≡ true
unfolding row_allows
takes_allowed x vs h = range_all_allowed (kinds_of x) vs h

not_taken : (x : Row) (vs : List ℕ) → (Takes x vs → ⊥) → (t : Bool) → row_allows x vs ≡ t → t ≡ false
unfolding row_allows
not_taken x vs h true e = absurd (h (all_in_range (kinds_of x) vs e))
not_taken x vs h false e = refl

-- By the rows of any table:
module _ (table : List Row) where
  -- Reading eight bytes whose code has a row and whose filler is 0xFF: values in range are read, others are refused 10.
  module _ (s : List ℕ) (x : Row) (eight : length s ≡ 8) (found : find_in (get_or s 0 0) table ≡ accepted x)
      (filler : all_filler (drop x.length s) ≡ true) where
    abbrev pub group : Group
    group = group_from (get_or s 0 0) (kinds_of x) s

    pub read_in_range : Takes x (values group) → read_in table s ≡ accepted group
    unfolding read_in read_by read_row judged pick
    read_in_range h = rw (eq-eqb _ _ eight, found, filler, takes_allowed x (values group) h)

    pub read_out_of_range : (Takes x (values group) → ⊥) → read_in table s ≡ refused 10
    unfolding read_in read_by read_row judged pick
    read_out_of_range h = rw (eq-eqb _ _ eight, found, filler, not_taken x (values group) h _ refl)

  -- Writing a group whose code has a row into eight bytes: values in range are written, others are refused 10 and leave the
  -- bytes.
  module _ (g : Group) (s : List ℕ) (x : Row) (eight : length s ≡ 8)
      (found : find_in g.code table ≡ accepted x) where
    pub write_in_range : Takes x (values g)
        → write_in table g s ≡ outcome (accepted tt) (bytes_for g.code (kinds_of x) (values g))
    unfolding write_in write_by write_row pick
    write_in_range h = rw (eq-eqb _ _ eight, found, takes_allowed x (values g) h)

    pub write_out_of_range : (Takes x (values g) → ⊥) → write_in table g s ≡ outcome (refused 10) s
    unfolding write_in write_by write_row pick
    write_out_of_range h = rw (eq-eqb _ _ eight, found, not_taken x (values g) h _ refl)

-- "Only the fields of 77 may be missing": a row has a field that takes a mark for missing, 0xFFFE or 0xFFFF in a word or 0xFE in
-- a byte, just if its code is 0x77. (0xFF in a byte is also the reason "other" of 0x75.) One test of the whole table.
abbrev marked : Width → Kind → Bool
marked None k = false
marked Byte k = allowed k 0xFE
marked Word k = allowed k 0xFFFE || allowed k 0xFFFF

abbrev pub any_marked : List Kind → Bool
any_marked [] = false
any_marked (k ∷ ks) = marked k.width k || any_marked ks

abbrev missing_test : Row → Bool
missing_test x = beq (any_marked (kinds_of x)) (eqb x.code 0x77)

missing_tested : list_all missing_test rows ≡ true
unfolding rows kinds kind_at kind_in pick allowed
missing_tested = refl

same : (a b : Bool) → beq a b ≡ true → a ≡ b
same true true h = refl
same true false h = sym h
same false true h = h
same false false h = refl

pub missing_only : (code : ℕ) (x : Row) → find_of code ≡ accepted x → any_marked (kinds_of x) ≡ eqb code 0x77
missing_only code x e =
    let at = at_code missing_test code x rows missing_tested e in
    same _ _ at.0 ∙ ap (λ (c : ℕ). eqb c 0x77) at.1
