-- What the search for proofs does not find by itself: the facts on lists that reading a list of
-- versions and looking for a version in it rest on.
-- Assumes nothing.
use Prim.Native.Nat.{ℕ, zero, suc, ◌+◌, ◌/◌, ◌-◌, ◌<◌, ◌≤◌}
use mathlib.Core.Path.{◌≡◌, refl, sym, ap, ◌∙◌}
use mathlib.Core.Bool.{Bool, true, false, cond, and-true, and-false, ◌&&◌}
use mathlib.Core.List.{List, [], ◌∷◌, ◌++◌, reverse}
use native.Mathlib.Omega.{arith}
use borrow.Author.Tests.{ltb-true, ltb-false, lt-ltb, le-ltb}
use lib.Dec.{eqb, ltb}
use lib.ListN.{length, get_or, get_or-eq_default}
use Rattle.version.proofs.Places.{head_below, tail_rises, rising_below}
use Rattle.frame.specs.Choice.{pick}
use Rattle.std.specs.Prelude.{Some, None}
use Rattle.std.specs.Simd.{first_chunks}
use denote.Param.Members.{Mut}
use Rattle.std.proofs.Common.{Iter, take, length-take, get_or-take}
use Rattle.std.specs.Slice.Iter.{iter_rest, iter_steps_back}
use Rattle.std.proofs.lemmas.Iterator.{YieldsList}
use Rattle.std.proofs.lemmas.Iterator.Consumers.{YieldsList-from_shown}
use Rattle.std.proofs.lemmas.Iterator.Adapters.{position_from-zero}
use Rattle.std.proofs.lemmas.Iterator.Search.{position_from_yields_List}
use Rattle.std.proofs.lemmas.List.{reverse-append, reverse-reverse, length-reverse}
use Rattle.std.specs.Fn.{Called}
use Rattle.std.specs.Iterator.{YieldsThen}
use Rattle.std.specs.List.{FoldsTo, IsAllAdjacentAnswer, position_from}
use Rattle.std.specs.Option.{MatchOption, IsSomeAnd, option_map}
use Rattle.std.specs.declared.option.Option.{Option}
use Rattle.version.specs.List.{version_of, versions_in, lent, rising, three_bytes, place_of, place_below}

-- ---- lent bytes

-- Three bytes are a version.
pub versions_length : (s : List ℕ) → length (versions_in s) ≡ length s / 3
unfolding versions_in
versions_length [] = refl
versions_length (a ∷ []) = refl
versions_length (a ∷ b ∷ []) = refl
versions_length (a ∷ b ∷ c ∷ s) = omega (arith, versions_length s)

-- A version is the number of its chunk's three bytes; past the last there is none.
at_chunk : (s : List ℕ) (n k : ℕ) (d : List ℕ) → k < n → n ≤ length s / 3
    → let chunk : List ℕ = get_or (first_chunks 3 n s) k d in
    version_of (get_or chunk 0 0) (get_or chunk 1 0) (get_or chunk 2 0) ≡ lent s k
unfolding versions_in
at_chunk s zero k d l h = absurd (omega arith)
at_chunk [] (suc n) k d l h = absurd (omega arith)
at_chunk (a ∷ []) (suc n) k d l h = absurd (omega arith)
at_chunk (a ∷ b ∷ []) (suc n) k d l h = absurd (omega arith)
at_chunk (a ∷ b ∷ c ∷ s) (suc n) zero d l h = refl
at_chunk (a ∷ b ∷ c ∷ s) (suc n) (suc k) d l h = at_chunk s n k d (omega arith) (omega arith)

pub lent_there : (s : List ℕ) (k : ℕ) {v : ℕ} {chunk : List ℕ} {chunks : List (List ℕ)}
    → v ≡ version_of (get_or chunk 0 0) (get_or chunk 1 0) (get_or chunk 2 0)
    → (true ≡ ltb k (length chunks)) × (chunk ≡ get_or chunks k chunk)
    → chunks ≡ first_chunks 3 (length s / 3) s
    → length chunks ≡ length s / 3
    → v ≡ lent s k
lent_there s k {chunk = chunk} e at cut n =
    let bytes : chunk ≡ get_or (first_chunks 3 (length s / 3) s) k chunk = at.1 ∙ ap (λ (l : List (List ℕ)). get_or l k chunk) cut in
    e ∙ ap (λ (l : List ℕ). version_of (get_or l 0 0) (get_or l 1 0) (get_or l 2 0)) bytes
    ∙ at_chunk s (length s / 3) k chunk (omega (arith, ltb-true _ _ (sym at.0), n)) (omega arith)

pub lent_past : (s : List ℕ) (k : ℕ) → length s / 3 ≤ k → 0 ≡ lent s k
lent_past s k h =
    let past : length (versions_in s) ≤ k = omega (arith, versions_length s) in
    sym (get_or-eq_default (versions_in s) 0 past)

pub ruleset lents = (lent_there, lent_past)

-- The code's test of every version against the next is the definition's.
rising_each : (s : List ℕ) → ((k : ℕ) → suc k < length s → get_or s k 0 < get_or s (suc k) 0) → rising s ≡ true
unfolding rising
rising_each [] h = refl
rising_each (v ∷ []) h = refl
rising_each (v ∷ w ∷ s) h = rw (lt-ltb v w (h 0 (omega arith))) (rising_each (w ∷ s) (λ k l. h (suc k) (omega arith)))

pub rising_sorted : (s : List ℕ) (r : Bool) → IsAllAdjacentAnswer (λ v w b. b ≡ ltb v w) s r → r ≡ rising s
rising_sorted s true h =
    sym (rising_each s (λ k l.
    let next : k + 1 ≡ suc k = omega arith in
    omega (arith, ltb-true _ _ (sym (h k 0 (omega arith))), ap (λ (i : ℕ). get_or s i 0) next)))
rising_sorted s false h = go (rising s) refl
  where
    go : (b : Bool) → rising s ≡ b → false ≡ b
    go true up = absurd (omega (arith, rising_below s up h.0 (h.0 + 1) (omega arith) h.1, ltb-false _ _ (sym (h.2 0))))
    go false up = refl

cond_pick : {A : Type 0} (b : Bool) (x y : A) → cond b x y ≡ pick b x y
unfolding pick
cond_pick true x y = refl
cond_pick false x y = refl

-- The first place of a version, as the chain finds it, is the definition's.
pub place_first : (version : ℕ) (s : List ℕ) (n : ℕ) → position_from (λ v. eqb v version) n s ≡ place_of s version n
unfolding place_of
place_first version [] n = refl
place_first version (v ∷ s) n = rw (place_first version s (n + 1)) (cond_pick (eqb v version) (Some n) (place_of s version (n + 1)))

-- A place that is given on as the number that it is.
pub as_number : {Q : ℕ → ℕ → Type 0} (p r : Option ℕ) → MatchOption p (r ≡ None) (λ x. IsSomeAnd r (Q x))
    → ((x y : ℕ) → Q x y → y ≡ x) → r ≡ p
as_number None r e one = e
as_number (Some x) None e one = absurd e
as_number (Some x) (Some y) e one = ap Some (one x y e)

-- Looking below a version, from the last place back.
below_last : (s : List ℕ) (v version n : ℕ) → v < version
    → place_below (s ++ v ∷ []) version n ≡ Some (n + length s)
unfolding place_below pick
below_last [] v version n h = rw (lt-ltb _ _ h) (ap Some (omega arith))
below_last (w ∷ s) v version n h = rw (below_last s v version (n + 1) h) (ap Some (omega arith))

not_last : (s : List ℕ) (v version n : ℕ) → version ≤ v
    → place_below (s ++ v ∷ []) version n ≡ place_below s version n
unfolding place_below pick
not_last [] v version n h = rw (le-ltb _ _ h)
not_last (w ∷ s) v version n h = rw (not_last s v version (n + 1) h)

-- The last place of a version below, as the chain finds it from the back, is the definition's.
module _ (version whole : ℕ) where
  below_back : (s : List ℕ) (m : ℕ) → length s + m ≡ whole
      → option_map (λ k. whole - 1 - k) (position_from (λ v. ltb v version) m s) ≡ place_below (reverse s) version 0
  unfolding place_below
  below_back [] m h = refl
  below_back (v ∷ s) m h = rw (reverse-append (v ∷ []) s) (go (ltb v version) refl (below_back s (m + 1) (omega arith)))
    where
      go : (b : Bool) → ltb v version ≡ b
          → option_map (λ k. whole - 1 - k) (position_from (λ v. ltb v version) (m + 1) s) ≡ place_below (reverse s) version 0
          → option_map (λ k. whole - 1 - k) (cond b (Some m) (position_from (λ v. ltb v version) (m + 1) s))
          ≡ place_below (reverse s ++ v ∷ []) version 0
      go true e i =
          let place : whole - 1 - m ≡ 0 + length (reverse s) = omega (arith, length-reverse s) in
          ap Some place ∙ sym (below_last (reverse s) v version 0 (ltb-true v version e))
      go false e i = i ∙ sym (not_last (reverse s) v version 0 (ltb-false v version e))

place_last : (version : ℕ) (s : List ℕ)
    → option_map (λ k. length s - 1 - k) (position_from (λ v. ltb v version) 0 (reverse s)) ≡ place_below s version 0
place_last version s =
    below_back version (length s) (reverse s) 0 (omega (arith, length-reverse s))
    ∙ ap (λ (l : List ℕ). place_below l version 0) (reverse-reverse s)

-- `rposition` finds what `position` finds from the back, and counts it from the front.
module _ {S A F : Type 0} {steps : S → Option A → S → Type 0} {g : Mut F (A × Unit {0}) Bool} {v : A → ℕ} {s : S}
    (u : S) (f : F) (version : ℕ) (items : List ℕ) (from : YieldsList steps v s (reverse items))
    (closure : (x : A) (b : Bool) (q : F) → Called g f (x, tt) b q → (q ≡ f) × (b ≡ ltb (v x) version)) where
  found_back : (p : Option ℕ)
      → (xs : List A) × (o : Option A) × (j : F) × YieldsThen steps s xs o u × FoldsTo (λ p x q. Called g p (x, tt) false q) f xs j
      × MatchOption o (p ≡ None) (λ x. (p ≡ Some (length xs)) × ((h : F) × Called g j (x, tt) true h))
      → option_map (λ k. length items - 1 - k) p ≡ place_below items version 0
  found_back p ran =
      ap (option_map (λ k. length items - 1 - k))
      (position_from_yields_List (λ w. ltb w version) u f p ran from closure ∙ position_from-zero (λ w. ltb w version) (reverse items))
      ∙ place_last version items

  pub place_back : (r : Option ℕ)
      → (xs : List A) × (o : Option A) × (j : F) × YieldsThen steps s xs o u × FoldsTo (λ p x q. Called g p (x, tt) false q) f xs j
      × MatchOption o (r ≡ None) (λ x. IsSomeAnd r (λ i. i + 1 + length xs ≡ length items) × ((h : F) × Called g j (x, tt) true h))
      → r ≡ place_below items version 0
  place_back r (xs, None, j, y, h, e) = e ∙ found_back None (xs, None, j, y, h, refl)
  place_back None (xs, Some x, j, y, h, e) = absurd e.0
  place_back (Some i) (xs, Some x, j, y, h, e) =
      let place : i ≡ length items - 1 - length xs = omega (arith, e.0) in
      ap Some place ∙ found_back (Some (length xs)) (xs, Some x, j, y, h, (refl, e.1))

-- a slice's elements, from the back
pub slice_back : (s : Iter ℕ) → YieldsList iter_steps_back (λ y. y.now) s (reverse (iter_rest s))
slice_back s =
    YieldsList-from_shown iter_steps_back (λ y. y.now) (λ u. reverse (iter_rest u)) (λ u t p. length-reverse _ ∙ p.0)
    (λ u x t p. ap reverse p ∙ reverse-append (iter_rest t) (x.now ∷ [])) s

-- ---- a list

-- what is below a number that passes a test passes it too
below_too : (v last limit : ℕ) → v < last → (ltb v limit && ltb last limit) ≡ ltb last limit
below_too v last limit h = go (ltb last limit) refl
  where
    go : (b : Bool) → ltb last limit ≡ b → (ltb v limit && b) ≡ b
    go true e = rw (lt-ltb v limit (omega (arith, ltb-true last limit e)))
    go false e = and-false (ltb v limit)

-- in a rising list each is of three bytes, if the last is
last_most : (v : ℕ) (s : List ℕ) → rising (v ∷ s) ≡ true
    → three_bytes (v ∷ s) ≡ ltb (get_or (v ∷ s) (length s) 0) 0x1000000
unfolding three_bytes
last_most v [] up = and-true (ltb v 0x1000000)
last_most v (w ∷ s) up =
    rw (last_most w s (tail_rises v (w ∷ s) up))
    (below_too v (get_or (w ∷ s) (length s) 0) 0x1000000 (head_below v (w ∷ s) up (length s) (omega arith)))

last_three : (s : List ℕ) → 1 ≤ length s → rising s ≡ true
    → three_bytes s ≡ ltb (get_or s (length s - 1) 0) 0x1000000
last_three [] some up = absurd (omega arith)
last_three (v ∷ s) some up =
    let last : length s ≡ suc (length s) - 1 = omega arith in
    last_most v s up ∙ ap (λ (n : ℕ). ltb (get_or (v ∷ s) n 0) 0x1000000) last

-- so of the versions that stand
pub stand_three : (numbers : List ℕ) (n : ℕ) → length numbers ≡ 8 → 1 ≤ n → n ≤ 8 → rising (take n numbers) ≡ true
    → three_bytes (take n numbers) ≡ ltb (get_or numbers (n - 1) 0) 0x1000000
stand_three numbers n eight low high up =
    let whole : length (take n numbers) ≡ n = omega (arith, length-take n numbers) in
    let same : get_or (take n numbers) (length (take n numbers) - 1) 0 ≡ get_or numbers (n - 1) 0 =
    ap (λ (k : ℕ). get_or (take n numbers) (k - 1) 0) whole ∙ get_or-take n numbers (n - 1) 0 (omega arith) in
    last_three (take n numbers) (omega arith) up ∙ ap (λ (k : ℕ). ltb k 0x1000000) same
