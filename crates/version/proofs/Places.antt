-- What a list that is accepted holds, and what the places found in it are. Rising goes from each
-- version to the next, so from each to every later one; a place is found at the first version that
-- is the one sought, or at the last that is below it.
-- Assumes nothing.
use Prim.Native.Nat.{ℕ, zero, suc, ◌+◌, ◌*◌, ◌<◌, ◌≤◌}
use mathlib.Core.Path.{◌≡◌, refl, sym, ap, ◌∙◌, subst}
use mathlib.Core.Bool.{Bool, true, false, ◌&&◌, and-eq-true_iff}
use mathlib.Core.List.{List, [], ◌∷◌, ◌++◌}
use mathlib.Core.Logic.{⊎_elim}
use native.Mathlib.Nat.{eq-or-lt_of_le}
use native.Mathlib.Omega.{arith}
use borrow.Author.Tests.{leb-true, ltb-true, ltb-false, eqb-true, eqb-false}
use lib.Dec.{eqb, leb, ltb}
use lib.ListN.{length, get_or, replicate, length-take, length-append, length-replicate}
use lib.Seq.{get_or-take, take-take, take-append_seam}
use Rattle.frame.proofs.Choice.{pick_accepted, both_left, both_right}
use Rattle.frame.specs.Choice.{pick}
use Rattle.frame.specs.Count.{within}
use Rattle.frame.specs.Result.{accepted}
use Rattle.std.proofs.lemmas.Option.{none-some}
use Rattle.std.specs.Prelude.{Some, None}
use Rattle.std.specs.declared.option.Option.{Option}
use Rattle.version.specs.List.{at, versions_in, rising, three_bytes, placed, standing, is_list, is_lent, list_of, or_else, place_of, place_below}
use Rattle.version.specs.Talk.{fresh, make_of}
use Rattle.version.specs.declared.Side.{Side}
use Rattle.version.specs.declared.Talker.{Talker}
use Rattle.version.specs.declared.Versions.{Versions}

-- ---- an accepted list

-- the first version is below every later one
pub head_below : (v : ℕ) (s : List ℕ) → rising (v ∷ s) ≡ true → (j : ℕ) → j < length s → v < get_or s j 0
unfolding rising
head_below v [] h j l = absurd (omega arith)
head_below v (w ∷ s) h zero l = ltb-true v w ((and-eq-true_iff (ltb v w) (rising (w ∷ s))).0 h).0
head_below v (w ∷ s) h (suc j) l =
    let both = (and-eq-true_iff (ltb v w) (rising (w ∷ s))).0 h in
    omega (arith, ltb-true v w both.0, head_below w s both.1 j (omega arith))

pub tail_rises : (v : ℕ) (s : List ℕ) → rising (v ∷ s) ≡ true → rising s ≡ true
unfolding rising
tail_rises v [] h = refl
tail_rises v (w ∷ s) h = ((and-eq-true_iff (ltb v w) (rising (w ∷ s))).0 h).1

pub rising_below : (s : List ℕ) → rising s ≡ true → (i j : ℕ) → i < j → j < length s
    → get_or s i 0 < get_or s j 0
rising_below [] h i j l k = absurd (omega arith)
rising_below (v ∷ s) h i zero l k = absurd (omega arith)
rising_below (v ∷ s) h zero (suc j) l k = head_below v s h j (omega arith)
rising_below (v ∷ s) h (suc i) (suc j) l k = rising_below s (tail_rises v s h) i j (omega arith) (omega arith)

-- the four tests of a list
pub record Listing (v : Versions) : Type 0 where
  pub some : 1 ≤ v.count
  pub few : v.count ≤ 8
  pub rises : rising (standing v) ≡ true
  pub three : three_bytes (standing v) ≡ true

pub list_is : (v : Versions) → is_list v ≡ true → Listing v
unfolding is_list
list_is v h =
    let s : List ℕ = standing v in
    let count = both_left (within 1 v.count 8) (rising s && three_bytes s) h in
    let rest = both_right (within 1 v.count 8) (rising s && three_bytes s) h in
    record {
      some = leb-true _ _ (both_left (leb 1 v.count) (leb v.count 8) count);
      few = leb-true _ _ (both_right (leb 1 v.count) (leb v.count 8) count);
      rises = both_left (rising s) (three_bytes s) rest;
      three = both_right (rising s) (three_bytes s) rest;
    }

pub three_bytes_lem : (s : List ℕ) → three_bytes s ≡ true → (i : ℕ) → get_or s i 0 < 0x1000000
unfolding three_bytes
three_bytes_lem [] h i = omega arith
three_bytes_lem (v ∷ s) h zero = ltb-true v 0x1000000 (both_left (ltb v 0x1000000) (three_bytes s) h)
three_bytes_lem (v ∷ s) h (suc i) = three_bytes_lem s (both_right (ltb v 0x1000000) (three_bytes s) h) i

-- what holds of a list at its places
pub record Standing (v : Versions) : Type 0 where
  pub some : 1 ≤ v.count
  pub few : v.count ≤ 8
  pub whole : length (standing v) ≡ v.count
  pub rises : rising (standing v) ≡ true
  pub three : (i : ℕ) → get_or (standing v) i 0 < 0x1000000
  pub below : (i j : ℕ) → i < j → j < length (standing v)
      → get_or (standing v) i 0 < get_or (standing v) j 0

pub list_stands : (v : Versions) → length v.numbers ≡ 8 → is_list v ≡ true → Standing v
list_stands v eight h =
    let list = list_is v h in
    let whole : length (standing v) ≡ v.count = omega (arith, length-take v.count v.numbers) in
    record {
      some = list.some;
      few = list.few;
      whole = whole;
      rises = list.rises;
      three = three_bytes_lem (standing v) list.three;
      below = rising_below (standing v) list.rises;
    }

placed_eight : (s : List ℕ) → length (placed s).numbers ≡ 8
placed_eight s =
    let zeros : List ℕ = replicate 8 0 in
    omega (arith, length-take 8 (s ++ zeros), length-append s zeros, length-replicate {A = ℕ} 8 0)

standing_placed : (s : List ℕ) → length s ≤ 8 → standing (placed s) ≡ s
standing_placed s h = take-take (length s) 8 (s ++ replicate 8 0) h ∙ take-append_seam s (replicate 8 0)

pub listed_stands : (bytes : List ℕ) (v : Versions) → list_of bytes ≡ accepted v
    → Standing v × (standing v ≡ versions_in bytes)
unfolding list_of
listed_stands bytes v h =
    let s : List ℕ = versions_in bytes in
    let taken = pick_accepted (is_lent bytes s) (accepted (placed s)) 11 h in
    let list : is_list (placed s) ≡ true = both_right (eqb (length bytes) (3 * length s)) (is_list (placed s)) taken.0 in
    let stands = list_stands (placed s) (placed_eight s) list in
    let same : placed s ≡ v = cc taken.1 in
    subst (λ (x : Versions). Standing x × (standing x ≡ s)) same (stands, standing_placed s stands.few)

-- it is kept in eight places
pub listed_eight : (bytes : List ℕ) (v : Versions) → list_of bytes ≡ accepted v → length v.numbers ≡ 8
unfolding list_of
listed_eight bytes v h =
    let s : List ℕ = versions_in bytes in
    let same : placed s ≡ v = cc (pick_accepted (is_lent bytes s) (accepted (placed s)) 11 h).1 in
    subst (λ (x : Versions). length x.numbers ≡ 8) same (placed_eight s)

-- the version at a place that stands
pub at_standing : (v : Versions) (p : ℕ) → p < length (standing v) → get_or (standing v) p 0 ≡ at v p
at_standing v p h = get_or-take v.count v.numbers p 0 (omega (arith, length-take v.count v.numbers))

-- what making takes is a list, and what it answers is fresh
pub made_is : (side : Side) (v : Versions) (control : ℕ) (t : Talker) → make_of side v control ≡ accepted t
    → (is_list v ≡ true) × (fresh side v control ≡ t)
unfolding make_of
made_is side v control t h =
    let taken = pick_accepted (is_list v) (accepted (fresh side v control)) 11 h in
    let same : fresh side v control ≡ t = cc taken.1 in
    (taken.0, same)

-- ---- the place of a version

-- a place found, counted from n: the version stands there
pub record Found (s : List ℕ) (version n p : ℕ) : Type 0 where
  pub k : ℕ
  pub place : p ≡ n + k
  pub inside : k < length s
  pub is : get_or s k 0 ≡ version

module _ (v : ℕ) (s : List ℕ) (version n : ℕ) where
  found_first : (b : Bool) (p : ℕ) → eqb v version ≡ b
      → (place_of s version (n + 1) ≡ Some p → Found s version (n + 1) p)
      → pick b (Some n) (place_of s version (n + 1)) ≡ Some p → Found (v ∷ s) version n p
  unfolding pick
  found_first true p t later e =
      let same : n ≡ p = cc in
      record { k = 0; place = omega arith; inside = omega arith; is = eqb-true v version t }
  found_first false p t later e =
      let r = later e in
      record { k = suc r.k; place = omega (arith, r.place); inside = omega (arith, r.inside); is = r.is }

  missing_first : (b : Bool) → eqb v version ≡ b
      → (place_of s version (n + 1) ≡ None → (i : ℕ) → i < length s → get_or s i 0 ≡ version → ⊥)
      → pick b (Some n) (place_of s version (n + 1)) ≡ None → (i : ℕ) → i < suc (length s)
      → get_or (v ∷ s) i 0 ≡ version → ⊥
  unfolding pick
  missing_first true t later e i l same = none-some _ (sym e)
  missing_first false t later e zero l same = eqb-false v version t same
  missing_first false t later e (suc i) l same = later e i (omega arith) same

found : (s : List ℕ) (version n p : ℕ) → place_of s version n ≡ Some p → Found s version n p
unfolding place_of
found [] version n p h = absurd (none-some _ h)
found (v ∷ s) version n p h = found_first v s version n (eqb v version) p refl (found s version (n + 1) p) h

missing : (s : List ℕ) (version n : ℕ) → place_of s version n ≡ None → (i : ℕ) → i < length s
    → get_or s i 0 ≡ version → ⊥
unfolding place_of
missing [] version n h i l e = omega arith
missing (v ∷ s) version n h i l e = missing_first v s version n (eqb v version) refl (missing s version (n + 1)) h i l e

-- "in the own list": a place that is found holds the version, and where none is found no place does
pub place_of_holds : (s : List ℕ) (version p : ℕ) → place_of s version 0 ≡ Some p
    → (p < length s) × (get_or s p 0 ≡ version)
place_of_holds s version p h =
    let r = found s version 0 p h in
    let same : r.k ≡ p = omega (arith, r.place) in
    (omega (arith, r.inside), ap (λ (i : ℕ). get_or s i 0) (sym same) ∙ r.is)

pub place_of_none : (s : List ℕ) (version : ℕ) → place_of s version 0 ≡ None
    → (i : ℕ) → i < length s → get_or s i 0 ≡ version → ⊥
place_of_none s version h = missing s version 0 h

-- ---- the highest version below

-- a place found, counted from n: the version there is below, and none after it is
pub record Below (s : List ℕ) (version n p : ℕ) : Type 0 where
  pub k : ℕ
  pub place : p ≡ n + k
  pub inside : k < length s
  pub less : get_or s k 0 < version
  pub last : (i : ℕ) → k < i → i < length s → version ≤ get_or s i 0

module _ (v : ℕ) (s : List ℕ) (version n : ℕ) where
  none_first : (b : Bool) (q : Option ℕ) → ltb v version ≡ b
      → (q ≡ None → (i : ℕ) → i < length s → version ≤ get_or s i 0)
      → or_else q (pick b (Some n) None) ≡ None
      → (i : ℕ) → i < suc (length s) → version ≤ get_or (v ∷ s) i 0
  unfolding pick
  none_first true None t later e i l = absurd (none-some _ (sym e))
  none_first b (Some p) t later e i l = absurd (none-some _ (sym e))
  none_first false None t later e zero l = ltb-false v version t
  none_first false None t later e (suc i) l = later refl i (omega arith)

  -- what holds after a place of the rest holds after the next place of the whole
  after : (k : ℕ) → ((i : ℕ) → k < i → i < length s → version ≤ get_or s i 0)
      → (i : ℕ) → suc k < i → i < suc (length s) → version ≤ get_or (v ∷ s) i 0
  after k m zero a l = absurd (omega arith)
  after k m (suc i) a l = m i (omega arith) (omega arith)

  after_first : ((i : ℕ) → i < length s → version ≤ get_or s i 0)
      → (i : ℕ) → 0 < i → i < suc (length s) → version ≤ get_or (v ∷ s) i 0
  after_first m zero a l = absurd (omega arith)
  after_first m (suc i) a l = m i (omega arith)

  below_next : {p : ℕ} → Below s version (n + 1) p → Below (v ∷ s) version n p
  below_next r =
      record {
        k = suc r.k;
        place = omega (arith, r.place);
        inside = omega (arith, r.inside);
        less = r.less;
        last = after r.k r.last;
      }

  below_first : (b : Bool) (q : Option ℕ) (p : ℕ) → ltb v version ≡ b
      → (q ≡ None → (i : ℕ) → i < length s → version ≤ get_or s i 0)
      → (q ≡ Some p → Below s version (n + 1) p)
      → or_else q (pick b (Some n) None) ≡ Some p
      → Below (v ∷ s) version n p
  unfolding pick
  below_first true None p t none later e =
      let same : n ≡ p = cc in
      record {
        k = 0;
        place = omega arith;
        inside = omega arith;
        less = ltb-true v version t;
        last = after_first (none refl);
      }
  below_first false None p t none later e = absurd (none-some _ e)
  below_first b (Some q) p t none later e = below_next (later e)

none_below : (s : List ℕ) (version n : ℕ) → place_below s version n ≡ None → (i : ℕ)
    → i < length s → version ≤ get_or s i 0
unfolding place_below
none_below [] version n h i l = absurd (omega arith)
none_below (v ∷ s) version n h i l =
    none_first v s version n (ltb v version) (place_below s version (n + 1)) refl (none_below s version (n + 1)) h i l

below : (s : List ℕ) (version n p : ℕ) → place_below s version n ≡ Some p → Below s version n p
unfolding place_below
below [] version n p h = absurd (none-some _ h)
below (v ∷ s) version n p h =
    below_first v s version n (ltb v version) (place_below s version (n + 1)) p refl (none_below s version (n + 1)) (below s version (n + 1) p) h

-- In a rising list the place found holds the highest version below: it is below, and every version
-- below is at most it.
pub record Highest (s : List ℕ) (version p : ℕ) : Type 0 where
  pub inside : p < length s
  pub less : get_or s p 0 < version
  pub most : (i : ℕ) → i < length s → get_or s i 0 < version → get_or s i 0 ≤ get_or s p 0

module _ (s : List ℕ) (up : rising s ≡ true) where
  -- the later place has the higher version
  pub most_by : (i k : ℕ) → i < length s → k < length s → (k < i → ⊥) → get_or s i 0 ≤ get_or s k 0
  most_by i k l m other =
      ⊎_elim (λ same. omega (arith, ap (λ (x : ℕ). get_or s x 0) same)) (λ less. omega (arith, rising_below s up i k less m))
      (eq-or-lt_of_le {n = i} {m = k} (omega arith))

  pub place_below_highest : (version p : ℕ) → place_below s version 0 ≡ Some p → Highest s version p
  place_below_highest version p h =
      let r = below s version 0 p h in
      let same : r.k ≡ p = omega (arith, r.place) in
      subst (λ (k : ℕ). Highest s version k) same
      (record {
        inside = r.inside;
        less = r.less;
        most = λ i l less. most_by i r.k l r.inside (λ a. let far = r.last i a l in omega arith);
      })

pub place_below_none : (s : List ℕ) (version : ℕ) → place_below s version 0 ≡ None
    → (i : ℕ) → i < length s → version ≤ get_or s i 0
place_below_none s version h = none_below s version 0 h
