-- Laws on the definitions of specs/ that several proofs cite.
-- Assumes nothing.
use Prim.Native.Nat.{ℕ, zero, suc, ◌+◌, ◌*◌, ◌<◌, ◌≤◌, min}
use mathlib.Core.Path.{◌≡◌, refl, sym, ap, ◌∙◌}
use mathlib.Core.Bool.{Bool, true, false, ◌&&◌, ◌||◌, and-eq-true_iff}
use mathlib.Core.List.{List, [], ◌∷◌}
use native.Mathlib.Nat.{le_of_suc-le-suc, not-suc-le-zero}
use native.Mathlib.Omega.{arith}
use borrow.Author.Tests.{le-leb, lt-leb, leb-true, ne_eqb, eqb-true, eqb-false}
use lib.Dec.{eqb, leb}
use lib.ListN.{length, get_or, take, drop, drop_of_length-le}
use lib.Seq.{drop-drop}
use Rattle.std.specs.Array.{IsFromFnResult, IsFromFnResultFrom}
use Rattle.std.specs.Fn.{Mut, Called}
use Rattle.std.specs.List.{list_all}
use Rattle.frame.specs.Count.{frame_count_of, increment_of, low_byte, high_byte, word_of}
use Rattle.frame.specs.Choice.{pick}
use Rattle.frame.specs.Frames.{byte_of, fill_to}
use Rattle.frame.specs.Reading.{named_of, all_filler, has_part, clean_for, used_of, parsed_of, read_of}
use Rattle.frame.specs.Result.{accepted, refused}
use Rattle.frame.specs.declared.Frame.{Frame}
use Rattle.frame.proofs.Choice.{both_left, both_right, neither_left, neither_right}

-- What N is: the least number of sevens that hold l. `frame::count::frame_count` meets its contract by these bounds alone:
-- 7 × 74899 is 2^19 + 5, so that its product is at least N × 2^19 + 5 N, and at most that and 6 × 74899. N + 1 would take 74894
-- more than 6 × 74899, and 5 N is at most 5 × 9363.
pub frame_count_bounds : (l : ℕ) → (l ≤ 7 * frame_count_of l) × (7 * frame_count_of l < l + 7)
unfolding frame_count_of
frame_count_bounds l = omega arith

-- A count that is not held back grows by 1.
pub increment_is : (n : ℕ) → n < 65535 → increment_of n ≡ n + 1
unfolding increment_of
increment_is n h = omega arith

-- Of a number up to its limit, "at least" is "at"; so of a count's next, also where it is cut, since the limit is below the cut.
pub up_to : (n limit : ℕ) → n ≤ limit → leb limit n ≡ eqb n limit
up_to n limit most = go (eqb n limit) refl
  where
    go : (b : Bool) → eqb n limit ≡ b → leb limit n ≡ b
    go true e = le-leb limit n (omega (arith, eqb-true n limit e))
    go false e = lt-leb limit n (omega (arith, eqb-false n limit e))

pub at_bound : (bound count : ℕ) → bound ≤ 65535 → count < bound → leb bound (increment_of count) ≡ eqb (count + 1) bound
at_bound bound count top h = rw (increment_is count (omega arith)) (up_to (count + 1) bound (omega arith))

-- A word below 65536 is the word of its two bytes, and the two bytes of a word are those that it was made of.
pub word_whole : (w : ℕ) → w < 65536 → word_of (low_byte w) (high_byte w) ≡ w
word_whole w h = omega arith

pub word_low : (low high : ℕ) → low < 256 → low_byte (word_of low high) ≡ low
word_low low high l = omega arith

pub word_high : (low high : ℕ) → low < 256 → high < 256 → high_byte (word_of low high) ≡ high
word_high low high l h = omega arith

-- n bytes of s from place k on, 0xFF past its end
abbrev pub bytes_from : ℕ → ℕ → List ℕ → List ℕ
bytes_from zero k s = []
bytes_from (suc n) k s = get_or s k 255 ∷ bytes_from n (suc k) s

-- past the first byte, places count one less
bytes_from_tail : (n k b : ℕ) (s : List ℕ) → bytes_from n (suc k) (b ∷ s) ≡ bytes_from n k s
bytes_from_tail zero k b s = refl
bytes_from_tail (suc n) k b s = ap (λ (l : List ℕ). get_or s k 255 ∷ l) (bytes_from_tail n (suc k) b s)

fill_empty : (n k : ℕ) → fill_to n [] ≡ bytes_from n k []
unfolding fill_to
fill_empty zero k = refl
fill_empty (suc n) k = ap (λ (l : List ℕ). 255 ∷ l) (fill_empty n (suc k))

-- Filling reads the byte at each place: `fill 8 s` is a list of eight of them.
pub fill : (n : ℕ) (s : List ℕ) → fill_to n s ≡ bytes_from n 0 s
unfolding fill_to
fill zero s = refl
fill (suc n) [] = ap (λ (l : List ℕ). 255 ∷ l) (fill_empty n 1)
fill (suc n) (b ∷ s) = ap (λ (l : List ℕ). b ∷ l) (fill n s ∙ sym (bytes_from_tail n 0 b s))

-- Bytes that are what is given at each place, filler past its end, are what is given, filled.
pub filled_each : (n : ℕ) (s t : List ℕ) → length t ≡ n → ((i : ℕ) → i < n → get_or t i 0 ≡ get_or s i 255) → t ≡ fill_to n s
unfolding fill_to
filled_each zero s [] h each = refl
filled_each zero s (b ∷ t) h each = absurd (omega arith)
filled_each (suc n) s [] h each = absurd (omega arith)
filled_each (suc n) [] (b ∷ t) h each =
    let first : b ≡ 255 = each 0 (omega arith) in
    let more : t ≡ fill_to n [] = filled_each n [] t (omega arith) (λ i k. each (suc i) (omega arith)) in
    cc
filled_each (suc n) (a ∷ s) (b ∷ t) h each =
    let first : b ≡ a = each 0 (omega arith) in
    let more : t ≡ fill_to n s = filled_each n s t (omega arith) (λ i k. each (suc i) (omega arith)) in
    cc

-- What a closure gives at the places from i on, while its calls leave it as it is.
made_from : {F : Type 0} (g : Mut F (ℕ × Unit {0}) ℕ) (f : F) (h : ℕ → ℕ) (t : List ℕ)
    → ((i y : ℕ) (q : F) → Called g f (i, tt) y q → (q ≡ f) × (y ≡ h i))
    → (n i j k : ℕ) (q : F) → q ≡ f → i + j ≡ k → j < n → IsFromFnResultFrom g q t i n → get_or t k 0 ≡ h k
made_from g f h t one zero i j k q same at within made = absurd (omega arith)
made_from g f h t one (suc n) i zero k q same at within made =
    let call : Called g f (i, tt) made.1 made.0 = rw same at made.3 in
    let step = one i made.1 made.0 call in
    let here : i ≡ k = omega arith in
    let value : get_or t i 0 ≡ made.1 = made.2.1 0 in
    let given : made.1 ≡ h i = step.1 in
    rw here at (value ∙ given)
made_from g f h t one (suc n) i (suc j) k q same at within made =
    let call : Called g f (i, tt) made.1 made.0 = rw same at made.3 in
    let step = one i made.1 made.0 call in
    made_from g f h t one n (i + 1) j k made.0 step.0 (omega arith) (omega arith) made.4

-- So an array of what a closure gives at its places.
pub made_each : {F : Type 0} {g : Mut F (ℕ × Unit {0}) ℕ} {f : F} {t : List ℕ} {n : ℕ} (h : ℕ → ℕ) → IsFromFnResult g f t n
    → ((i y : ℕ) (q : F) → Called g f (i, tt) y q → (q ≡ f) × (y ≡ h i))
    → (k : ℕ) → k < n → get_or t k 0 ≡ h k
made_each {g = g} {f = f} {t = t} {n = n} h made one k within = made_from g f h t one n 0 k k f refl (omega arith) within made.each

-- As many bytes as are asked for stay as they are.
pub fill_whole : (n : ℕ) (s : List ℕ) → length s ≡ n → fill_to n s ≡ s
unfolding fill_to
fill_whole zero [] h = refl
fill_whole zero (b ∷ s) h = absurd (omega arith)
fill_whole (suc n) [] h = absurd (omega arith)
fill_whole (suc n) (b ∷ s) h = ap (λ (l : List ℕ). b ∷ l) (fill_whole n s (omega arith))

-- Filling gives that many bytes, and within what is given it changes nothing.
pub length_fill : (n : ℕ) (given : List ℕ) → length (fill_to n given) ≡ n
unfolding fill_to
length_fill zero given = refl
length_fill (suc n) [] = ap suc (length_fill n [])
length_fill (suc n) (b ∷ given) = ap suc (length_fill n given)

pub take_fill : (k n : ℕ) (given : List ℕ) → k ≤ n → k ≤ length given → take k (fill_to n given) ≡ take k given
unfolding fill_to
take_fill zero n given h g = refl
take_fill (suc k) zero given h g = absurd (not-suc-le-zero h)
take_fill (suc k) (suc n) [] h g = absurd (not-suc-le-zero g)
take_fill (suc k) (suc n) (b ∷ given) h g =
    ap (λ (l : List ℕ). b ∷ l) (take_fill k n given (le_of_suc-le-suc h) (le_of_suc-le-suc g))

-- Behind what is given stands nothing but filler; and where nothing else stands behind c bytes, filling these c restores all.
pub fill_behind : (n k : ℕ) (given : List ℕ) → min n (length given) ≤ k → all_filler (drop k (fill_to n given)) ≡ true
unfolding fill_to all_filler
fill_behind zero zero given h = refl
fill_behind zero (suc k) given h = refl
fill_behind (suc n) zero [] h = fill_behind n zero [] (omega arith)
fill_behind (suc n) (suc k) [] h = fill_behind n k [] (omega arith)
fill_behind (suc n) zero (b ∷ given) h = absurd (omega arith)
fill_behind (suc n) (suc k) (b ∷ given) h = fill_behind n k given (omega arith)

pub fill_restores : (c : ℕ) (s : List ℕ) → all_filler (drop c s) ≡ true → fill_to (length s) (take c s) ≡ s
unfolding fill_to all_filler
fill_restores zero [] h = refl
fill_restores zero (b ∷ s) h =
    let both = (and-eq-true_iff (eqb b 255) (all_filler s)).0 h in
    let head : b ≡ 255 = eqb-true b 255 both.0 in
    let tail : fill_to (length s) [] ≡ s = fill_restores zero s both.1 in
    cc
fill_restores (suc c) [] h = refl
fill_restores (suc c) (b ∷ s) h = ap (λ (l : List ℕ). b ∷ l) (fill_restores c s h)

pub filler_ends : (s : List ℕ) (i : ℕ) → length s ≤ i → all_filler (drop i s) ≡ true
unfolding all_filler
filler_ends s i h = rw (drop_of_length-le s h)

-- Reading goes by the range of the kind, then by the filler.
module _ (f : Frame) (l : ℕ) where
  pub read_low : f.kind < 1 → refused 6 ≡ read_of f l
  unfolding read_of pick
  read_low h = rw (lt-leb _ _ h)

  pub read_high : 8 ≤ f.kind → refused 6 ≡ read_of f l
  unfolding read_of pick
  read_high h = rw (le-leb 1 f.kind (omega arith), lt-leb f.kind 7 (omega arith))

  module _ (low : 1 ≤ f.kind) (high : f.kind < 8) {filler : Bool}
      (e : filler ≡ all_filler (drop (named_of f.kind (byte_of f 0)) f.bytes)) where
    pub read_filled : {clean : Bool} → clean ≡ clean_for f l → filler ≡ true
        → accepted (record { kind = f.kind; number = byte_of f 0; clean = clean }) ≡ read_of f l
    unfolding read_of pick
    read_filled c t = rw (le-leb 1 f.kind low, le-leb f.kind 7 (omega arith), sym e, t, c)

    pub read_unfilled : filler ≡ false → refused 6 ≡ read_of f l
    unfolding read_of pick
    read_unfilled t = rw (le-leb 1 f.kind low, le-leb f.kind 7 (omega arith), sym e, t)

  -- of an information frame from number 1 on, 6 judges no byte
  pub read_information : f.kind ≡ 1 → 1 ≤ byte_of f 0 → length f.bytes ≡ 8 → read_of f l ≡ accepted (parsed_of f l)
  unfolding named_of pick
  read_information one low eight =
      let named : named_of f.kind (byte_of f 0) ≡ 8 = rw (one, ne_eqb (byte_of f 0) 0 (omega arith)) in
      sym (read_filled (omega arith) (omega arith) (sym (filler_ends f.bytes (named_of f.kind (byte_of f 0)) (omega arith))) refl refl)

  -- One judgement serves both: of a frame with a part whether it is clean, of every other whether it is refused.
  module _ {used : ℕ} {filled : Bool} (low : 1 ≤ f.kind) (high : f.kind < 8) (u : used ≡ used_of f l)
      (e : filled ≡ all_filler (drop used f.bytes)) where
    -- with a part: the bytes behind the message were judged
    of_part : length f.bytes ≡ 8 → has_part f ≡ true
        → accepted (record { kind = f.kind; number = byte_of f 0; clean = filled }) ≡ read_of f l
    unfolding clean_for used_of pick
    of_part eight has =
        let one = eqb-true f.kind 1 (both_left _ _ has) in
        let from = leb-true 1 (byte_of f 0) (both_right (eqb f.kind 1) _ has) in
        let behind : filled ≡ clean_for f l = rw has (e ∙ rw (u, has, drop-drop)) in
        ap (λ (c : Bool). accepted (record { kind = f.kind; number = byte_of f 0; clean = c })) behind
        ∙ sym (read_information one from eight)

    -- without one: those behind what the kind names
    named_judged : has_part f ≡ false → filled ≡ all_filler (drop (named_of f.kind (byte_of f 0)) f.bytes)
    unfolding used_of pick
    named_judged none = e ∙ rw (u, none)

    -- full of the message, whatever its kind
    read_filled_whole : filled ≡ true → length f.bytes ≡ 8
        → accepted (record { kind = f.kind; number = byte_of f 0; clean = true }) ≡ read_of f l
    unfolding clean_for pick
    read_filled_whole t eight = go (has_part f) refl
      where
        go : (b : Bool) → has_part f ≡ b → accepted (record { kind = f.kind; number = byte_of f 0; clean = true }) ≡ read_of f l
        go true has = rw t at (of_part eight has)
        go false none = let whole : true ≡ clean_for f l = rw none refl in read_filled low high (named_judged none) whole t

    module _ {part : Bool} (p : part ≡ has_part f) where
      pub read_passes : length f.bytes ≡ 8 → (filled || part) ≡ true
          → accepted (record { kind = f.kind; number = byte_of f 0; clean = filled }) ≡ read_of f l
      read_passes eight t = go filled refl
        where
          go : (b : Bool) → filled ≡ b → accepted (record { kind = f.kind; number = byte_of f 0; clean = filled }) ≡ read_of f l
          go true whole = rw whole (read_filled_whole whole eight)
          go false dirty = of_part eight (sym p ∙ (rw dirty at t))

      pub read_dirty : (filled || part) ≡ false → refused 6 ≡ read_of f l
      read_dirty t = read_unfilled low high (named_judged (sym p ∙ neither_right filled part t)) (neither_left filled part t)

pub ruleset reads = (read_low, read_high, read_passes, read_dirty)

-- The test of every byte, as the code makes it.
pub filler_listed : (s : List ℕ) → list_all (λ b. eqb b 255) s ≡ all_filler s
unfolding all_filler
filler_listed [] = refl
filler_listed (b ∷ s) = ap (λ (t : Bool). eqb b 255 && t) (filler_listed s)
