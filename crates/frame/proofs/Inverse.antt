-- Writing and reading undo each other, for every kind: what is written is read as what it was, and a frame that is not
-- refused is what its fields write. Eight bytes are a list of eight, so that each kind computes; filler that was judged
-- is 0xFF, and a word is its two bytes.
-- Assumes nothing.
use Prim.Native.Nat.{ℕ, zero, suc, ◌-◌, ◌*◌, ◌<◌, ◌≤◌}
use mathlib.Core.Path.{◌≡◌, refl, sym, ap, ◌∙◌, subst}
use mathlib.Core.Bool.{Bool, true, ◌&&◌, and-eq-true_iff}
use mathlib.Core.List.{List, [], ◌∷◌}
use native.Mathlib.Omega.{arith}
use borrow.Author.Tests.{ne_eqb, le-leb, leb-true, eqb-true}
use lib.Dec.{eqb, leb, eqb-suc-zero}
use lib.ListN.{length, get_or, take, drop, replicate, length-drop}
use Rattle.frame.specs.Choice.{pick}
use Rattle.frame.specs.Content.{Content, announcement, information, lm_ack, lm_nack, end_of_ack, sm_rm, sm_ack, sm_urm, Fits, written, content_of}
use Rattle.frame.specs.Frames.{byte_of, fill_to, part_from, carried, announcement_of, information_of, lm_ack_of, lm_nack_of, end_of_ack_of, sm_rm_of, sm_urm_of, sm_ack_of}
use Rattle.frame.specs.Reading.{named_of, all_filler, has_part, clean_for, longest, read_of}
use Rattle.frame.specs.RoundTrips.{ReadBack, RoundTrips}
use Rattle.frame.specs.Result.{accepted}
use Rattle.frame.specs.declared.Frame.{Frame}
use Rattle.frame.specs.declared.Parsed.{Parsed}
use Rattle.frame.proofs.Choice.{pick_elim, pick_accepted, both_right}
use Rattle.frame.proofs.Laws.{fill, fill_whole, length_fill, filler_ends, fill_behind, fill_restores, word_whole, word_low, word_high}

pub read_written : (c : Content) → Fits c → ReadBack c
unfolding read_of content_of named_of all_filler pick announcement_of information_of lm_ack_of lm_nack_of end_of_ack_of sm_rm_of sm_urm_of sm_ack_of
read_written (announcement frames l) fits =
    record { kind = refl; read = λ _. refl; content = ap (λ (w : ℕ). announcement frames w) (word_whole l fits) }
read_written (information number bytes) fits =
    record {
      kind = refl;
      read = λ _. rw (ne_eqb number 0 (omega arith), fill 7);
      content = rw (ne_eqb number 0 (omega arith)) (ap (λ (s : List ℕ). information number s) (fill_whole 7 bytes fits.1));
    }
read_written (lm_ack start count) fits = record { kind = refl; read = λ _. refl; content = refl }
read_written (lm_nack cause) fits = record { kind = refl; read = λ _. refl; content = refl }
read_written (end_of_ack frames l) fits =
    record { kind = refl; read = λ _. refl; content = ap (λ (w : ℕ). end_of_ack frames w) (word_whole l fits) }
read_written (sm_rm bytes) fits =
    record { kind = refl; read = λ _. rw (fill 8); content = ap (λ (s : List ℕ). sm_rm s) (fill_whole 8 bytes fits) }
read_written (sm_ack first) fits = record { kind = refl; read = λ _. refl; content = refl }
read_written (sm_urm bytes) fits =
    record { kind = refl; read = λ _. rw (fill 8); content = ap (λ (s : List ℕ). sm_urm s) (fill_whole 8 bytes fits) }

-- Bytes that passed as filler are 0xFF.
pub filled : (s : List ℕ) → all_filler s ≡ true → s ≡ replicate (length s) 255
unfolding all_filler
filled [] h = refl
filled (b ∷ s) h =
    let both = (and-eq-true_iff (eqb b 255) (all_filler s)).0 h in
    let head : b ≡ 255 = eqb-true b 255 both.0 in
    let tail : s ≡ replicate (length s) 255 = filled s both.1 in
    cc

-- A frame that is not refused has a kind from 1 to 7, and its filler passed.
pub read_passed : (f : Frame) (l : ℕ) (k : Parsed) → read_of f l ≡ accepted k
    → (1 ≤ f.kind) × (f.kind ≤ 7) × (all_filler (drop (named_of f.kind (byte_of f 0)) f.bytes) ≡ true)
unfolding read_of
read_passed f l k h =
    let known = pick_accepted _ _ 6 h in
    let clean = pick_accepted _ _ 6 known.1 in
    let range = (and-eq-true_iff (leb 1 f.kind) (leb f.kind 7)).0 known.0 in
    (leb-true _ _ range.0, leb-true _ _ range.1, clean.0)

-- `written (content_of f) ≡ f` of the frame of a kind and bytes
Restored : ℕ → List ℕ → Type 0
Restored kind bytes =
    let f : Frame = record { kind = kind; bytes = bytes } in
    ((n : ℕ) → get_or bytes n 0 < 256) → (l : ℕ) (k : Parsed) → read_of f l ≡ accepted k → written (content_of f) ≡ f

module _ (b1 b2 b3 b4 b5 b6 b7 : ℕ) where
  -- an information frame, by its number
  restored_information : (number : ℕ) → Restored 1 (number ∷ b1 ∷ b2 ∷ b3 ∷ b4 ∷ b5 ∷ b6 ∷ b7 ∷ [])
  unfolding Restored content_of named_of pick fill_to announcement_of information_of
  restored_information zero bound l k h =
      let rest = filled (b4 ∷ b5 ∷ b6 ∷ b7 ∷ []) (read_passed _ l k h).2 in
      cc (word_low b2 b3 (bound 2), word_high b2 b3 (bound 2) (bound 3))
  restored_information (suc n) bound l k h = rw eqb-suc-zero

  restored : (kind b0 : ℕ) → Restored kind (b0 ∷ b1 ∷ b2 ∷ b3 ∷ b4 ∷ b5 ∷ b6 ∷ b7 ∷ [])
  unfolding Restored content_of named_of pick fill_to lm_ack_of lm_nack_of end_of_ack_of sm_rm_of sm_urm_of sm_ack_of
  restored zero b0 bound l k h = absurd (omega (arith, (read_passed _ l k h).0))
  restored (suc zero) b0 bound l k h = restored_information b0 bound l k h
  restored (suc (suc zero)) b0 bound l k h =
      let rest = filled (b2 ∷ b3 ∷ b4 ∷ b5 ∷ b6 ∷ b7 ∷ []) (read_passed _ l k h).2 in cc
  restored (suc (suc (suc zero))) b0 bound l k h =
      let rest = filled (b1 ∷ b2 ∷ b3 ∷ b4 ∷ b5 ∷ b6 ∷ b7 ∷ []) (read_passed _ l k h).2 in cc
  restored (suc (suc (suc (suc zero)))) b0 bound l k h =
      let rest = filled (b3 ∷ b4 ∷ b5 ∷ b6 ∷ b7 ∷ []) (read_passed _ l k h).2 in
      cc (word_low b1 b2 (bound 1), word_high b1 b2 (bound 1) (bound 2))
  restored (suc (suc (suc (suc (suc zero))))) b0 bound l k h = refl
  restored (suc (suc (suc (suc (suc (suc zero)))))) b0 bound l k h =
      let rest = filled (b1 ∷ b2 ∷ b3 ∷ b4 ∷ b5 ∷ b6 ∷ b7 ∷ []) (read_passed _ l k h).2 in cc
  restored (suc (suc (suc (suc (suc (suc (suc zero))))))) b0 bound l k h = refl
  restored (suc (suc (suc (suc (suc (suc (suc (suc n)))))))) b0 bound l k h = absurd (omega (arith, (read_passed _ l k h).1))

-- A frame of eight bytes that is read is what its fields write.
pub written_read : (f : Frame) → length f.bytes ≡ 8 → ((n : ℕ) → get_or f.bytes n 0 < 256) → (l : ℕ) (k : Parsed)
    → read_of f l ≡ accepted k
    → written (content_of f) ≡ f
unfolding Restored
written_read f eight =
    subst (λ (s : List ℕ). Restored f.kind s) (sym (fill 8 f.bytes) ∙ fill_whole 8 f.bytes eight)
    (restored _ _ _ _ _ _ _ f.kind _)

-- ---- document 02, E3: the filler behind a message

-- What the builder writes of a message, for any of its frames, is clean for the message's length.
pub written_clean : (number : ℕ) (m : List ℕ) → clean_for (information_of number (part_from number m)) (length m) ≡ true
unfolding clean_for information_of pick
written_clean zero m = refl
written_clean (suc n) m =
    let left : length (part_from (suc n) m) ≡ length m - 7 * (suc n - 1) = length-drop (7 * (suc n - 1)) m in
    rw (le-leb 1 (suc n) (omega arith)) (fill_behind 7 (carried (suc n) (length m)) (part_from (suc n) m) (omega arith))

-- So it is read as that.
pub read_part : (number : ℕ) (m : List ℕ) → 1 ≤ number
    → read_of (information_of number (part_from number m)) (length m)
    ≡ accepted (record { kind = 1; number = number; clean = true })
unfolding information_of
read_part number m low =
    let bytes = fill_to 7 (part_from number m) in
    let whole : fill_to 7 bytes ≡ bytes = fill_whole 7 bytes (length_fill 7 (part_from number m)) in
    let back = (read_written (information number bytes) (low, length_fill 7 (part_from number m))).read (length m) in
    let clean = written_clean number m in
    cc

-- A frame that the message fills has nothing behind it.
pub full_clean : (f : Frame) (l : ℕ) → length f.bytes ≡ 8 → 7 * byte_of f 0 ≤ l → clean_for f l ≡ true
unfolding clean_for
full_clean f l eight fits =
    pick_elim (λ (b : Bool). b ≡ true) (has_part f)
    (λ part.
    let low : 1 ≤ byte_of f 0 = leb-true 1 (byte_of f 0) (both_right (eqb f.kind 1) _ part) in
    let seven : length (drop 1 f.bytes) ≡ 7 = length-drop 1 f.bytes ∙ omega arith in
    filler_ends (drop 1 f.bytes) (carried (byte_of f 0) l) (omega arith))
    (λ none. refl)

-- And a frame that is clean for a length is what the builder writes of its bytes before that length: no other is.
pub clean_written : (f : Frame) (l : ℕ) → length f.bytes ≡ 8 → has_part f ≡ true → clean_for f l ≡ true
    → information_of (byte_of f 0) (take (carried (byte_of f 0) l) (drop 1 f.bytes)) ≡ f
unfolding clean_for information_of pick
clean_written f l eight part clean = go f.bytes eight part clean
  where
    go : (bytes : List ℕ) → length bytes ≡ 8
        → (eqb f.kind 1 && leb 1 (get_or bytes 0 0)) ≡ true
        → clean_for (record { kind = f.kind; bytes = bytes }) l ≡ true
        → information_of (get_or bytes 0 0) (take (carried (get_or bytes 0 0) l) (drop 1 bytes))
        ≡ record { kind = f.kind; bytes = bytes }
    go [] eight part clean = absurd (omega arith)
    go (b ∷ rest) eight part clean =
        let one : f.kind ≡ 1 = eqb-true f.kind 1 ((and-eq-true_iff _ _).0 part).0 in
        let filled : all_filler (drop (carried b l) rest) ≡ true = rw part at clean in
        let seven : length rest ≡ 7 = omega arith in
        let same = fill_restores (carried b l) rest filled in
        cc

pub round_trips : RoundTrips
round_trips =
    record {
      read_written = read_written;
      written_read = λ f is. written_read f is.eight is.bytes;
      read_part = read_part;
      clean_written = λ f is l. clean_written f l is.eight;
      full_clean = λ f is l. full_clean f l is.eight;
      none_awaited = λ f is. let small = is.bytes 0 in full_clean f longest is.eight (omega arith);
    }
