-- What a receiver that expects the last frame shows at it depends on L and on whether the frame is clean; and with one byte
-- replaced it is clean just if that byte is one of the message.
-- Assumes nothing.
use mathlib.Core.Path.{◌≡◌, refl, ap, ◌∙◌}
use mathlib.Core.Bool.{Bool, true, false, and-false}
use mathlib.Core.List.{List, [], ◌∷◌}
use Prim.Native.Nat.{ℕ, zero, suc, ◌-◌, ◌*◌, ◌≤◌, ◌<◌}
use native.Mathlib.Omega.{arith}
use borrow.Author.Tests.{le-leb, le-ltb, eq-eqb, ne_eqb, leb-true, leb-false}
use lib.Dec.{eqb, leb}
use lib.ListN.{length, drop, set, length-drop, length-set}
use lib.Seq.{drop-set-lt}
use Rattle.frame.proofs.Inverse.{written_clean}
use Rattle.frame.proofs.Laws.{frame_count_bounds, length_fill, fill_behind, read_information}
use Rattle.frame.specs.Choice.{pick}
use Rattle.frame.specs.Count.{frame_count_of}
use Rattle.frame.specs.Frames.{fill_to, part_from, carried, information_of, end_of_ack_of}
use Rattle.frame.specs.Reading.{all_filler, clean_for}
use Rattle.frame.specs.declared.Frame.{Frame}
use Rattle.receiver.specs.Hear.{stored, information_expected, information_open, hear_information, hear_numbered, hear_unless_held, hear_kind, hear_read, hear_of}
use Rattle.receiver.specs.State.{in_phase}
use Rattle.receiver.specs.Told.{Heard}
use Rattle.receiver.specs.declared.Connection.{Connection}
use Rattle.receiver.specs.declared.Phase.{Phase}
use Rattle.receiver.specs.declared.Phase.TheVariants.{Idle, Done, Open}
use Rattle.receiver.specs.declared.Receiver.{Receiver}
use Rattle.cases.specs.Answer.{shown_heard, with_report, last_of, with_byte}
use Rattle.cases.specs.Claim.{ExpectsLast}
use Rattle.cases.specs.Row.{delivered, refusal}

-- the numbers that it shows, by whether the frame is clean
pub last_numbers : ℕ → Bool → List ℕ
last_numbers l clean = pick clean (delivered (frame_count_of l) l) (refusal 14)

-- frame N carries a byte of the message at this place
abbrev pub is_carried : ℕ → ℕ → Bool
is_carried place l = leb place (carried (frame_count_of l) l)

-- a long message has a frame
some_frame : (l : ℕ) → 9 ≤ l → 1 ≤ frame_count_of l
some_frame l long = omega (arith, frame_count_bounds l)

-- frame N, where it is expected, is delivered or refused by its filler alone
by_filler : (r : Receiver) (x : Connection) (bytes buffer : List ℕ) (clean : Bool) → x.expected ≡ x.frames
    → shown_heard (information_expected r x (record { kind = 1; number = x.frames; clean = clean }) bytes buffer).told
    ≡ pick clean (delivered x.frames x.length) (refusal 14)
unfolding information_expected stored end_of_ack_of with_report pick
by_filler r x bytes buffer true last = rw (eq-eqb x.frames x.frames refl, eq-eqb x.expected x.frames last)
by_filler r x bytes buffer false last = rw (eq-eqb x.frames x.frames refl)

-- and no test before this one holds it back
module _ (r : Receiver) (s buffer : List ℕ) (l : ℕ) (seven : length s ≡ 7) (lent : length buffer ≡ 1785) (long : 9 ≤ l) where
  frame_n : Frame
  frame_n = record { kind = 1; bytes = frame_count_of l ∷ s }

  reaches : (x : Connection) → ExpectsLast (Open x) l
      → hear_of (in_phase r (Open x)) frame_n buffer
      ≡ information_expected (in_phase r (Open x)) x (record { kind = 1; number = x.frames; clean = clean_for frame_n l }) s buffer
  unfolding frame_n hear_of hear_read hear_kind hear_unless_held hear_numbered hear_information information_open pick
  reaches x (long-l, frames, last, free) =
      let some = some_frame l long in
      rw (
        lent,
        long-l,
        read_information frame_n l refl (omega arith) (omega arith),
        free,
        ne_eqb (frame_count_of l) 0 (omega arith),
        last,
        frames,
        le-ltb (frame_count_of l) (frame_count_of l) (omega arith),
        eq-eqb (frame_count_of l) (frame_count_of l) refl,
      )

  by_phase : (p : Phase) → ExpectsLast p l
      → shown_heard (hear_of (in_phase r p) frame_n buffer).told ≡ last_numbers l (clean_for frame_n l)
  unfolding last_numbers
  by_phase Idle none = absurd none
  by_phase (Done x) none = absurd none
  by_phase (Open x) (long-l, frames, last, free) =
      ap (λ (h : Heard). shown_heard h.told) (reaches x (long-l, frames, last, free))
      ∙ by_filler (in_phase r (Open x)) x s buffer (clean_for frame_n l) last
      ∙ rw (long-l, frames)

-- a byte that is not filler shows, wherever it stands from place k on
unfilled : (k i byte : ℕ) (s : List ℕ) → k ≤ i → i < length s → (byte ≡ 255 → ⊥) → all_filler (drop k (set s i byte)) ≡ false
unfolding all_filler
unfilled k i byte [] h inside other = absurd (omega arith)
unfilled zero zero byte (b ∷ s) h inside other = rw (ne_eqb byte 255 other)
unfilled zero (suc i) byte (b ∷ s) h inside other =
    rw (unfilled zero i byte s (omega arith) (omega arith) other) (and-false (eqb b 255))
unfilled (suc k) zero byte (b ∷ s) h inside other = absurd (omega arith)
unfilled (suc k) (suc i) byte (b ∷ s) h inside other = unfilled k i byte s (omega arith) (omega arith) other

-- so a frame in which a byte of d1 to d7 is replaced is clean just if it carries a byte of the message there
clean_with : (number place byte : ℕ) (m : List ℕ) → 1 ≤ number → 1 ≤ place → place ≤ 7 → (byte ≡ 255 → ⊥)
    → clean_for (with_byte (information_of number (part_from number m)) place byte) (length m) ≡ leb place (carried number (length m))
unfolding clean_for information_of pick
clean_with number zero byte m low one top other = absurd (omega arith)
clean_with number (suc i) byte m low one top other =
    rw (le-leb 1 number low) (go (leb (suc i) (carried number (length m))) refl)
  where
    go : (t : Bool) → leb (suc i) (carried number (length m)) ≡ t
        → all_filler (drop (carried number (length m)) (set (fill_to 7 (part_from number m)) i byte)) ≡ t
    go true e =
        let left : length (part_from number m) ≡ length m - 7 * (number - 1) = length-drop (7 * (number - 1)) m in
        ap all_filler (drop-set-lt (carried number (length m)) (fill_to 7 (part_from number m)) i byte (leb-true _ _ e))
        ∙ fill_behind 7 (carried number (length m)) (part_from number m) (omega arith)
    go false e =
        let seven : length (fill_to 7 (part_from number m)) ≡ 7 = length_fill 7 (part_from number m) in
        let behind : carried number (length m) < suc i = leb-false _ _ e in
        unfilled (carried number (length m)) i byte (fill_to 7 (part_from number m)) (omega arith) (omega arith) other

-- d1 to d7 of a message's last frame
abbrev last_bytes : List ℕ → List ℕ
last_bytes message = fill_to 7 (part_from (frame_count_of (length message)) message)

last_seven : (message : List ℕ) → length (last_bytes message) ≡ 7
last_seven message = length_fill 7 (part_from (frame_count_of (length message)) message)

module _ (r : Receiver) (message buffer : List ℕ)
    (long : 9 ≤ length message) (expects : ExpectsLast r.phase (length message)) (lent : length buffer ≡ 1785) where
  pub last_shows : shown_heard (hear_of r (last_of message) buffer).told ≡ last_numbers (length message) true
  unfolding information_of frame_n
  last_shows =
      by_phase r (last_bytes message) buffer (length message) (last_seven message) lent long r.phase expects
      ∙ ap (last_numbers (length message)) (written_clean (frame_count_of (length message)) message)

  pub last_with_shows : (place byte : ℕ) → 1 ≤ place → place ≤ 7 → (byte ≡ 255 → ⊥)
      → shown_heard (hear_of r (with_byte (last_of message) place byte) buffer).told
      ≡ last_numbers (length message) (is_carried place (length message))
  unfolding information_of frame_n
  last_with_shows zero byte one top other = absurd (omega arith)
  last_with_shows (suc i) byte one top other =
      let seven = length-set (last_bytes message) i byte ∙ last_seven message in
      by_phase r (set (last_bytes message) i byte) buffer (length message) seven lent long r.phase expects
      ∙ ap (last_numbers (length message))
      (clean_with (frame_count_of (length message)) (suc i) byte message (some_frame (length message) long) one top other)
