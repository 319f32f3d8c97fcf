-- What the receiver answers in a clean transfer of m, call by call: its wait is short of T, and each frame heard is the one
-- that it expects or, where frames are repeated, one that it has heard already.
-- Assumes nothing.
use Prim.Native.Nat.{ℕ, suc, ◌+◌, ◌-◌, ◌≤◌, ◌<◌}
use mathlib.Core.Bool.{false, and-false}
use mathlib.Core.Path.{◌≡◌, refl, ap, ◌∙◌}
use mathlib.Core.List.{List}
use native.Mathlib.Omega.{arith}
use borrow.Author.Tests.{le-leb, lt-leb, le-ltb, eq-eqb, ne_eqb}
use lib.ListN.{length}
use Rattle.frame.proofs.Choice.{pick_elim}
use Rattle.frame.proofs.Inverse.{written_clean}
use Rattle.frame.proofs.Laws.{increment_is, word_whole, length_fill, read_information}
use Rattle.frame.specs.Choice.{pick}
use Rattle.frame.specs.Frames.{fill_to, part_from, announcement_of, information_of, lm_ack_of, end_of_ack_of}
use Rattle.frame.specs.Reading.{longest, parsed_of, read_of, named_of, all_filler}
use Rattle.frame.specs.Result.{accepted}
use Rattle.receiver.proofs.View.{receiver_in}
use Rattle.receiver.specs.Hear.{announce_idle, announce_open, hear_announcement, stored, storing, information_expected, information_open, information_done, hear_information, hear_numbered, hear_unless_held, hear_kind, hear_read, hear_of}
use Rattle.receiver.specs.Tick.{tick_open, tick_phase, tick_of}
use Rattle.receiver.specs.Told.{Told, Heard, heard, silently, emitting, delivering}
use Rattle.receiver.specs.Window.{window_of, window_ack}
use Rattle.receiver.specs.declared.Connection.{Connection}
use Rattle.receiver.specs.declared.Misses.{Misses}
use Rattle.receiver.specs.declared.Misses.TheVariants.{NoneAfterAck, NoneAfterFrame}
use Rattle.receiver.specs.declared.Phase.{Phase}
use Rattle.receiver.specs.declared.Phase.TheVariants.{Idle, Done, Open}
use Rattle.receiver.specs.declared.Settings.{Settings}
use Rattle.sender.specs.Tick.{information_at}
use Rattle.delivery.proofs.Stages.{frames_of}
use Rattle.transport.specs.Step.{was_refused}

-- the connection of m, at this frame of a window; it is never held, and its misses, none in a clean transfer, matter at no call
abbrev pub connected : List ℕ → ℕ → ℕ → ℕ → Misses → Connection
connected m expected last wait misses =
    record {
      frames = frames_of m;
      length = length m;
      expected = expected;
      last = last;
      wait = wait;
      misses = misses;
      held = false;
      holds = 0;
    }

-- m has been delivered
abbrev pub done_phase : List ℕ → Phase
done_phase m = Done (record { frames = frames_of m; length = length m })

-- the buffer, with the bytes of frame number in their places
abbrev pub stored_in : List ℕ → ℕ → List ℕ → List ℕ
stored_in m number buffer = storing buffer number (length m) (fill_to 7 (part_from number m))

-- the LM_ACK of the first window
first_ack_lem : (last : ℕ) → lm_ack_of 1 last ≡ window_ack 1 last
first_ack_lem last = let whole : last ≡ last - (1 - 1) = omega arith in ap (lm_ack_of 1) whole

module _ (rs : Settings) (m : List ℕ) where
  pub hears_announcement : (buffer : List ℕ) → length buffer ≡ 1785 → 8 < length m → length m ≤ 1785 → length m ≤ rs.capacity
      → hear_of (receiver_in rs Idle) (announcement_of (frames_of m) (length m)) buffer
      ≡ heard (emitting (receiver_in rs (Open (connected m 1 (window_of rs 1 (frames_of m)) 0 NoneAfterAck)))
      (window_ack 1 (window_of rs 1 (frames_of m)))) buffer
  unfolding hear_of hear_read hear_kind hear_unless_held hear_numbered hear_announcement announce_idle read_of named_of all_filler announcement_of pick
  hears_announcement buffer held long fits space =
      rw (
        held,
        word_whole (length m) (omega arith),
        le-leb 9 (length m) long,
        le-leb (length m) 1785 fits,
        eq-eqb (frames_of m) (frames_of m) refl,
        le-leb (length m) rs.capacity space,
        ← first_ack_lem (window_of rs 1 (frames_of m)),
      )

  -- it comes again before frame 1: the same answer, and nothing else
  pub hears_announcement_again : (last wait : ℕ) (misses : Misses) (buffer : List ℕ) → length buffer ≡ 1785 → length m ≤ 1785
      → hear_of (receiver_in rs (Open (connected m 1 last wait misses))) (announcement_of (frames_of m) (length m)) buffer
      ≡ heard (emitting (receiver_in rs (Open (connected m 1 last wait misses))) (window_ack 1 last)) buffer
  unfolding hear_of hear_read hear_kind hear_unless_held hear_numbered hear_announcement announce_open read_of named_of all_filler announcement_of pick
  hears_announcement_again last wait misses buffer held fits =
      rw (
        held,
        word_whole (length m) (omega arith),
        eq-eqb (frames_of m) (frames_of m) refl,
        eq-eqb (length m) (length m) refl,
        ← first_ack_lem last,
      )

  pub waits_on : (expected last wait : ℕ) (misses : Misses) → wait + 1 < rs.timeout → rs.timeout ≤ 10000
      → tick_of (receiver_in rs (Open (connected m expected last wait misses)))
      ≡ silently (receiver_in rs (Open (connected m expected last (wait + 1) misses)))
  unfolding tick_of tick_phase tick_open pick
  waits_on expected last wait misses early small = rw (increment_is wait (omega arith), lt-leb rs.timeout (wait + 1) early)

  -- a frame with message bytes is read as what it is, for any length
  reads : (number l : ℕ) → 1 ≤ number → read_of (information_at number m) l ≡ accepted (parsed_of (information_at number m) l)
  unfolding information_of
  reads number l low = read_information (information_at number m) l refl low (ap suc (length_fill 7 (part_from number m)))

  -- the frame before the one that is expected is ignored
  pub hears_passed : (number last wait : ℕ) (misses : Misses) (buffer : List ℕ) → length buffer ≡ 1785 → 1 ≤ number → number < frames_of m
      → hear_of (receiver_in rs (Open (connected m (number + 1) last wait misses))) (information_at number m) buffer
      ≡ heard (silently (receiver_in rs (Open (connected m (number + 1) last wait misses)))) buffer
  unfolding hear_of hear_read hear_kind hear_unless_held hear_numbered hear_information information_open information_of pick
  hears_passed number last wait misses buffer held low high =
      rw (
        held,
        reads number (length m) low,
        ne_eqb number 0 (omega arith),
        le-ltb (frames_of m) number (omega arith),
        ne_eqb number (number + 1) (omega arith),
      )

  -- after the delivery the last frame draws the same answer
  pub hears_delivered : (buffer : List ℕ) → length buffer ≡ 1785 → 1 ≤ frames_of m
      → hear_of (receiver_in rs (done_phase m)) (information_at (frames_of m) m) buffer
      ≡ heard (emitting (receiver_in rs (done_phase m)) (end_of_ack_of (frames_of m) (length m))) buffer
  unfolding hear_of hear_read hear_kind hear_unless_held hear_numbered hear_information information_done information_of pick
  hears_delivered buffer held some =
      rw (held, reads (frames_of m) longest some, ne_eqb (frames_of m) 0 (omega arith), eq-eqb (frames_of m) (frames_of m) refl)

  -- the frame that is expected is stored
  hears_frame : (number last wait : ℕ) (misses : Misses) (buffer : List ℕ) → length buffer ≡ 1785 → 1 ≤ number → number ≤ frames_of m
      → hear_of (receiver_in rs (Open (connected m number last wait misses))) (information_at number m) buffer
      ≡ heard (stored (receiver_in rs (Open (connected m number last wait misses))) (connected m number last wait misses))
      (stored_in m number buffer)
  unfolding hear_of hear_read hear_kind hear_unless_held hear_numbered hear_information information_open information_expected information_of pick
  hears_frame number last wait misses buffer held low high =
      rw (
        held,
        reads number (length m) low,
        ne_eqb number 0 (omega arith),
        le-ltb (frames_of m) number high,
        eq-eqb number number refl,
        written_clean number m,
        and-false,
      )

  module _ (number last wait : ℕ) (misses : Misses) (buffer : List ℕ) (held : length buffer ≡ 1785) (low : 1 ≤ number) where
    -- it is not refused
    pub hears_accepted : number ≤ frames_of m
        → was_refused (hear_of (receiver_in rs (Open (connected m number last wait misses))) (information_at number m) buffer).told.outcome
        ≡ false
    unfolding stored
    hears_accepted high =
        let P : Told → Type 0 = λ t. was_refused t.outcome ≡ false in
        ap (λ (h : Heard). was_refused h.told.outcome) (hears_frame number last wait misses buffer held low high)
        ∙ pick_elim P _ (λ _. refl) (λ _. pick_elim P _ (λ _. refl) (λ _. refl))

    -- the message's last: it is delivered
    pub hears_last : number ≡ frames_of m
        → hear_of (receiver_in rs (Open (connected m number last wait misses))) (information_at number m) buffer
        ≡ heard (delivering (receiver_in rs (done_phase m)) (end_of_ack_of (frames_of m) (length m)) (length m))
        (stored_in m number buffer)
    unfolding stored pick
    hears_last whole = hears_frame number last wait misses buffer held low (omega arith) ∙ rw (eq-eqb number (frames_of m) whole)

    -- the window's last: the next window is asked for
    pub hears_window : number < frames_of m → number ≡ last
        → hear_of (receiver_in rs (Open (connected m number last wait misses))) (information_at number m) buffer
        ≡ heard
        (emitting (receiver_in rs (Open (connected m (number + 1) (window_of rs (number + 1) (frames_of m)) 0 NoneAfterAck)))
        (window_ack (number + 1) (window_of rs (number + 1) (frames_of m))))
        (stored_in m number buffer)
    unfolding stored pick
    hears_window more full =
        hears_frame number last wait misses buffer held low (omega arith)
        ∙ rw (ne_eqb number (frames_of m) (omega arith), eq-eqb number last full)

    -- another: the one after it is expected
    pub hears_inside : number < frames_of m → number < last
        → hear_of (receiver_in rs (Open (connected m number last wait misses))) (information_at number m) buffer
        ≡ heard (silently (receiver_in rs (Open (connected m (number + 1) last 0 NoneAfterFrame)))) (stored_in m number buffer)
    unfolding stored pick
    hears_inside more part =
        hears_frame number last wait misses buffer held low (omega arith)
        ∙ rw (ne_eqb number (frames_of m) (omega arith), ne_eqb number last (omega arith))
