-- What each call of the receiver does, one constructor for each effect, with what its tests found where a proof needs it. A
-- proof about every call matches on these and unfolds no definition.
-- Assumes nothing.
use Prim.Native.Nat.{ℕ, ◌+◌, ◌≤◌, ◌<◌}
use mathlib.Core.Path.{◌≡◌, refl, sym, ◌∙◌}
use mathlib.Core.Bool.{true, false, not, ◌&&◌}
use mathlib.Core.List.{List}
use native.Mathlib.Omega.{arith}
use borrow.Author.Tests.{not-true, leb-true, leb-false, eqb-true, eqb-false, ltb-true, ltb-false}
use lib.Dec.{eqb, leb}
use lib.ListN.{length, drop}
use Rattle.frame.proofs.Choice.{pick_elim, read_elim, both_left, both_right}
use Rattle.frame.specs.Count.{frame_count_of, increment_of, within}
use Rattle.frame.specs.Frames.{byte_of, word_at, lm_nack_of, sm_ack_of}
use Rattle.frame.specs.Reading.{clean_for, parsed_of}
use Rattle.frame.specs.Result.{Result}
use Rattle.frame.specs.declared.Frame.{Frame}
use Rattle.frame.specs.declared.Parsed.{Parsed}
use Rattle.receiver.specs.Hear.{announces_well, opening, announce_idle, opening_again, announce_open, hear_announcement, ending, asking_next, expecting_next, stored, storing, information_expected, information_open, ending_again, information_done, hear_information, hear_nack, hear_numbered, is_held, hear_unless_held, hear_kind, hear_read, awaited, hear_of}
use Rattle.receiver.specs.Hold.{holding, hold_open, hold_phase, hold_of, resuming, resume_open, resume_phase, resume_of}
use Rattle.receiver.specs.Misses.{timed_out}
use Rattle.receiver.specs.Refusals.{Unclean}
use Rattle.receiver.specs.Tick.{waiting, asking_again, timeout_by, holding_on, timeout_held, tick_open, tick_phase, tick_of}
use Rattle.receiver.specs.Told.{Told, Heard, heard, refusing, silently, emitting, failing_with, failing, short_with, short_only}
use Rattle.receiver.specs.declared.Connection.{Connection}
use Rattle.receiver.specs.declared.Delivery.{Delivery}
use Rattle.receiver.specs.declared.Misses.{Misses}
use Rattle.receiver.specs.declared.Misses.TheVariants.{NoneAfterAck, OneAfterAck, TwoAfterAck, NoneAfterFrame, OneAfterFrame}
use Rattle.receiver.specs.declared.Phase.{Phase}
use Rattle.receiver.specs.declared.Phase.TheVariants.{Idle, Done, Open}
use Rattle.receiver.specs.declared.Receiver.{Receiver}
use Rattle.receiver.specs.declared.Settings.{Settings}

-- the receiver with these settings, in this phase
abbrev pub receiver_in : Settings → Phase → Receiver
receiver_in s p = record { settings = s; phase = p }

-- no connection is open
abbrev pub Shut : Phase → Type 0
Shut Idle = Unit
Shut (Done x) = Unit
Shut (Open x) = ⊥

-- what is counted before and after a timeout that is not the third of its type
pub data Counted : Misses → Misses → Type 0 where
  first_after_ack : Counted NoneAfterAck OneAfterAck
  second_after_ack : Counted OneAfterAck TwoAfterAck
  first_after_frame : Counted NoneAfterFrame OneAfterFrame
  first_again : Counted OneAfterFrame OneAfterAck

-- the two calls of a hold
pub data Pause : Type 0 where
  hold : Pause
  resume : Pause

abbrev pub pause_of : Pause → Receiver → Told
pause_of hold r = hold_of r
pause_of resume r = resume_of r

module _ (s : Settings) where
  abbrev open_with : Connection → Receiver
  open_with x = receiver_in s (Open x)

  abbrev done_with : Delivery → Receiver
  done_with y = receiver_in s (Done y)

  -- ---- a tick

  pub data Ticks : Phase → Told → Type 0 where
    rests : {p : Phase} → Shut p → Ticks p (silently (receiver_in s p))
    waits : {x : Connection}
        → increment_of x.wait < s.timeout
        → Ticks (Open x) (waiting (open_with x) x)
    retries : {x : Connection} {misses : Misses}
        → s.timeout ≤ increment_of x.wait
        → x.held ≡ false
        → Counted x.misses misses
        → Ticks (Open x) (asking_again (open_with x) x misses)
    repeats : {x : Connection}
        → s.timeout ≤ increment_of x.wait
        → x.held ≡ true
        → x.holds + 1 < 21
        → Ticks (Open x) (holding_on (open_with x) x)
    expires : {x : Connection} → Ticks (Open x) (failing_with (open_with x) 2)

  -- ---- a hold or a resume

  pub data Pauses : Pause → Phase → Told → Type 0 where
    denied : {k : Pause} {p : Phase} → Pauses k p (refusing (receiver_in s p) 13)
    holds : {x : Connection}
        → 2 ≤ x.expected
        → x.held ≡ false
        → Pauses hold (Open x) (holding (open_with x) x)
    resumes : {x : Connection} → x.held ≡ true → Pauses resume (Open x) (resuming (open_with x) x)

  -- ---- an announcement of N and L that is not ignored

  pub data Announced (frames length : ℕ) (buffer : List ℕ) : Phase → Heard → Type 0 where
    nacks : {p : Phase} → Shut p → (cause : ℕ)
        → Announced frames length buffer p (heard (emitting (receiver_in s p) (lm_nack_of cause)) buffer)
    opens : {p : Phase} → Shut p
        → 9 ≤ length
        → length ≤ 1785
        → frames ≡ frame_count_of length
        → length ≤ s.capacity
        → Announced frames length buffer p (heard (opening (receiver_in s p) frames length) buffer)
    again : {x : Connection}
        → Announced frames length buffer (Open x) (heard (opening_again (open_with x) x) buffer)

  -- ---- an information frame that is neither refused nor ignored

  pub data Informed (number : ℕ) (bytes buffer : List ℕ) : Phase → Heard → Type 0 where
    ended : {y : Delivery}
        → number ≡ y.frames
        → Informed number bytes buffer (Done y) (heard (ending_again (done_with y) y) buffer)
    above : {x : Connection}
        → x.frames < number
        → Informed number bytes buffer (Open x) (heard (failing_with (open_with x) 4) buffer)
    delivers : {x : Connection}
        → number ≡ x.expected
        → x.expected ≡ x.frames
        → Informed number bytes buffer (Open x)
        (heard (ending (open_with x) x) (storing buffer number x.length bytes))
    asks : {x : Connection}
        → number ≡ x.expected
        → x.expected < x.frames
        → x.expected ≡ x.last
        → Informed number bytes buffer (Open x)
        (heard (asking_next (open_with x) x) (storing buffer number x.length bytes))
    goes_on : {x : Connection}
        → x.held ≡ false
        → number ≡ x.expected
        → x.expected < x.frames
        → (x.expected ≡ x.last → ⊥)
        → Informed number bytes buffer (Open x)
        (heard (expecting_next (open_with x) x) (storing buffer number x.length bytes))

  -- ---- a hearing

  pub data Hears (f : Frame) (buffer : List ℕ) : Phase → Heard → Type 0 where
    refuses : {p : Phase} (number : ℕ)
        → (number ≡ 14 → Unclean f p)
        → Hears f buffer p (heard (refusing (receiver_in s p) number) buffer)
    ignores : {p : Phase} → Hears f buffer p (heard (silently (receiver_in s p)) buffer)
    announced : {p : Phase} {h : Heard}
        → f.kind ≡ 1
        → byte_of f 0 ≡ 0
        → Announced (byte_of f 1) (word_at f 2 3) buffer p h
        → Hears f buffer p h
    informed : {p : Phase} {h : Heard}
        → length buffer ≡ 1785
        → f.kind ≡ 1
        → 1 ≤ byte_of f 0
        → Informed (byte_of f 0) (drop 1 f.bytes) buffer p h
        → Hears f buffer p h
    closes : {x : Connection}
        → f.kind ≡ 3
        → Hears f buffer (Open x) (heard (failing (open_with x) 1) buffer)
    short : {p : Phase}
        → f.kind ≡ 5
        → Hears f buffer p
        (heard (short_with (receiver_in s p) (sm_ack_of (byte_of f 0)) f.bytes) buffer)
    short_only_lem : {p : Phase}
        → f.kind ≡ 7
        → Hears f buffer p (heard (short_only (receiver_in s p) f.bytes) buffer)

-- ---- the calls do this

module _ (s : Settings) where
  -- at T, not held, by what is counted
  timeout_free_lem : (x : Connection) (m : Misses) → x.misses ≡ m → s.timeout ≤ increment_of x.wait → x.held ≡ false
      → Ticks s (Open x) (timeout_by (receiver_in s (Open x)) x (timed_out m))
  unfolding timeout_by
  timeout_free_lem x NoneAfterAck e due free = retries {x = x} {misses = OneAfterAck} due free (rw e first_after_ack)
  timeout_free_lem x OneAfterAck e due free = retries {x = x} {misses = TwoAfterAck} due free (rw e second_after_ack)
  timeout_free_lem x TwoAfterAck e due free = expires
  timeout_free_lem x NoneAfterFrame e due free = retries {x = x} {misses = OneAfterFrame} due free (rw e first_after_frame)
  timeout_free_lem x OneAfterFrame e due free = retries {x = x} {misses = OneAfterAck} due free (rw e first_again)

  tick_phase_lem : (p : Phase) → Ticks s p (tick_phase (receiver_in s p) p)
  unfolding tick_phase tick_open timeout_held
  tick_phase_lem Idle = rests tt
  tick_phase_lem (Done y) = rests tt
  tick_phase_lem (Open x) =
      let P : Told → Type 0 = Ticks s (Open x) in
      pick_elim P _
      (λ due. pick_elim P x.held
      (λ held. pick_elim P _ (λ over. expires)
      (λ more. repeats (leb-true _ _ due) held (leb-false _ _ more)))
      (λ free. timeout_free_lem x x.misses refl (leb-true _ _ due) free))
      (λ early. waits (leb-false _ _ early))

  hold_phase_lem : (p : Phase) → Pauses s hold p (hold_phase (receiver_in s p) p)
  unfolding hold_phase hold_open
  hold_phase_lem Idle = denied
  hold_phase_lem (Done y) = denied
  hold_phase_lem (Open x) =
      pick_elim (Pauses s hold (Open x)) _
      (λ may.
      let begun = leb-true 2 x.expected (both_left (leb 2 x.expected) (not x.held) may) in
      holds begun (not-true x.held (both_right (leb 2 x.expected) (not x.held) may)))
      (λ _. denied)

  resume_phase_lem : (p : Phase) → Pauses s resume p (resume_phase (receiver_in s p) p)
  unfolding resume_phase resume_open
  resume_phase_lem Idle = denied
  resume_phase_lem (Done y) = denied
  resume_phase_lem (Open x) = pick_elim (Pauses s resume (Open x)) x.held (λ held. resumes held) (λ free. denied)

  module _ (f : Frame) (buffer : List ℕ) where
    -- the answer t, and the buffer as it was
    abbrev Answers : Phase → Told → Type 0
    Answers p t = Hears s f buffer p (heard t buffer)

    module _ (one : f.kind ≡ 1) (zero : byte_of f 0 ≡ 0) where
      announce_shut : (p : Phase) → Shut p
          → Answers p (announce_idle (receiver_in s p) (byte_of f 1) (word_at f 2 3))
      unfolding announce_idle
      announce_shut p shut =
          let frames = byte_of f 1 in
          let l = word_at f 2 3 in
          pick_elim (Answers p) (announces_well frames l)
          (λ well.
          let range = both_left (within 9 l 1785) (eqb frames (frame_count_of l)) well in
          let low = leb-true 9 l (both_left (leb 9 l) (leb l 1785) range) in
          let high = leb-true l 1785 (both_right (leb 9 l) (leb l 1785) range) in
          let fits = eqb-true _ _ (both_right (within 9 l 1785) (eqb frames (frame_count_of l)) well) in
          pick_elim (Answers p) _
          (λ room. announced one zero (opens shut low high fits (leb-true _ _ room)))
          (λ full. announced one zero (nacks shut 1)))
          (λ bad. announced one zero (nacks shut 5))

      announcement_does : (p : Phase)
          → Answers p (hear_announcement (receiver_in s p) p (byte_of f 1) (word_at f 2 3))
      unfolding hear_announcement announce_open
      announcement_does Idle = announce_shut Idle tt
      announcement_does (Done y) = announce_shut (Done y) tt
      announcement_does (Open x) =
          pick_elim (Answers (Open x)) _ (λ same. announced one zero again) (λ differs. ignores)

    module _ (lent : length buffer ≡ 1785) (one : f.kind ≡ 1) (low : 1 ≤ byte_of f 0) where
      -- the frame is taken
      takes : {p : Phase} {h : Heard} → Informed s (byte_of f 0) (drop 1 f.bytes) buffer p h
          → Hears s f buffer p h
      takes i = informed lent one low i

      -- the answer t, and the frame's bytes in the buffer
      abbrev Stores : Connection → Told → Type 0
      Stores x t =
          Hears s f buffer (Open x) (heard t (storing buffer (byte_of f 0) x.length (drop 1 f.bytes)))

      stored_does : (x : Connection) → x.held ≡ false → byte_of f 0 ≡ x.expected → x.expected ≤ x.frames
          → Stores x (stored (receiver_in s (Open x)) x)
      unfolding stored
      stored_does x free at inside =
          pick_elim (Stores x) _ (λ whole. takes (delivers at (eqb-true _ _ whole)))
          (λ more.
          let other = eqb-false x.expected x.frames more in
          let below : x.expected < x.frames = omega (arith, other) in
          pick_elim (Stores x) _ (λ full. takes (asks at below (eqb-true _ _ full)))
          (λ part. takes (goes_on free at below (eqb-false _ _ part))))

      -- the frame is expected: taken, or unclean
      expected_does : (x : Connection) → x.held ≡ false → byte_of f 0 ≡ x.expected → x.expected ≤ x.frames
          → Hears s f buffer (Open x)
          (information_expected (receiver_in s (Open x)) x (parsed_of f x.length) (drop 1 f.bytes) buffer)
      unfolding information_expected
      expected_does x free at inside =
          let last = eqb (byte_of f 0) x.frames in
          let stained = not (clean_for f x.length) in
          pick_elim (Hears s f buffer (Open x)) (last && stained)
          (λ unclean.
          let whole : byte_of f 0 ≡ x.frames = eqb-true _ _ (both_left last stained unclean) in
          let dirty = not-true (clean_for f x.length) (both_right last stained unclean) in
          refuses 14 (λ _. (one, low, whole, sym at ∙ whole, free, dirty)))
          (λ _. stored_does x free at inside)

      -- every phase, and every reason to refuse or to ignore the frame
      information_does : (p : Phase) → is_held p ≡ false
          → Hears s f buffer p
          (hear_information (receiver_in s p) p (parsed_of f (awaited p)) (drop 1 f.bytes) buffer)
      unfolding hear_information information_done information_open
      information_does Idle free = ignores
      information_does (Done y) free =
          pick_elim (Answers (Done y)) _ (λ last. takes (ended (eqb-true _ _ last))) (λ other. ignores)
      information_does (Open x) free =
          let P : Heard → Type 0 = Hears s f buffer (Open x) in
          pick_elim P _ (λ over. takes (above (ltb-true _ _ over)))
          (λ inside. pick_elim P _
          (λ at.
          let e = eqb-true (byte_of f 0) x.expected at in
          let top = ltb-false x.frames (byte_of f 0) inside in
          expected_does x free e (omega arith))
          (λ other. ignores))

    nack_does : f.kind ≡ 3 → (p : Phase) → Answers p (hear_nack (receiver_in s p) p)
    unfolding hear_nack
    nack_does three Idle = ignores
    nack_does three (Done y) = ignores
    nack_does three (Open x) = closes three

    hear_phase : (p : Phase) → Hears s f buffer p (hear_of (receiver_in s p) f buffer)
    unfolding hear_of hear_read hear_kind hear_unless_held hear_numbered
    hear_phase p =
        let P : Heard → Type 0 = Hears s f buffer p in
        pick_elim P _
        (λ lent. read_elim (λ (j : Result Parsed). P (hear_read (receiver_in s p) f buffer j)) f (awaited p)
        (pick_elim P _
        (λ one. pick_elim P (is_held p) (λ held. ignores)
        (λ free. pick_elim P _ (λ zero. announcement_does (eqb-true _ _ one) (eqb-true _ _ zero) p)
        (λ more.
        let low : 1 ≤ byte_of f 0 = omega (arith, eqb-false (byte_of f 0) 0 more) in
        information_does (eqb-true _ _ lent) (eqb-true _ _ one) low p free)))
        (λ _. pick_elim P _ (λ three. nack_does (eqb-true _ _ three) p)
        (λ _. pick_elim P _ (λ five. short (eqb-true _ _ five))
        (λ _. pick_elim P _ (λ seven. short_only_lem (eqb-true _ _ seven)) (λ _. refuses 7 (λ e. absurd (omega arith)))))))
        (refuses 6 (λ e. absurd (omega arith))))
        (λ other. refuses 5 (λ e. absurd (omega arith)))

pub tick_does : (r : Receiver) → Ticks r.settings r.phase (tick_of r)
unfolding tick_of
tick_does r = tick_phase_lem r.settings r.phase

pub pause_does : (k : Pause) (r : Receiver) → Pauses r.settings k r.phase (pause_of k r)
unfolding hold_of resume_of
pause_does hold r = hold_phase_lem r.settings r.phase
pause_does resume r = resume_phase_lem r.settings r.phase

pub hear_does : (r : Receiver) (f : Frame) (buffer : List ℕ)
    → Hears r.settings f buffer r.phase (hear_of r f buffer)
hear_does r f buffer = hear_phase r.settings f buffer r.phase
