-- Every call counts by type as document 02, E4, says: a walk over the view, and over the five that can be counted.
-- Assumes nothing.
use Prim.Native.Nat.{ℕ, ◌+◌, ◌≤◌}
use mathlib.Core.Bool.{Bool, true, false}
use mathlib.Core.List.{List}
use mathlib.Core.Path.{◌≡◌, refl, sym, ap, ◌∙◌}
use native.Mathlib.Omega.{arith}
use borrow.Author.Tests.{ne_eqb, eq-eqb, le-leb}
use lib.Dec.{leb}
use Rattle.frame.specs.Choice.{pick}
use Rattle.frame.specs.Count.{increment_of}
use Rattle.frame.specs.Frames.{lm_ack_of}
use Rattle.frame.specs.declared.Frame.{Frame}
use Rattle.frame.proofs.Choice.{pick_true, pick_false}
use Rattle.receiver.proofs.View.{receiver_in, Shut, Ticks, rests, waits, retries, repeats, expires, tick_does, Counted, first_after_ack, second_after_ack, first_after_frame, first_again, Pause, hold, resume, Pauses, denied, holds, resumes, pause_does, nacks, opens, again, ended, above, delivers, asks, goes_on, Hears, refuses, ignores, announced, informed, closes, short, short_only_lem, hear_does}
use Rattle.receiver.specs.Hear.{opening}
use Rattle.receiver.specs.Misses.{acknowledged, timed_out}
use Rattle.receiver.specs.Tick.{timeout_by, timeout_free, tick_open, tick_phase, tick_of}
use Rattle.receiver.specs.Told as told
use Rattle.receiver.specs.Told.{Told, quiet, failed}
use Rattle.receiver.specs.Types.{count_of, number_of, acknowledges, times_out, count_after, CountsTick, CountsPause, CountsHear, ThirdFails, CountsByType}
use Rattle.receiver.specs.declared.Connection.{Connection}
use Rattle.receiver.specs.declared.Misses.{Misses}
use Rattle.receiver.specs.declared.Misses.TheVariants.{NoneAfterAck, OneAfterAck, TwoAfterAck, NoneAfterFrame, OneAfterFrame}
use Rattle.receiver.specs.declared.Phase.{Phase}
use Rattle.receiver.specs.declared.Phase.TheVariants.{Idle, Done, Open}
use Rattle.receiver.specs.declared.Receiver.{Receiver}
use Rattle.receiver.specs.declared.Settings.{Settings}

-- an LM_ACK beside the count, and a timeout that is counted on
acknowledged_counts : (m : Misses) → count_of (acknowledged m) ≡ count_after acknowledges (count_of m)
acknowledged_counts NoneAfterAck = refl
acknowledged_counts OneAfterAck = refl
acknowledged_counts TwoAfterAck = refl
acknowledged_counts NoneAfterFrame = refl
acknowledged_counts OneAfterFrame = refl

counted_counts : {m n : Misses} → Counted m n → count_of n ≡ count_after times_out (count_of m)
unfolding pick
counted_counts first_after_ack = refl
counted_counts second_after_ack = refl
counted_counts first_after_frame = refl
counted_counts first_again = refl

module _ (s : Settings) where
  -- ---- a tick, a hold or a resume

  unchanged_ticked : (p : Phase) → CountsTick p (told.silently (receiver_in s p))
  unfolding pick
  unchanged_ticked Idle = tt
  unchanged_ticked (Done y) = tt
  unchanged_ticked (Open x) = refl

  ticks_count : {p : Phase} {t : Told} → Ticks s p t → CountsTick p t
  unfolding pick
  ticks_count (rests {p} shut) = unchanged_ticked p
  ticks_count (waits early) = refl
  ticks_count (retries due free counted) = rw free (counted_counts counted)
  ticks_count (repeats {x} due held more) = rw held (acknowledged_counts x.misses)
  ticks_count expires = tt

  unchanged_paused : (p : Phase) → CountsPause p (told.refusing (receiver_in s p) 13)
  unfolding pick
  unchanged_paused Idle = tt
  unchanged_paused (Done y) = tt
  unchanged_paused (Open x) = refl

  pauses_count : {k : Pause} {p : Phase} {t : Told} → Pauses s k p t → CountsPause p t
  unfolding pick
  pauses_count (denied {p = p}) = unchanged_paused p
  pauses_count (holds {x} begun free) = acknowledged_counts x.misses
  pauses_count (resumes {x} held) = acknowledged_counts x.misses

  -- ---- a hearing

  -- which leaves the state as it was: no next frame is expected
  unchanged : (p : Phase) (emits : Bool) (f : Frame) (o : told.Outcome) (bytes : List ℕ)
      → CountsHear p (record { next = receiver_in s p; emits = emits; frame = f; outcome = o; bytes = bytes })
  unfolding pick
  unchanged Idle emits f o bytes = tt
  unchanged (Done y) emits f o bytes = tt
  unchanged (Open x) emits f o bytes = rw (ne_eqb x.expected (x.expected + 1) (omega arith)) refl

  opens_count : (p : Phase) → Shut p → (frames length : ℕ) → CountsHear p (opening (receiver_in s p) frames length)
  opens_count Idle shut frames length = refl
  opens_count (Done y) shut frames length = refl
  opens_count (Open x) shut frames length = absurd shut

  hears_count : {f : Frame} {buffer : List ℕ} {p : Phase} {h : told.Heard} → Hears s f buffer p h → CountsHear p h.told
  unfolding pick
  hears_count (refuses {p} number _) = unchanged p _ _ _ _
  hears_count (ignores {p}) = unchanged p _ _ _ _
  hears_count (announced _ _ (nacks {p} shut cause)) = unchanged p _ _ _ _
  hears_count (announced _ _ (opens {p} shut _ _ _ _)) = opens_count p shut _ _
  hears_count (announced _ _ (again {x})) = unchanged (Open x) true (lm_ack_of 1 x.last) quiet told.no_bytes
  hears_count (informed _ _ _ (ended _)) = tt
  hears_count (informed _ _ _ (above _)) = tt
  hears_count (informed _ _ _ (delivers _ _)) = tt
  hears_count (informed _ _ _ (asks {x} _ _ _)) = rw (eq-eqb (x.expected + 1) (x.expected + 1) refl) refl
  hears_count (informed _ _ _ (goes_on {x} _ _ _ _)) = rw (eq-eqb (x.expected + 1) (x.expected + 1) refl) refl
  hears_count (closes _) = tt
  hears_count (short {p} _) = unchanged p _ _ _ _
  hears_count (short_only_lem {p} _) = unchanged p _ _ _ _

  -- ---- the third

  by_misses : (r : Receiver) (x : Connection) (m : Misses) → (timeout_by r x (timed_out m)).outcome
      ≡ pick (leb 3 (number_of (count_of m).waits (count_of m).timeouts)) (failed 2) quiet
  unfolding timeout_by pick
  by_misses r x NoneAfterAck = refl
  by_misses r x OneAfterAck = refl
  by_misses r x TwoAfterAck = refl
  by_misses r x NoneAfterFrame = refl
  by_misses r x OneAfterFrame = refl

  free_ticks : (r : Receiver) (x : Connection) → r.settings.timeout ≤ increment_of x.wait → x.held ≡ false
      → timeout_free r x ≡ tick_open r x
  unfolding tick_open
  free_ticks r x due free =
      pick_true _ (le-leb r.settings.timeout (increment_of x.wait) due) (pick_false _ free refl)

  third_fails : (p : Phase) → ThirdFails (receiver_in s p) p
  unfolding tick_of tick_phase
  third_fails Idle = tt
  third_fails (Done y) = tt
  third_fails (Open x) = λ free due.
      let r = receiver_in s (Open x) in
      ap (λ (t : Told). t.outcome) (sym (free_ticks r x due free)) ∙ by_misses r x x.misses

pub counts_by_type : CountsByType
counts_by_type =
    record {
      tick = λ r. ticks_count r.settings (tick_does r);
      hold = λ r. pauses_count r.settings (pause_does hold r);
      resume = λ r. pauses_count r.settings (pause_does resume r);
      hear = λ r f buffer. hears_count r.settings (hear_does r f buffer);
      third = λ r. third_fails r.settings r.phase;
    }
