-- The lists of calls with holds, and those of the latest reports, computed: the conditions of demand 3 can be met by a transfer
-- that is held and delivered, by one whose 21st held timeout falls due, and by the longest connections of two frames.
-- Assumes nothing.
use mathlib.Core.Bool.{Bool, true, false, false≢true}
use mathlib.Core.List.{List, [], ◌∷◌, ◌++◌}
use mathlib.Core.Path.{◌≡◌, refl}
use lib.ListN.{replicate}
use Rattle.delivery.specs.Demand3.{Conditions}
use Rattle.delivery.specs.Example.{shown_before, example_buffer}
use Rattle.delivery.specs.HeldExample.{start_at, held_calls, begun_calls, held_ticks, HeldExamples}
use Rattle.delivery.specs.LateExample.{wide_start, opened_calls, hears_first, late_calls, late_held_calls, LateExamples}
use Rattle.delivery.specs.Run.{Past, next, run_of}
use Rattle.delivery.specs.Seen.{begun_in, begun_after, opened_in, opened_after}
use Rattle.frame.specs.Choice.{pick}
use Rattle.frame.specs.Count.{frame_count_of, increment_of}
use Rattle.frame.specs.Frames.{fill_to, blank_of, announcement_of, information_of, lm_ack_of, lm_nack_of, end_of_ack_of}
use Rattle.frame.specs.Reading.{named_of, all_filler, clean_for, read_of}
use Rattle.receiver.specs.Hear as receiver-hear
use Rattle.receiver.specs.Hold as receiver-hold
use Rattle.receiver.specs.Tick as receiver-tick
use Rattle.receiver.specs.Window as receiver-window
use Rattle.sender.specs.Begin as sender-begin
use Rattle.sender.specs.Hear as sender-hear
use Rattle.sender.specs.Tick as sender-tick
use Rattle.transport.specs.Step.{given_forward, given_back, step_of}
use Rattle.transport.specs.World.{Call, begin, sender_tick, receiver_tick, hold, resume}
use Rattle.transport.specs.World.{hear_forward, repeat_forward, lose_forward, hear_back, repeat_back, lose_back}

-- what is asked of a call, before what is asked of the calls after it
infixr 5 ◌then◌
◌then◌ : {A B : Type 0} → A → B → A × B
here then after = (here, after)

-- of these calls demand 3 asks nothing
all_receivers : List Call → Bool
all_receivers [] = true
all_receivers (receiver_tick ∷ calls) = all_receivers calls
all_receivers (hold ∷ calls) = all_receivers calls
all_receivers (resume ∷ calls) = all_receivers calls
all_receivers (begin m ∷ calls) = false
all_receivers (sender_tick m ∷ calls) = false
all_receivers (hear_forward b ∷ calls) = false
all_receivers (repeat_forward b ∷ calls) = false
all_receivers (lose_forward ∷ calls) = false
all_receivers (hear_back ∷ calls) = false
all_receivers (repeat_back ∷ calls) = false
all_receivers (lose_back ∷ calls) = false

free : (calls : List Call) → all_receivers calls ≡ true → (p : Past) → Conditions step_of p calls
unfolding all_receivers
free [] e p = tt
free (receiver_tick ∷ calls) e p = (tt, free calls e (next step_of p receiver_tick))
free (hold ∷ calls) e p = (tt, free calls e (next step_of p hold))
free (resume ∷ calls) e p = (tt, free calls e (next step_of p resume))
free (begin m ∷ calls) e p = absurd (false≢true e)
free (sender_tick m ∷ calls) e p = absurd (false≢true e)
free (hear_forward b ∷ calls) e p = absurd (false≢true e)
free (repeat_forward b ∷ calls) e p = absurd (false≢true e)
free (lose_forward ∷ calls) e p = absurd (false≢true e)
free (hear_back ∷ calls) e p = absurd (false≢true e)
free (repeat_back ∷ calls) e p = absurd (false≢true e)
free (lose_back ∷ calls) e p = absurd (false≢true e)

computed : HeldExamples × LateExamples
unfolding
    shown_before example_buffer held_calls begun_calls held_ticks opened_calls late_calls late_held_calls all_receivers
    run_of step_of given_forward given_back begun_in begun_after opened_in opened_after
    pick frame_count_of increment_of
    fill_to blank_of announcement_of information_of lm_ack_of lm_nack_of end_of_ack_of
    named_of all_filler clean_for read_of
    sender-begin.begin_of sender-begin.begin_phase sender-begin.begin_idle sender-begin.begin_long
    sender-tick.tick_of sender-tick.lent_to sender-tick.tick_phase sender-tick.tick_sending
    sender-tick.unless_over sender-tick.at_limit sender-tick.after_frame
    sender-hear.hear_of sender-hear.hear_read sender-hear.hear_kind sender-hear.hear_ack sender-hear.ack_opening
    sender-hear.ack_window sender-hear.ack_below sender-hear.taking_hold sender-hear.taking sender-hear.hear_end
    sender-hear.if_whole
    receiver-hear.hear_of receiver-hear.hear_read receiver-hear.hear_kind receiver-hear.hear_unless_held receiver-hear.hear_numbered
    receiver-hear.hear_announcement receiver-hear.announce_idle receiver-hear.hear_information
    receiver-hear.information_expected receiver-hear.information_open receiver-hear.stored receiver-hear.storing receiver-window.window_of
    receiver-hold.hold_of receiver-hold.hold_phase receiver-hold.hold_open
    receiver-hold.resume_of receiver-hold.resume_phase receiver-hold.resume_open
    receiver-tick.tick_of receiver-tick.tick_phase receiver-tick.tick_open receiver-tick.timeout_by receiver-tick.timeout_held
computed = (
  record {
    held =
        record {
          shows = refl;
          meets =
              (λ _. (refl, refl, refl))
              then tt
              then (λ _. refl)
              then tt
              then tt
              then tt
              then (λ _. λ _. refl)
              then (λ _. refl)
              then tt
              then tt
              then tt
              then tt
              then (λ _. λ _. refl)
              then (λ _. refl)
              then tt
              then tt
              then tt
              then (λ _. λ _. refl)
              then tt
              then tt
              then tt
              then (λ _. λ _. refl)
              then (λ _. refl)
              then tt
              then tt
              then tt;
        };
    expired =
        record {
          shows = refl;
          meets = (λ _. (refl, refl, refl), (λ _. refl, (tt, (λ _. λ _. refl, (λ _. refl, free held_ticks refl (run_of step_of (start_at 1) begun_calls))))));
        };
  },
  record {
    free =
        record {
          run = record {
            shows = refl;
            meets =
                (λ _. (refl, refl, refl))
                then (λ _. refl)
                then tt
                then (λ _. λ _. refl)
                then tt
                then tt
                then tt
                then tt
                then tt
                then tt
                then tt
                then tt
                then (λ _. refl)
                then free (replicate 12 receiver_tick) refl
                (run_of step_of (wide_start 3) (opened_calls ++ replicate 8 receiver_tick ++ hears_first ∷ []));
          };
          before = refl;
          reported = refl;
        };
    held =
        record {
          run = record {
            shows = refl;
            meets =
                (λ _. (refl, refl, refl))
                then (λ _. refl)
                then tt
                then (λ _. λ _. refl)
                then tt
                then tt
                then (λ _. refl)
                then free (receiver_tick ∷ hold ∷ replicate 20 receiver_tick ++ resume ∷ replicate 3 receiver_tick) refl
                (run_of step_of (wide_start 1) (opened_calls ++ receiver_tick ∷ receiver_tick ∷ hears_first ∷ []));
          };
          before = refl;
          reported = refl;
        };
  },
)

pub held_examples : HeldExamples
held_examples = computed.0

pub late_examples : LateExamples
late_examples = computed.1
