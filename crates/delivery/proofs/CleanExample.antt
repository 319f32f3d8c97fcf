-- The clean transfers of nine bytes, computed: for each call what demand 3 asks of it, then what E1 does.
-- Assumes nothing.
use mathlib.Core.Bool.{false≢true}
use mathlib.Core.Path.{refl}
use native.Mathlib.Omega.{arith}
use Rattle.clean.specs.Figures.{figures_for}
use Rattle.delivery.specs.Clean.{turn_in}
use Rattle.delivery.specs.CleanExample.{sender_first_calls, receiver_first_calls, CleanExamples}
use Rattle.delivery.specs.Example.{shown_before, example_buffer}
use Rattle.delivery.specs.Run.{run_of}
use Rattle.delivery.specs.Seen.{begun_in, begun_after}
use Rattle.frame.specs.Choice.{pick}
use Rattle.frame.specs.Count.{frame_count_of, increment_of}
use Rattle.frame.specs.Frames.{fill_to, blank_of, announcement_of, information_of, lm_ack_of, end_of_ack_of}
use Rattle.frame.specs.Reading.{named_of, all_filler, clean_for, read_of}
use Rattle.receiver.specs.Hear as receiver-hear
use Rattle.receiver.specs.Hold as receiver-hold
use Rattle.receiver.specs.Make as receiver-make
use Rattle.receiver.specs.Tick as receiver-tick
use Rattle.receiver.specs.Window as receiver-window
use Rattle.sender.specs.Begin as sender-begin
use Rattle.sender.specs.Hear as sender-hear
use Rattle.sender.specs.Make as sender-make
use Rattle.sender.specs.Tick as sender-tick
use Rattle.transport.specs.Step.{given_forward, given_back, step_of}

-- what is asked of a call, before what is asked of the calls after it
infixr 5 ◌then◌
◌then◌ : {A B C : Type 0} → A × B → C → A × B × C
here then after = (here.0, here.1, after)

pub clean_examples : CleanExamples
unfolding
    shown_before example_buffer sender_first_calls receiver_first_calls figures_for turn_in
    run_of step_of given_forward given_back begun_in begun_after
    pick frame_count_of increment_of
    fill_to blank_of announcement_of information_of lm_ack_of end_of_ack_of
    named_of all_filler clean_for read_of
    sender-make.make_of
    sender-begin.begin_of sender-begin.begin_phase sender-begin.begin_idle sender-begin.begin_long
    sender-tick.tick_of sender-tick.lent_to sender-tick.tick_phase sender-tick.tick_sending
    sender-tick.unless_over sender-tick.at_limit sender-tick.after_frame
    sender-hear.hear_of sender-hear.hear_read sender-hear.hear_kind sender-hear.hear_ack sender-hear.ack_opening
    sender-hear.ack_window sender-hear.taking sender-hear.hear_end sender-hear.if_whole
    receiver-make.make_of
    receiver-hear.hear_of receiver-hear.hear_read receiver-hear.hear_kind receiver-hear.hear_unless_held receiver-hear.hear_numbered
    receiver-hear.hear_announcement receiver-hear.announce_idle receiver-hear.hear_information
    receiver-hear.information_expected receiver-hear.information_open receiver-hear.stored receiver-hear.storing receiver-window.window_of
    receiver-hold.hold_of receiver-hold.hold_phase receiver-hold.hold_open
    receiver-hold.resume_of receiver-hold.resume_phase receiver-hold.resume_open
    receiver-tick.tick_of receiver-tick.tick_phase receiver-tick.tick_open
clean_examples =
    record {
      sender_made = refl;
      receiver_made = refl;
      fits =
          record {
            senders_timeout = omega arith;
            receivers_timeout = omega arith;
            sending_time = omega arith;
            space = omega arith;
            long = omega arith;
          };
      sender_first =
          record {
            shows = refl;
            meets =
                (λ _. refl, refl)
                then (tt, tt)
                then (λ _. λ _. refl, λ _. ((refl, refl), tt))
                then (tt, ((refl, refl), tt))
                then (λ _. λ _. refl, λ _. ((refl, refl), tt))
                then (λ _. refl, refl)
                then (tt, tt)
                then (tt, ((refl, refl), tt))
                then (λ _. λ _. refl, λ _. ((refl, refl), tt))
                then (tt, ((refl, refl), tt))
                then (λ _. λ _. refl, λ _. ((refl, refl), tt))
                then (λ _. refl, refl)
                then (tt, tt)
                then tt;
          };
      receiver_first =
          record {
            shows = refl;
            meets =
                (tt, refl)
                then (λ _. refl, refl)
                then (λ t. absurd (false≢true t), refl)
                then (tt, refl)
                then (tt, tt)
                then (tt, tt)
                then (tt, ((refl, refl), tt))
                then (λ _. λ _. refl, λ _. ((refl, refl), tt))
                then (tt, ((refl, refl), tt))
                then (λ t. absurd (false≢true t), refl)
                then (λ _. λ _. refl, λ _. ((refl, refl), tt))
                then (λ _. refl, refl)
                then (λ t. absurd (false≢true t), λ t. absurd (false≢true t))
                then (tt, refl)
                then (tt, tt)
                then (tt, ((refl, refl), tt))
                then (λ _. λ _. refl, λ _. ((refl, refl), tt))
                then (λ t. absurd (false≢true t), refl)
                then (tt, ((refl, refl), tt))
                then (tt, refl)
                then (λ _. λ _. refl, λ _. ((refl, refl), tt))
                then (λ t. absurd (false≢true t), refl)
                then (λ _. refl, refl)
                then (tt, tt)
                then (λ t. absurd (false≢true t), refl)
                then (tt, tt)
                then (tt, ((refl, refl), tt))
                then (λ _. λ _. refl, λ _. ((refl, refl), tt))
                then tt;
          };
    }
