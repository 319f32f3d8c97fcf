-- The lists of calls, computed: the conditions of demand 3 can be met, by a whole delivery and by two begins with refused
-- calls between them, and those without an idle receiver by more.
-- Assumes nothing.
use mathlib.Core.Bool.{false≢true}
use mathlib.Core.Path.{refl}
use Rattle.delivery.specs.Example.{shown_before, example_buffer, example_calls, twice_calls, open_calls, Examples}
use Rattle.delivery.specs.Run.{run_of}
use Rattle.delivery.specs.Seen.{begun_in, begun_after, opened_in, opened_after}
use Rattle.frame.specs.Choice.{pick}
use Rattle.frame.specs.Count.{frame_count_of, increment_of}
use Rattle.frame.specs.Frames.{fill_to, blank_of, announcement_of, information_of, lm_ack_of, lm_nack_of, end_of_ack_of, sm_rm_of, sm_ack_of}
use Rattle.frame.specs.Reading.{named_of, all_filler, clean_for, read_of}
use Rattle.receiver.specs.Hear as receiver-hear
use Rattle.receiver.specs.Window as receiver-window
use Rattle.sender.specs.Begin as sender-begin
use Rattle.sender.specs.Hear as sender-hear
use Rattle.sender.specs.Tick as sender-tick
use Rattle.transport.specs.Step.{given_forward, given_back, step_of}

pub examples : Examples
unfolding
    shown_before example_calls example_buffer twice_calls open_calls
    run_of step_of given_forward given_back begun_in begun_after opened_in opened_after
    pick frame_count_of increment_of
    fill_to blank_of announcement_of information_of lm_ack_of lm_nack_of end_of_ack_of sm_rm_of sm_ack_of
    named_of all_filler clean_for read_of
    sender-begin.begin_of sender-begin.begin_phase sender-begin.begin_idle sender-begin.begin_long sender-begin.begin_short
    sender-tick.tick_of sender-tick.lent_to sender-tick.tick_phase sender-tick.tick_opening sender-tick.tick_sending
    sender-tick.tick_short sender-tick.unless_over sender-tick.at_limit sender-tick.after_frame
    sender-hear.hear_of sender-hear.hear_read sender-hear.hear_kind sender-hear.hear_ack sender-hear.ack_opening
    sender-hear.taking sender-hear.hear_end sender-hear.if_whole sender-hear.hear_short_ack sender-hear.if_first
    receiver-hear.hear_of receiver-hear.hear_read receiver-hear.hear_kind receiver-hear.hear_unless_held receiver-hear.hear_numbered
    receiver-hear.hear_announcement receiver-hear.announce_idle receiver-hear.announce_open receiver-hear.hear_information
    receiver-hear.information_expected receiver-hear.information_open receiver-hear.stored receiver-hear.storing receiver-window.window_of
examples =
    record {
      example =
          record {
            shows = refl;
            meets = (
              λ _. (refl, refl, refl),
              (λ _. refl, (tt, (λ _. λ _. refl, (λ _. refl, (λ _. λ _. refl, (λ _. refl, (tt, tt))))))),
            );
          };
      twice =
          record {
            shows = refl;
            meets = (
              λ _. (refl, refl, refl),
              (
                λ t. absurd (false≢true t),
                (
                  λ t. absurd (false≢true t),
                  (
                    λ _. λ _. refl,
                    (
                      λ t. absurd (false≢true t),
                      (
                        λ _. refl,
                        (
                          λ t. absurd (false≢true t),
                          (
                            λ _. refl,
                            (
                              tt,
                              (
                                tt,
                                (
                                  λ _. (refl, refl, refl),
                                  (λ _. refl, (tt, (λ _. λ _. refl, (λ _. refl, (λ _. λ _. refl, (λ _. refl, (tt, tt))))))),
                                ),
                              ),
                            ),
                          ),
                        ),
                      ),
                    ),
                  ),
                ),
              ),
            );
          };
      while_open =
          record {
            shows = refl;
            meets = (
              λ _. (refl, refl),
              (
                λ _. refl,
                (
                  λ _. λ _. refl,
                  (
                    λ _. λ _. refl,
                    (
                      λ _. λ _. refl,
                      (
                        tt,
                        (
                          tt,
                          (
                            λ _. (refl, refl),
                            (λ _. refl, (tt, (λ _. λ _. refl, (λ _. refl, (λ _. λ _. refl, (λ _. refl, (tt, tt))))))),
                          ),
                        ),
                      ),
                    ),
                  ),
                ),
              ),
            );
          };
      -- its second begin finds a connection open
      beyond = λ meets. false≢true (meets.1.1.1.1.1.1.1.0 refl).0;
    }
