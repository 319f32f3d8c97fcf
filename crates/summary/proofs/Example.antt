-- Each run by computation. What calls are lent is the counts, so that there is nothing to show of it.
-- Assumes nothing.
use mathlib.Core.List.{List, [], ◌∷◌}
use mathlib.Core.Path.{refl}
use Rattle.frame.specs.Choice.{pick}
use Rattle.frame.specs.Count.{frame_count_of, increment_of}
use Rattle.frame.specs.Frames.{fill_to, blank_of, announcement_of, information_of, lm_ack_of, lm_nack_of, end_of_ack_of, sm_rm_of, sm_urm_of}
use Rattle.frame.specs.Reading.{named_of, all_filler, clean_for, used_of, read_of}
use Rattle.sender.specs.Begin.{begin_long, begin_short, begin_idle, begin_phase, begin_of, post_of}
use Rattle.sender.specs.Call.{Call}
use Rattle.sender.specs.Hear.{taking, ack_opening, ack_window, hear_ack, if_whole, hear_end, hear_kind, hear_read, hear_of}
use Rattle.sender.specs.Tick.{unless_over, at_limit, unless_third, tick_opening, after_frame, tick_sending, tick_waiting, tick_short, tick_phase, lent_to, tick_of}
use Rattle.summary.specs.Calls.{if_lent, begun}
use Rattle.summary.specs.Counts.{count_at, cleared, with_count, adding, counting, sum_below}
use Rattle.summary.specs.Example.{lendings, ending_of, Examples}
use Rattle.summary.specs.Most.{overtakes, of_two, most_to, count_for, most_of}
use Rattle.summary.specs.Seen.{Past, next, run_of, LentOwn}

own : (p : Past) (calls : List Call) → LentOwn p (lendings p calls)
unfolding lendings
own p [] = tt
own p (call ∷ calls) = ((λ taken. refl), own (next p (record { call = call; lent = p.counts })) calls)

pub examples : Examples
unfolding
    pick frame_count_of increment_of fill_to blank_of announcement_of information_of lm_ack_of lm_nack_of end_of_ack_of sm_rm_of sm_urm_of
    named_of all_filler clean_for used_of read_of
    begin_long begin_short begin_idle begin_phase begin_of post_of
    taking ack_opening ack_window hear_ack if_whole hear_end hear_kind hear_read hear_of
    unless_over at_limit unless_third tick_opening after_frame tick_sending tick_waiting tick_short tick_phase lent_to tick_of
    if_lent begun count_at cleared with_count adding counting sum_below lendings ending_of overtakes of_two most_to count_for most_of
    next run_of
examples =
    record {
      own = own;
      as_often = refl;
      last_thrice = refl;
      silence = refl;
      between = refl;
      unlent = refl;
      short = refl;
      again = refl;
    }
