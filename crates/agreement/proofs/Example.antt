-- The runs of specs/Example.antt, computed.
-- Assumes nothing.
use mathlib.Core.Path.{refl}
use Rattle.frame.specs.Choice.{pick}
use Rattle.frame.specs.Count.{increment_of}
use Rattle.version.specs.List.{is_list, rising, three_bytes, place_of, place_below}
use Rattle.version.specs.Message.{verdict_of, write_of, read_of}
use Rattle.version.specs.Talk.{make_of, doing, connect_of, success_trigger, else_trigger, continue_trigger, heard_trigger, hear_judged, hear_of, tick_talking, tick_settled, tick_state, tick_of}
use Rattle.agreement.proofs.Unseen.{any, no_tick, no_stop, no_greeting}
use Rattle.agreement.specs.Example.{reports_before, Examples}
use Rattle.agreement.specs.Run.{run_of}
use Rattle.agreement.specs.Step.{given_of, done_of, step_at}

pub examples : Examples
unfolding
    reports_before any run_of step_at done_of given_of
    make_of is_list rising three_bytes place_of place_below verdict_of write_of read_of
    doing connect_of success_trigger else_trigger continue_trigger heard_trigger hear_judged hear_of
    tick_talking tick_settled tick_state tick_of
    pick increment_of
examples =
    record {
      below2 = record { made = refl; made' = refl; is = refl };
      from2 = record { made = refl; made' = refl; is = refl };
      lossy = record { made = refl; made' = refl; is = refl };
      apart = record { made = refl; made' = refl; is = refl };
      uncut =
          record { limit = no_tick _ refl; stop = no_stop _ refl; greeting = no_greeting _ refl };
      silent = record { made = refl; made' = refl; is = refl };
    }
