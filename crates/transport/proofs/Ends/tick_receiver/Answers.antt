use borrow.Author.Rules.{rules}
use Rattle.transport.proofs.Calls.{no_back, ticks_receiver_lem}
use Rattle.transport.proofs.Ends.tick_receiver.Goals as goal

pub returns-in_default : goal.returns-in_default
returns-in_default c = no_back _ _ _ c.unheard.ensures _ c.in_default.ensures.cases

pub returns : goal.returns
returns c = ticks_receiver_lem _ _ _ _ _ _ (search rules) c.in-Some.ensures.cases c.receiver_spoke.ensures
