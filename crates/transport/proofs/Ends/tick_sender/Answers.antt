use borrow.Author.Rules.{rules}
use Rattle.transport.proofs.Calls.{no_forward, ticks_sender_lem}
use Rattle.transport.proofs.Ends.tick_sender.Goals as goal

pub returns-in_default : goal.returns-in_default
returns-in_default c = no_forward _ _ _ c.unheard.ensures _ c.in_default.ensures.cases

pub returns : goal.returns
returns c = ticks_sender_lem _ _ _ _ _ _ _ c.in-Some.ensures.cases (search rules) c.sender_spoke.ensures
