use borrow.Author.Rules.{rules}
use Rattle.transport.proofs.Calls.{no_forward, begins}
use Rattle.transport.proofs.Ends.begin.Goals as goal

pub returns-in_default : goal.returns-in_default
returns-in_default c = no_forward _ _ _ c.unheard.ensures _ c.in_default.ensures.cases

pub returns : goal.returns
returns c = begins _ _ _ _ _ _ _ c.in-Some.ensures.cases (search rules) c.sender_spoke.ensures
