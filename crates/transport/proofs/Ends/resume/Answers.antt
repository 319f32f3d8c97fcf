use borrow.Author.Rules.{rules}
use Rattle.transport.proofs.Calls.{no_back, resumes_receiver}
use Rattle.transport.proofs.Ends.resume.Goals as goal

pub returns-in_default : goal.returns-in_default
returns-in_default c = no_back _ _ _ c.unheard.ensures _ c.in_default.ensures.cases

pub returns : goal.returns
returns c = resumes_receiver _ _ _ _ _ _ (search rules) c.in-Some.ensures.cases c.receiver_spoke.ensures
