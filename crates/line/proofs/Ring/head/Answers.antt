-- `line::Ring::head` meets its contract. By the lent length.
-- Assumes nothing.
use Rattle.line.proofs.Laws.{head_there, head_none}
use Rattle.line.proofs.Ring.head.Goals as goal

pub returns-in-Some : goal.returns-in-Some
returns-in-Some c = head_there _ _ _ _ c.in-Some.ensures.cases c.frame_at.ensures

pub returns-in-None : goal.returns-in-None
returns-in-None c = head_none _ _ _ c.in-None.ensures.cases c.blank.ensures
