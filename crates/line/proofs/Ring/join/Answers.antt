-- `line::Ring::join` meets its contract. By the lent length and the count.
-- Assumes nothing.
use Rattle.line.proofs.Laws.{join_nowhere, join_full, join_room}
use Rattle.line.proofs.Ring.join.Goals as goal

pub returns-in_default : goal.returns-in_default
returns-in_default c = join_nowhere _ _ _ c.in_default.ensures.cases

pub returns-then-self-ge64 : goal.returns-then-self-ge64
returns-then-self-ge64 c = join_full _ _ _ _ c.in-Some.ensures.cases c.if-self-ge64.true

pub returns : goal.returns
returns c = join_room _ _ _ _ _ c.in-Some.ensures.cases c.if-self-ge64.false c.store.ensures
