-- `summary::calls::begin` meets its contract: an accepted begin clears the counts, and its frame is counted.
-- Assumes nothing.
use Rattle.summary.proofs.Laws.{keeps_begun}
use Rattle.summary.proofs.calls.begin.Goals as goal

pub returns : goal.returns
returns c =
    keeps_begun _ _ _ c.in-Some.ensures.cases c.begin-answer.ensures c.is_refused.ensures c.if-is_refused.false
    (c.fill.ensures.after (λ y same. same)) c.counted.ensures
