use Rattle.transport.proofs.Calls.{lose_back_answer}
use Rattle.transport.proofs.Ends.lose_back.Goals as goal

pub returns : goal.returns
returns c = lose_back_answer _ _ _ c.unheard.ensures c.without_back.ensures
