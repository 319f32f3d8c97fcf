use Rattle.transport.proofs.Calls.{lose_forward_answer}
use Rattle.transport.proofs.Ends.lose_forward.Goals as goal

pub returns : goal.returns
returns c = lose_forward_answer _ _ _ c.unheard.ensures c.without_forward.ensures
