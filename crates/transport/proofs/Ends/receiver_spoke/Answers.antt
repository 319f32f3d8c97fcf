use Rattle.transport.proofs.Calls.{answers}
use Rattle.transport.proofs.Ends.receiver_spoke.Goals as goal

pub returns : goal.returns
returns c = search answers
