use Rattle.transport.proofs.Calls.{give_forward_some}
use Rattle.transport.proofs.Ends.give_forward.Goals as goal

pub returns : goal.returns
returns c = give_forward_some _ _ _ _ _ _ _ _ _ c.requires c.told-forward c.head-f.ensures c.hear-a.ensures c.receiver_spoke.ensures
