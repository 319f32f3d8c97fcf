use Rattle.transport.proofs.Calls.{give_back_some}
use Rattle.transport.proofs.Ends.give_back.Goals as goal

pub returns : goal.returns
returns c = give_back_some _ _ _ _ _ _ _ c.requires c.told-back c.head-f.ensures c.hear-a.ensures c.sender_spoke.ensures
