-- `receiver::Receiver::hear` meets its contract. A frame that cannot be read is refused 6 by the definition too.
-- Assumes nothing.
use borrow.Author.Rules.{rules}
use Rattle.frame.specs.Choice.{pick}
use Rattle.receiver.specs.Hear.{hear_read, hear_of}
use Rattle.receiver.proofs.Laws.{unread}
use Rattle.receiver.proofs.Receiver.hear.Goals as goal

pub returns-in_default-reading : goal.returns-in_default-reading
unfolding hear_of hear_read pick
returns-in_default-reading c =
    let six = unread _ _ _ c.read-reading.ensures c.in_default-reading.is in
    search (rules, six, c.in-Some.ensures.cases)
