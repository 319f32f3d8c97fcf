use Rattle.transport.proofs.Making.{handed_on, no_sender_lem, no_receiver_lem, both_made}
use Rattle.transport.proofs.Ends.make.Goals as goal

pub returns-in_err-sender : goal.returns-in_err-sender
returns-in_err-sender c = handed_on _ _ c.from_residual.ensures.1 (no_sender_lem _ _ _ _ _ _ _ c.in_err-sender.ensures)

pub returns-in_err-receiver : goal.returns-in_err-receiver
returns-in_err-receiver c =
    handed_on _ _ c.from_residual-in_err-receiver.ensures.1
    (no_receiver_lem _ _ _ _ _ _ _ _ c.in_ok-sender.ensures c.in_err-receiver.ensures)

pub returns : goal.returns
returns c = both_made _ _ _ _ _ _ _ _ _ c.in_ok-sender.ensures c.in_ok-receiver.ensures c.empty-empty.ensures
