-- Both ends, made from their settings, with nothing on the line; or the refusal of a setting.
use Rattle.std.specs.Prelude.{ℕ}
use Rattle.frame.specs.Result.{Result, accepted, refused}
use Rattle.line.specs.Ring.{empty_of}
use Rattle.receiver.specs.Make as receiver
use Rattle.receiver.specs.declared.Receiver.{Receiver}
use Rattle.sender.specs.Make as sender
use Rattle.sender.specs.declared.Sender.{Sender}
use Rattle.transport.specs.declared.Ends.{Ends}

-- both ends, at an empty line; where making one of them is refused, that refusal, the sender's first
unfoldable pub joined : Result Sender → Result Receiver → Result Ends
joined (refused number) r = refused number
joined (accepted s) (refused number) = refused number
joined (accepted s) (accepted r) =
    accepted (record { sender = s; receiver = r; forward = empty_of; back = empty_of })

-- from G, the sender's T and M, and the receiver's T, C and K; document 01, Refusals, by place: making an end
unfoldable pub make_of : ℕ → ℕ → ℕ → ℕ → ℕ → ℕ → Result Ends
make_of gap timeout limit patience window capacity =
    joined (sender.make_of gap timeout limit) (receiver.make_of patience window capacity)
