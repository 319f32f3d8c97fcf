-- Document 02, E1: two clean transfers of nine bytes and what is seen of them, so that its conditions can be met, whichever
-- end ticks first. They can be met by the last values that they leave: both T are G + 1, M is N × G + 1, and K is L.
use Rattle.std.specs.Prelude.{List, [], ◌∷◌, ◌≡◌, replicate}
use Rattle.frame.specs.Result.{accepted}
use Rattle.receiver.specs.Make as receiver-making
use Rattle.receiver.specs.Told as receiver
use Rattle.sender.specs.Make as sender-making
use Rattle.sender.specs.Told as sender
use Rattle.delivery.specs.Clean.{Fits, CleanCalls}
use Rattle.delivery.specs.Example.{Shown, nothing, sender_says, receiver_says, Witness, example_message, example_buffer, shows_announcement, shows_ack, shows_first, shows_second, shows_delivery, shows_refused13}
use Rattle.delivery.specs.Run.{Past, fresh, next}
use Rattle.transport.specs.Step.{step_of}
use Rattle.transport.specs.World.{Call, begin, sender_tick, receiver_tick, hold, resume}
use Rattle.transport.specs.World.{hear_forward, repeat_forward, lose_forward, hear_back, repeat_back, lose_back}

-- the example's message, begun by ends that were just made: G 2, M 5, both T 3, a window of one frame, K 9
abbrev pub clean_start : Past
clean_start =
    next step_of (fresh (sender-making.idle_with 2 3 5) (receiver-making.idle_with 3 1 9) (replicate 1785 0))
    (begin example_message)

-- the report: N × G ticks and N + 1 frames
abbrev pub shows_sent : Shown
shows_sent = sender_says (sender.sent 4 3)

-- ---- the sender ticks first

unfoldable pub sender_first_calls : List Call
sender_first_calls =
    hear_forward (replicate 1785 0)
    ∷ hear_back
    ∷ sender_tick example_message
    ∷ receiver_tick
    ∷ sender_tick example_message
    ∷ hear_forward (replicate 1785 0)
    ∷ hear_back
    ∷ receiver_tick
    ∷ sender_tick example_message
    ∷ receiver_tick
    ∷ sender_tick example_message
    ∷ hear_forward example_buffer
    ∷ hear_back
    ∷ []

abbrev pub sender_first_shown : List Shown
sender_first_shown =
    shows_announcement
    ∷ shows_ack 1
    ∷ nothing
    ∷ nothing
    ∷ nothing
    ∷ shows_first
    ∷ shows_ack 2
    ∷ nothing
    ∷ nothing
    ∷ nothing
    ∷ nothing
    ∷ shows_second
    ∷ shows_delivery
    ∷ shows_sent
    ∷ []

-- ---- the receiver ticks first

-- Among them stand begins, a hold, a resume, a repeat and a tick that are refused, the tick while a frame is on the line, and
-- calls on an empty list. They go on after the report.
unfoldable pub receiver_first_calls : List Call
receiver_first_calls =
    lose_back
    ∷ hear_forward (replicate 1785 0)
    ∷ begin example_message
    ∷ hold
    ∷ resume
    ∷ hear_back
    ∷ receiver_tick
    ∷ sender_tick example_message
    ∷ receiver_tick
    ∷ repeat_forward (replicate 1785 0)
    ∷ sender_tick example_message
    ∷ hear_forward (replicate 1785 0)
    ∷ sender_tick []
    ∷ lose_forward
    ∷ hear_back
    ∷ receiver_tick
    ∷ sender_tick example_message
    ∷ hear_forward []
    ∷ receiver_tick
    ∷ repeat_back
    ∷ sender_tick example_message
    ∷ repeat_forward []
    ∷ hear_forward example_buffer
    ∷ hear_back
    ∷ begin []
    ∷ hear_back
    ∷ receiver_tick
    ∷ sender_tick example_message
    ∷ []

abbrev pub receiver_first_shown : List Shown
receiver_first_shown =
    shows_announcement
    ∷ nothing
    ∷ shows_ack 1
    ∷ sender_says (sender.refused 3)
    ∷ shows_refused13
    ∷ shows_refused13
    ∷ nothing
    ∷ nothing
    ∷ nothing
    ∷ nothing
    ∷ nothing
    ∷ shows_first
    ∷ shows_ack 2
    ∷ sender_says (sender.refused 4)
    ∷ nothing
    ∷ nothing
    ∷ nothing
    ∷ nothing
    ∷ nothing
    ∷ nothing
    ∷ nothing
    ∷ shows_second
    ∷ receiver_says (receiver.refused 5)
    ∷ shows_delivery
    ∷ shows_sent
    ∷ sender_says (sender.refused 2)
    ∷ nothing
    ∷ nothing
    ∷ nothing
    ∷ []

-- ---- what is claimed of them

pub record CleanExamples : Type 0 where
  pub sender_made : sender-making.make_of 2 3 5 ≡ accepted (sender-making.idle_with 2 3 5)
  pub receiver_made : receiver-making.make_of 3 1 9 ≡ accepted (receiver-making.idle_with 3 1 9)
  pub fits : Fits 2 3 5 3 9 example_message
  pub sender_first : Witness (CleanCalls step_of) clean_start sender_first_calls sender_first_shown
  pub receiver_first : Witness (CleanCalls step_of) clean_start receiver_first_calls receiver_first_shown
