-- Document 02, E2: lists of calls with holds, which meet the conditions of demand 3, and what is seen of them. The first is a
-- transfer that is held and delivered; in the second the 21st held timeout falls due.
use Rattle.std.specs.Prelude.{ℕ, List, [], ◌∷◌, ◌++◌, replicate}
use Rattle.receiver.specs.Told as receiver
use Rattle.receiver.specs.declared.Phase.TheVariants as receiver-at
use Rattle.receiver.specs.declared.Receiver.{Receiver}
use Rattle.sender.specs.Told as sender
use Rattle.delivery.specs.Demand3.{Conditions}
use Rattle.delivery.specs.Example.{Shown, frame_of, nothing, sender_says, Witness, example_sender, example_message, example_buffer, shows_announcement, shows_ack, shows_first, shows_second, shows_delivery, shows_refused13}
use Rattle.delivery.specs.Run.{Past, fresh}
use Rattle.transport.specs.Step.{step_of}
use Rattle.transport.specs.World.{Call, begin, sender_tick, receiver_tick, hold, resume}
use Rattle.transport.specs.World.{hear_forward, lose_forward, hear_back}

-- the sender and the message of document 01's example: nine bytes, two frames, G 1. The receiver has a window of one frame.
abbrev pub receiver_of : ℕ → Receiver
receiver_of timeout =
    record { settings = record { timeout = timeout; window = 1; capacity = 1785 }; phase = receiver-at.Idle }

abbrev pub start_at : ℕ → Past
start_at timeout = fresh example_sender (receiver_of timeout) (replicate 1785 0)

-- NACK 2, and failed by it
abbrev pub failed2 : Shown
failed2 =
    record {
      emitted = frame_of 3 (0x02 ∷ 0xFF ∷ 0xFF ∷ 0xFF ∷ 0xFF ∷ 0xFF ∷ 0xFF ∷ 0xFF ∷ []) ∷ [];
      sender = sender.quiet;
      receiver = receiver.failed 2;
    }

-- ---- a held transfer, at the receiver's T 2

-- Before frame 1 has come hold and resume are refused. Then the transfer is held, and cannot be held again. The sender takes
-- LM_ACK 2, 1, then the hold's 1, 1 in Sending: frame 1 alone goes out again, and is ignored. At T the hold's LM_ACK goes
-- out again, the sender takes it in Waiting, and this frame 1 is lost. Resumed, the transfer goes on with frame 2.
unfoldable pub held_calls : List Call
held_calls =
    begin example_message
    ∷ hold
    ∷ hear_forward (replicate 1785 0)
    ∷ hold
    ∷ resume
    ∷ hear_back
    ∷ sender_tick example_message
    ∷ hear_forward (replicate 1785 0)
    ∷ hold
    ∷ hold
    ∷ hear_back
    ∷ hear_back
    ∷ sender_tick example_message
    ∷ hear_forward example_buffer
    ∷ receiver_tick
    ∷ receiver_tick
    ∷ hear_back
    ∷ sender_tick example_message
    ∷ lose_forward
    ∷ resume
    ∷ hear_back
    ∷ sender_tick example_message
    ∷ hear_forward example_buffer
    ∷ hear_back
    ∷ resume
    ∷ []

-- four ticks of the sender and five frames, three of them frame 1
abbrev pub held_shown : List Shown
held_shown =
    shows_announcement
    ∷ shows_refused13
    ∷ shows_ack 1
    ∷ shows_refused13
    ∷ shows_refused13
    ∷ nothing
    ∷ shows_first
    ∷ shows_ack 2
    ∷ shows_ack 1
    ∷ shows_refused13
    ∷ nothing
    ∷ nothing
    ∷ shows_first
    ∷ nothing
    ∷ nothing
    ∷ shows_ack 1
    ∷ nothing
    ∷ shows_first
    ∷ nothing
    ∷ shows_ack 2
    ∷ nothing
    ∷ shows_second
    ∷ shows_delivery
    ∷ sender_says (sender.sent 4 5)
    ∷ shows_refused13
    ∷ []

-- ---- the 21st held timeout, at T 1

-- the connection is open and has frame 1
unfoldable pub begun_calls : List Call
begun_calls =
    begin example_message
    ∷ hear_forward (replicate 1785 0)
    ∷ hear_back
    ∷ sender_tick example_message
    ∷ hear_forward (replicate 1785 0)
    ∷ []

abbrev pub begun_shown : List Shown
begun_shown = shows_announcement ∷ shows_ack 1 ∷ nothing ∷ shows_first ∷ shows_ack 2 ∷ []

-- twelve held timeouts, a resume and another hold, and eight more; then the connection fails
unfoldable pub held_ticks : List Call
held_ticks = hold ∷ replicate 12 receiver_tick ++ resume ∷ hold ∷ replicate 9 receiver_tick

abbrev pub held_ticks_shown : List Shown
held_ticks_shown = shows_ack 1 ∷ replicate 12 (shows_ack 1) ++ shows_ack 2 ∷ shows_ack 1 ∷ replicate 8 (shows_ack 1) ++ failed2 ∷ []

-- ---- what is claimed of them

pub record HeldExamples : Type 0 where
  pub held : Witness (Conditions step_of) (start_at 2) held_calls held_shown
  pub expired : Witness (Conditions step_of) (start_at 1) (begun_calls ++ held_ticks) (begun_shown ++ held_ticks_shown)
