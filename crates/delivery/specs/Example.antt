-- Lists of calls, and what is seen of them. Two meet the conditions of demand 3: the example of document 01, The player (the
-- event numbers and the text are the player's), and one with two begins and refused calls. The third begins while a
-- connection is open.
use Rattle.std.specs.Prelude.{ℕ, List, [], ◌∷◌, ◌++◌, take, replicate, ◌≡◌}
use Rattle.frame.specs.declared.Frame.{Frame}
use Rattle.receiver.specs.Told as receiver
use Rattle.receiver.specs.declared.Phase.TheVariants as receiver-at
use Rattle.receiver.specs.declared.Receiver.{Receiver}
use Rattle.sender.specs.Told as sender
use Rattle.sender.specs.declared.Phase.TheVariants.{Idle}
use Rattle.sender.specs.declared.Sender.{Sender}
use Rattle.delivery.specs.Demand3.{Conditions}
use Rattle.delivery.specs.Run.{Past, fresh, run_of}
use Rattle.delivery.specs.WhileOpen.{LineConditions}
use Rattle.transport.specs.Step.{step_of}
use Rattle.transport.specs.World.{Call, begin, sender_tick, hear_forward, repeat_forward, lose_forward, hear_back, lose_back, Event}

-- what is printed of an event: the frame emitted, the sender's report, the receiver's
pub record Shown : Type 0 where
  pub emitted : List Frame
  pub sender : sender.Outcome
  pub receiver : receiver.Outcome

-- of a run, whose newest event stands first, in the order of the events, before what is shown after them
unfoldable pub shown_before : List Event → List Shown → List Shown
shown_before [] after = after
shown_before (e ∷ past) after =
    shown_before past (record { emitted = e.emitted; sender = e.sender; receiver = e.receiver } ∷ after)

abbrev pub frame_of : ℕ → List ℕ → Frame
frame_of kind bytes = record { kind = kind; bytes = bytes }

-- an event that emits a frame, and one that emits none, with no report
abbrev pub emits : ℕ → List ℕ → Shown
emits kind bytes =
    record { emitted = frame_of kind bytes ∷ []; sender = sender.quiet; receiver = receiver.quiet }

abbrev pub nothing : Shown
nothing = record { emitted = []; sender = sender.quiet; receiver = receiver.quiet }

-- an event that emits none, with what an end says
abbrev pub sender_says : sender.Outcome → Shown
sender_says outcome = record { emitted = []; sender = outcome; receiver = receiver.quiet }

abbrev pub receiver_says : receiver.Outcome → Shown
receiver_says outcome = record { emitted = []; sender = sender.quiet; receiver = outcome }

-- ---- the frames of a message of nine bytes

abbrev pub shows_announcement : Shown
shows_announcement = emits 1 (0x00 ∷ 0x02 ∷ 0x09 ∷ 0x00 ∷ 0xFF ∷ 0xFF ∷ 0xFF ∷ 0xFF ∷ [])

-- LM_ACK of one frame from this number on
abbrev pub shows_ack : ℕ → Shown
shows_ack start = emits 2 (start ∷ 0x01 ∷ 0xFF ∷ 0xFF ∷ 0xFF ∷ 0xFF ∷ 0xFF ∷ 0xFF ∷ [])

abbrev pub shows_first : Shown
shows_first = emits 1 (0x01 ∷ 0x01 ∷ 0x02 ∷ 0x03 ∷ 0x04 ∷ 0x05 ∷ 0x06 ∷ 0x07 ∷ [])

abbrev pub shows_second : Shown
shows_second = emits 1 (0x02 ∷ 0x08 ∷ 0x09 ∷ 0xFF ∷ 0xFF ∷ 0xFF ∷ 0xFF ∷ 0xFF ∷ [])

-- EndofACK, with the delivery
abbrev pub shows_delivery : Shown
shows_delivery =
    record {
      emitted = frame_of 4 (0x02 ∷ 0x09 ∷ 0x00 ∷ 0xFF ∷ 0xFF ∷ 0xFF ∷ 0xFF ∷ 0xFF ∷ []) ∷ [];
      sender = sender.quiet;
      receiver = receiver.delivered 9;
    }

abbrev pub shows_refused13 : Shown
shows_refused13 = receiver_says (receiver.refused 13)

-- ---- lists of calls

-- a list of calls meets some conditions, and this is seen of it
pub record Witness
    (conditions : Past → List Call → Type 0) (start : Past) (calls : List Call) (shown : List Shown) : Type 0 where
  pub shows : shown_before (run_of step_of start calls).events [] ≡ shown
  pub meets : conditions start calls

-- ---- the example

-- its settings and its message of nine bytes; the buffer holds zeros
abbrev pub example_sender : Sender
example_sender = record { settings = record { gap = 1; timeout = 10; limit = 100 }; phase = Idle }

abbrev pub example_receiver : Receiver
example_receiver =
    record { settings = record { timeout = 10; window = 2; capacity = 1785 }; phase = receiver-at.Idle }

abbrev pub example_message : List ℕ
example_message = 1 ∷ 2 ∷ 3 ∷ 4 ∷ 5 ∷ 6 ∷ 7 ∷ 8 ∷ 9 ∷ []

abbrev pub example_start : Past
example_start = fresh example_sender example_receiver (replicate 1785 0)

-- the buffer after frame 1 has been heard
unfoldable pub example_buffer : List ℕ
example_buffer = take 7 example_message ++ replicate 1778 0

-- the begin, then the events; each hearing is lent the buffer as the call before left it
unfoldable pub example_calls : List Call
example_calls =
    begin example_message
    ∷ hear_forward (replicate 1785 0)
    ∷ hear_back
    ∷ sender_tick example_message
    ∷ hear_forward (replicate 1785 0)
    ∷ sender_tick example_message
    ∷ hear_forward example_buffer
    ∷ hear_back
    ∷ []

-- the seven printed lines; an event that prints nothing stands between them
abbrev pub example_shown : List Shown
example_shown =
    -- 0 S 1 00 02 09 00 ..
    shows_announcement
    -- 1 R 2 01 02 ..
    ∷ emits 2 (0x01 ∷ 0x02 ∷ 0xFF ∷ 0xFF ∷ 0xFF ∷ 0xFF ∷ 0xFF ∷ 0xFF ∷ [])
    ∷ nothing
    -- 3 S 1 01 ..
    ∷ shows_first
    ∷ nothing
    -- 5 S 1 02 ..
    ∷ shows_second
    -- 6 R 4 02 09 00 .., 6 R delivered 9
    ∷ shows_delivery
    -- 7 S sent 2 3
    ∷ sender_says (sender.sent 2 3)
    ∷ []

-- ---- two begins, and calls that are refused

-- the sender of the example with T 1: SM_RM goes again at each tick
abbrev pub eager_sender : Sender
eager_sender = record { settings = record { gap = 1; timeout = 1; limit = 100 }; phase = Idle }

abbrev pub twice_start : Past
twice_start = fresh eager_sender example_receiver (replicate 1785 0)

-- A short message: its SM_RM is lost to a hearing that is lent no buffer, a tick is lent no message, a begin comes too
-- early. It goes again and is heard twice; one of the two SM_ACKs is lost. Then the example's message.
unfoldable pub twice_calls : List Call
twice_calls =
    begin (1 ∷ 2 ∷ [])
    ∷ hear_forward []
    ∷ sender_tick []
    ∷ sender_tick (1 ∷ 2 ∷ [])
    ∷ repeat_forward []
    ∷ repeat_forward (replicate 1785 0)
    ∷ begin example_message
    ∷ hear_forward (replicate 1785 0)
    ∷ hear_back
    ∷ lose_back
    ∷ example_calls

abbrev pub short_shown : Shown
short_shown =
    record {
      emitted = frame_of 6 (0x01 ∷ 0xFF ∷ 0xFF ∷ 0xFF ∷ 0xFF ∷ 0xFF ∷ 0xFF ∷ 0xFF ∷ []) ∷ [];
      sender = sender.quiet;
      receiver = receiver.short;
    }

-- both begins have their report: sent after one tick and two frames, and what the example shows
abbrev pub twice_shown : List Shown
twice_shown =
    emits 5 (0x01 ∷ 0x02 ∷ 0xFF ∷ 0xFF ∷ 0xFF ∷ 0xFF ∷ 0xFF ∷ 0xFF ∷ [])
    ∷ receiver_says (receiver.refused 5)
    ∷ sender_says (sender.refused 4)
    ∷ emits 5 (0x01 ∷ 0x02 ∷ 0xFF ∷ 0xFF ∷ 0xFF ∷ 0xFF ∷ 0xFF ∷ 0xFF ∷ [])
    ∷ receiver_says (receiver.refused 5)
    ∷ short_shown
    ∷ sender_says (sender.refused 3)
    ∷ short_shown
    ∷ sender_says (sender.sent 1 2)
    ∷ nothing
    ∷ example_shown

-- ---- a begin while a connection is open

-- the sender of the example with M 3
abbrev pub hasty_sender : Sender
hasty_sender = record { settings = record { gap = 1; timeout = 10; limit = 3 }; phase = Idle }

abbrev pub open_start : Past
open_start = fresh hasty_sender example_receiver (replicate 1785 0)

-- Nine other bytes open a connection and fail at M, and what is on the line is lost. The receiver still waits for frame 1
-- when the example's message begins, with the same N and L.
unfoldable pub open_calls : List Call
open_calls =
    begin (replicate 9 0)
    ∷ hear_forward (replicate 1785 0)
    ∷ sender_tick (replicate 9 0)
    ∷ sender_tick (replicate 9 0)
    ∷ sender_tick (replicate 9 0)
    ∷ lose_forward
    ∷ lose_back
    ∷ example_calls

abbrev pub open_shown : List Shown
open_shown =
    emits 1 (0x00 ∷ 0x02 ∷ 0x09 ∷ 0x00 ∷ 0xFF ∷ 0xFF ∷ 0xFF ∷ 0xFF ∷ [])
    ∷ emits 2 (0x01 ∷ 0x02 ∷ 0xFF ∷ 0xFF ∷ 0xFF ∷ 0xFF ∷ 0xFF ∷ 0xFF ∷ [])
    ∷ nothing
    ∷ nothing
    ∷ record {
      emitted = frame_of 3 (0x03 ∷ 0xFF ∷ 0xFF ∷ 0xFF ∷ 0xFF ∷ 0xFF ∷ 0xFF ∷ 0xFF ∷ []) ∷ [];
      sender = sender.failed 3 3 2;
      receiver = receiver.quiet;
    }
    ∷ nothing
    ∷ nothing
    ∷ example_shown

-- ---- what is claimed of them

pub record Examples : Type 0 where
  pub example : Witness (Conditions step_of) example_start example_calls example_shown
  pub twice : Witness (Conditions step_of) twice_start twice_calls twice_shown
  pub while_open : Witness (LineConditions step_of) open_start open_calls open_shown
  -- demand 3 says nothing of the third
  pub beyond : Conditions step_of open_start open_calls → ⊥
