-- Document 01, The line: the two ends, the two lists of frames, the receiving buffer, the calls (document 02, E2, adds hold
-- and resume) and what is seen of each.
use Rattle.std.specs.Prelude.{ℕ, List, []}
use Rattle.frame.specs.declared.Frame.{Frame}
use Rattle.receiver.specs.Told as receiver
use Rattle.receiver.specs.declared.Receiver.{Receiver}
use Rattle.sender.specs.Told as sender
use Rattle.sender.specs.declared.Sender.{Sender}

-- The ends, the line and the receiving buffer, as a call finds them and leaves them. The frames on forward are on their way
-- from the sender to the receiver, those on back the other way.
pub record World : Type 0 where
  pub sender : Sender
  pub receiver : Receiver
  pub forward : List Frame
  pub back : List Frame
  pub buffer : List ℕ

-- The calls of demand 3, each with what it is lent: a message to begin and to the sender's tick, a buffer to the receiver's
-- hearing.
pub data Call : Type 0 where
  begin : (message : List ℕ) → Call
  sender_tick : (message : List ℕ) → Call
  receiver_tick : Call
  hold : Call
  resume : Call
  hear_forward : (buffer : List ℕ) → Call
  repeat_forward : (buffer : List ℕ) → Call
  lose_forward : Call
  hear_back : Call
  repeat_back : Call
  lose_back : Call

-- which end a frame was given to, and the frame
pub data Given : Type 0 where
  nobody : Given
  to_sender : Frame → Given
  to_receiver : Frame → Given

-- What is seen of a call from outside.
pub record Event : Type 0 where
  pub call : Call
  -- the frame that an end heard, if one did
  pub given : Given
  -- the frame that an end emitted: none or one
  pub emitted : List Frame
  -- the frame that it answered with: blank where none was emitted
  pub frame : Frame
  -- what each end reported: quiet at an end that was not called
  pub sender : sender.Outcome
  pub receiver : receiver.Outcome
  -- those of a short delivery, else eight zeros
  pub bytes : List ℕ
  -- the lent buffer as the receiver's hearing leaves it; at its other calls the receiving buffer; empty where the receiver was
  -- not called
  pub lent : List ℕ

-- where every list of calls starts
abbrev pub start_of : Sender → Receiver → List ℕ → World
start_of s r buffer = record { sender = s; receiver = r; forward = []; back = []; buffer = buffer }
