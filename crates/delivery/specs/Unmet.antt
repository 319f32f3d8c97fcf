-- Document 02, E2: the rule that the sender gained is for holds alone. In a list of calls that meets the conditions of demand
-- 3, and in which no hold is accepted, no LM_ACK that the sender hears is taken by it: the starts on their way back never
-- fall. Nor is the receiver ever held, and no connection has had a hold. So both ends do there what document 01 has them
-- do, in its time.
use Rattle.std.specs.Prelude.{ℕ, Bool, true, false, ◌&&◌, List, [], ◌∷◌, ◌≡◌, eqb}
use Rattle.frame.specs.Frames.{byte_of}
use Rattle.frame.specs.declared.Frame.{Frame}
use Rattle.receiver.specs.Hear.{is_held}
use Rattle.receiver.specs.Told as receiver
use Rattle.sender.specs.Hear.{asks_to_hold, ack_below}
use Rattle.sender.specs.Told.{silently}
use Rattle.sender.specs.declared.Phase.{Phase}
use Rattle.sender.specs.declared.Phase.TheVariants.{Idle, Opening, Sending, Waiting, Short}
use Rattle.sender.specs.declared.Sender.{Sender}
use Rattle.sender.specs.declared.Transfer.{Transfer}
use Rattle.delivery.specs.Clean.{CallsMeet}
use Rattle.delivery.specs.Demand3.{NeverHeld}
use Rattle.delivery.specs.Run.{Line, Past, FromFresh, next, run_of}
use Rattle.delivery.specs.Seen.{Sort, begins, ticks_sender, ticks_receiver, holds_receiver, other, sort_of, opened_in}
use Rattle.transport.specs.Capped.{capped_step}
use Rattle.transport.specs.Step.{was_refused, step_of}
use Rattle.transport.specs.World.{Call, Event, Given, nobody, to_sender, to_receiver}

-- the call is no hold, or it is refused
abbrev pub NoHoldBy : Sort → receiver.Outcome → Type 0
NoHoldBy (begins message) o = Unit
NoHoldBy ticks_sender o = Unit
NoHoldBy ticks_receiver o = Unit
NoHoldBy holds_receiver o = was_refused o ≡ true
NoHoldBy other o = Unit

abbrev pub NoHold : Past → Call → Event → Type 0
NoHold p c e = NoHoldBy (sort_of c) e.receiver

-- a frame has the kind, the start and the count of an LM_ACK that the sender takes as a hold's (its filler is not looked at
-- here, nor whether the start is 0: the sender would refuse or ignore such a frame)
abbrev pub taken_as_hold : Phase → Frame → Bool
taken_as_hold Idle f = false
taken_as_hold (Opening x) f = false
taken_as_hold (Sending x) f = eqb f.kind 2 && asks_to_hold x.start (byte_of f 0) (byte_of f 1)
taken_as_hold (Waiting x) f = eqb f.kind 2 && asks_to_hold x.start (byte_of f 0) (byte_of f 1)
taken_as_hold (Short x) f = false

-- what the sender is given, if anything, is none
abbrev pub Unmet : Sender → Given → Type 0
Unmet s nobody = Unit
Unmet s (to_sender f) = taken_as_hold s.phase f ≡ false
Unmet s (to_receiver f) = Unit

-- along the whole list, on a line; and each call finds a receiver that is not held
abbrev pub AllUnmet : Line → Past → List Call → Type 0
AllUnmet line p [] = Unit
AllUnmet line p (c ∷ calls) =
    Unmet p.world.sender (line p.world c).event.given
    × (is_held p.world.receiver.phase ≡ false)
    × AllUnmet line (next line p c) calls

-- so it is where no hold is accepted, and no connection has had one
abbrev pub UnmetAfter : Line → Past → List Call → Type 0
UnmetAfter line p calls =
    CallsMeet NoHold line p calls
    → AllUnmet line p calls × NeverHeld (opened_in (run_of line p calls).events)

-- from fresh ends on
abbrev pub NeverMetOn : Line → Type 0
NeverMetOn line = FromFresh (UnmetAfter line)

-- on the line that keeps every frame and at a line of 64; and what is not taken by the new rule is ignored, as before it
pub record NeverMet : Type 0 where
  pub line : NeverMetOn step_of
  pub capped : NeverMetOn capped_step
  pub ignored : (s : Sender) (t : Transfer) (taken start count : ℕ) → asks_to_hold taken start count ≡ false
      → ack_below s t taken start count ≡ silently s
