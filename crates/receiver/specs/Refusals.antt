-- Document 01, Refusals, by place, and The line ("A refused call stands"): a refusal is a number, and nothing else comes of
-- it. Said here of every call of the receiver and apart from the definitions that answer refusals; and of 14 (document 02, E3)
-- where it is given. `proofs/Refusals.antt` proves it.
use Rattle.std.specs.Prelude.{ℕ, ◌≤◌, ◌≡◌, false, List, [], length}
use Rattle.frame.specs.Frames.{byte_of, part_from, information_of, blank_of}
use Rattle.frame.specs.Reading.{clean_for}
use Rattle.frame.specs.Result as result
use Rattle.frame.specs.declared.Frame.{Frame}
use Rattle.receiver.specs.Hear.{hear_of}
use Rattle.receiver.specs.Hold.{hold_of, resume_of}
use Rattle.receiver.specs.Make.{make_of}
use Rattle.receiver.specs.Tick.{tick_of}
use Rattle.receiver.specs.Told.{refused, Heard, heard, no_bytes}
use Rattle.receiver.specs.declared.Connection.{Connection}
use Rattle.receiver.specs.declared.Phase.{Phase}
use Rattle.receiver.specs.declared.Phase.TheVariants.{Idle, Done, Open}
use Rattle.receiver.specs.declared.Receiver.{Receiver}

-- what a hearing answers leaves the receiver and the lent buffer as they were, emits no frame (the blank one stands there)
-- and delivers no bytes (zeros stand there)
pub record Unchanged (r : Receiver) (buffer : List ℕ) (h : Heard) : Type 0 where
  pub receiver : h.told.next ≡ r
  pub lent : h.buffer ≡ buffer
  pub emits : h.told.emits ≡ false
  pub frame : h.told.frame ≡ blank_of
  pub bytes : h.told.bytes ≡ no_bytes

-- Document 02, E3, Errors: an information frame that is not clean for the connection's L. It is the last one by its number,
-- it is the one expected, and the connection is not held.
abbrev pub Unclean : Frame → Phase → Type 0
Unclean f Idle = ⊥
Unclean f (Done x) = ⊥
Unclean f (Open x) =
    (f.kind ≡ 1)
    × (1 ≤ byte_of f 0)
    × (byte_of f 0 ≡ x.frames)
    × (x.expected ≡ x.frames)
    × (x.held ≡ false)
    × (clean_for f x.length ≡ false)

pub record Refusals : Type 0 where
  -- making: refused, it answers no receiver, and the number is 1
  pub make : (timeout window capacity number : ℕ) → make_of timeout window capacity ≡ result.refused number → number ≡ 1
  -- no tick of a receiver is refused
  pub tick : (r : Receiver) (number : ℕ) → (tick_of r).outcome ≡ refused number → ⊥
  -- a hold and a resume, which are lent nothing, by the number that document 02, E2, gives to both
  pub hold : (r : Receiver) (number : ℕ) → (hold_of r).outcome ≡ refused number
      → (number ≡ 13) × Unchanged r [] (heard (hold_of r) [])
  pub resume : (r : Receiver) (number : ℕ) → (resume_of r).outcome ≡ refused number
      → (number ≡ 13) × Unchanged r [] (heard (resume_of r) [])
  -- a hearing, by whatever number it is refused, of any frame, lent anything, in any state
  pub hear : (r : Receiver) (f : Frame) (buffer : List ℕ) (number : ℕ) → (hear_of r f buffer).told.outcome ≡ refused number
      → Unchanged r buffer (hear_of r f buffer)
  -- by 14 it is refused only where `Unclean` says so, and there always, if the buffer has its length and the frame its bytes
  pub unclean : (r : Receiver) (f : Frame) (buffer : List ℕ) → (hear_of r f buffer).told.outcome ≡ refused 14
      → Unclean f r.phase
  pub judged : (r : Receiver) (f : Frame) (buffer : List ℕ) → length f.bytes ≡ 8 → length buffer ≡ 1785
      → Unclean f r.phase
      → (hear_of r f buffer).told.outcome ≡ refused 14
  -- so never where the frame is filled as document 01 has it, for a message of the connection's length, whoever sent it
  pub filled : (r : Receiver) (x : Connection) (number : ℕ) (message buffer : List ℕ) → r.phase ≡ Open x
      → x.length ≡ length message
      → (hear_of r (information_of number (part_from number message)) buffer).told.outcome ≡ refused 14
      → ⊥
