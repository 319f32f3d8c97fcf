-- Document 02, E4, in its own terms and apart from the definitions: what a connection waits after, how many timeouts in a row it
-- counts and of which type, and what each call makes of that. `CountsByType` says that the receiver's calls do so in every
-- state; `proofs/Types.antt` proves it.
use Rattle.std.specs.Prelude.{ℕ, ◌+◌, ◌≤◌, Bool, true, false, List, ◌≡◌, eqb, leb}
use Rattle.frame.specs.Choice.{pick}
use Rattle.frame.specs.Count.{increment_of}
use Rattle.frame.specs.declared.Frame.{Frame}
use Rattle.receiver.specs.Hear.{hear_of}
use Rattle.receiver.specs.Hold.{hold_of, resume_of}
use Rattle.receiver.specs.Tick.{tick_of}
use Rattle.receiver.specs.Told.{quiet, failed, Told}
use Rattle.receiver.specs.declared.Connection.{Connection}
use Rattle.receiver.specs.declared.Misses.{Misses}
use Rattle.receiver.specs.declared.Misses.TheVariants.{NoneAfterAck, OneAfterAck, TwoAfterAck, NoneAfterFrame, OneAfterFrame}
use Rattle.receiver.specs.declared.Phase.{Phase}
use Rattle.receiver.specs.declared.Phase.TheVariants.{Idle, Done, Open}
use Rattle.receiver.specs.declared.Receiver.{Receiver}

-- the two types of wait, and of the timeout that ends one: after an own LM_ACK, and after an accepted frame that drew none
pub data Wait : Type 0 where
  after_ack : Wait
  after_frame : Wait

-- the timeouts counted: none, or so many in a row of one type
pub data Timeouts : Type 0 where
  none : Timeouts
  some : Wait → ℕ → Timeouts

-- both, for each case of the receiver's misses
pub record Count : Type 0 where
  pub waits : Wait
  pub timeouts : Timeouts

abbrev pub count_of : Misses → Count
count_of NoneAfterAck = record { waits = after_ack; timeouts = none }
count_of OneAfterAck = record { waits = after_ack; timeouts = some after_ack 1 }
count_of TwoAfterAck = record { waits = after_ack; timeouts = some after_ack 2 }
count_of NoneAfterFrame = record { waits = after_frame; timeouts = none }
count_of OneAfterFrame = record { waits = after_ack; timeouts = some after_frame 1 }

-- ---- the rules

abbrev pub is_same : Wait → Wait → Bool
is_same after_ack after_ack = true
is_same after_ack after_frame = false
is_same after_frame after_ack = false
is_same after_frame after_frame = true

-- "starts the count at 1": the number of a timeout that ends this wait, after these
abbrev pub number_of : Wait → Timeouts → ℕ
number_of wait none = 1
number_of wait (some before n) = pick (is_same wait before) (n + 1) 1

-- what can happen to the count at a call: nothing; a frame is accepted, and draws an LM_ACK or not; the LM_ACK of a hold, of a
-- resume or of a timeout while held goes out; the wait is over, not held, and its LM_ACK goes out
pub data Happening : Type 0 where
  nothing : Happening
  accepts : (acknowledged : Bool) → Happening
  acknowledges : Happening
  times_out : Happening

-- "the later one decides the type"; an accepted frame clears the count (document 01, "Frame i, Open"); of the timeouts those
-- while held are passed over
abbrev pub count_after : Happening → Count → Count
count_after nothing c = c
count_after (accepts true) c = record { waits = after_ack; timeouts = none }
count_after (accepts false) c = record { waits = after_frame; timeouts = none }
count_after acknowledges c = record { waits = after_ack; timeouts = c.timeouts }
count_after times_out c = record { waits = after_ack; timeouts = some c.waits (number_of c.waits c.timeouts) }

-- ---- what happens, read off a call's answer

-- a tick emits a frame only where the wait is over
abbrev pub ticked_as : Connection → Told → Happening
ticked_as x t = pick t.emits (pick x.held acknowledges times_out) nothing

-- a hold or a resume that is not refused emits its LM_ACK
abbrev pub paused_as : Told → Happening
paused_as t = pick t.emits acknowledges nothing

-- A hearing accepts a frame where the next one is expected after it. (The LM_ACK that a repeated announcement draws comes before
-- any accepted frame, in a wait that is one after an LM_ACK already: `MissesWithin`.)
abbrev pub heard_as : Connection → Told → Connection → Happening
heard_as x t y = pick (eqb y.expected (x.expected + 1)) (accepts t.emits) nothing

-- ---- the claim

-- the connection, if it is still open, counts what it is to count
abbrev pub OpenCounts : (Connection → Count) → Phase → Type 0
OpenCounts count Idle = Unit
OpenCounts count (Done y) = Unit
OpenCounts count (Open y) = count_of y.misses ≡ count y

-- after a tick, a hold or a resume that told t
abbrev pub CountsTick : Phase → Told → Type 0
CountsTick Idle t = Unit
CountsTick (Done x) t = Unit
CountsTick (Open x) t = OpenCounts (λ y. count_after (ticked_as x t) (count_of x.misses)) t.next.phase

abbrev pub CountsPause : Phase → Told → Type 0
CountsPause Idle t = Unit
CountsPause (Done x) t = Unit
CountsPause (Open x) t = OpenCounts (λ y. count_after (paused_as t) (count_of x.misses)) t.next.phase

-- after a hearing that told t; a connection that it opens waits after the opening's LM_ACK
abbrev pub CountsHear : Phase → Told → Type 0
CountsHear Idle t = OpenCounts (λ y. count_of NoneAfterAck) t.next.phase
CountsHear (Done x) t = OpenCounts (λ y. count_of NoneAfterAck) t.next.phase
CountsHear (Open x) t = OpenCounts (λ y. count_after (heard_as x t y) (count_of x.misses)) t.next.phase

-- a wait that is over, not held: the third timeout of one type fails, every other goes on
abbrev pub ThirdFails : Receiver → Phase → Type 0
ThirdFails r Idle = Unit
ThirdFails r (Done x) = Unit
ThirdFails r (Open x) =
    x.held ≡ false
    → r.settings.timeout ≤ increment_of x.wait
    → (tick_of r).outcome ≡ pick (leb 3 (number_of (count_of x.misses).waits (count_of x.misses).timeouts)) (failed 2) quiet

pub record CountsByType : Type 0 where
  pub tick : (r : Receiver) → CountsTick r.phase (tick_of r)
  pub hold : (r : Receiver) → CountsPause r.phase (hold_of r)
  pub resume : (r : Receiver) → CountsPause r.phase (resume_of r)
  pub hear : (r : Receiver) (f : Frame) (buffer : List ℕ) → CountsHear r.phase (hear_of r f buffer).told
  pub third : (r : Receiver) → ThirdFails r r.phase
