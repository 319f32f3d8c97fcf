-- Document 02, E2: holding a transfer. What the receiver does at each frame and tick while it is held stands with the
-- other hearings (`Hear.antt`) and ticks (`Tick.antt`).
use Rattle.std.specs.Prelude.{◌-◌, Bool, true, false, not, ◌&&◌, leb}
use Rattle.frame.specs.Choice.{pick}
use Rattle.frame.specs.Frames.{lm_ack_of}
use Rattle.frame.specs.declared.Frame.{Frame}
use Rattle.receiver.specs.State.{marked, in_phase}
use Rattle.receiver.specs.Told.{Told, refusing, emitting}
use Rattle.receiver.specs.Window.{window_of, window_ack}
use Rattle.receiver.specs.declared.Connection.{Connection}
use Rattle.receiver.specs.declared.Phase.{Phase}
use Rattle.receiver.specs.declared.Phase.TheVariants.{Idle, Done, Open}
use Rattle.receiver.specs.declared.Receiver.{Receiver}

-- the LM_ACK of a hold: it asks for one frame, the last one that was accepted, which the receiver has already
abbrev pub hold_ack : Connection → Frame
hold_ack x = lm_ack_of (x.expected - 1) 1

-- ---- hold

-- E2, 13, of a hold in an open connection, where it does not apply: a frame has been accepted, and no hold stands
abbrev pub may_hold : Connection → Bool
may_hold x = leb 2 x.expected && not x.held

-- "Hold": the mark is set and that LM_ACK goes out; w, wait, misses and the count stay, the wait is one after an LM_ACK
abbrev pub holding : Receiver → Connection → Told
holding r x =
    let kept = marked x true x.last x.wait x.holds in
    emitting (in_phase r (Open kept)) (hold_ack x)

unfoldable pub hold_open : Receiver → Connection → Told
hold_open r x = pick (may_hold x) (holding r x) (refusing r 13)

-- by the state: refused where no connection is open
unfoldable pub hold_phase : Receiver → Phase → Told
hold_phase r Idle = refusing r 13
hold_phase r (Done x) = refusing r 13
hold_phase r (Open x) = hold_open r x

unfoldable pub hold_of : Receiver → Told
hold_of r = hold_phase r r.phase

-- ---- resume

-- "Resume": the mark goes, and the window from e on is asked for with the end that it has now; wait, misses and the count
-- stay, the wait is one after an LM_ACK
abbrev pub resuming : Receiver → Connection → Told
resuming r x =
    let last = window_of r.settings x.expected x.frames in
    let going = marked x false last x.wait x.holds in
    emitting (in_phase r (Open going)) (window_ack x.expected last)

-- E2, 13, of a resume: no hold stands
unfoldable pub resume_open : Receiver → Connection → Told
resume_open r x = pick x.held (resuming r x) (refusing r 13)

unfoldable pub resume_phase : Receiver → Phase → Told
resume_phase r Idle = refusing r 13
resume_phase r (Done x) = refusing r 13
resume_phase r (Open x) = resume_open r x

unfoldable pub resume_of : Receiver → Told
resume_of r = resume_phase r r.phase
