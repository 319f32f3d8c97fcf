-- The window: the frames that one LM_ACK asks for.
use Rattle.std.specs.Prelude.{ℕ, ◌+◌, ◌-◌, min}
use Rattle.frame.specs.Frames.{lm_ack_of}
use Rattle.frame.specs.declared.Frame.{Frame}
use Rattle.receiver.specs.State.{moved, in_phase}
use Rattle.receiver.specs.Told.{Told, emitting}
use Rattle.receiver.specs.declared.Connection.{Connection}
use Rattle.receiver.specs.declared.Misses.{Misses}
use Rattle.receiver.specs.declared.Phase.TheVariants.{Open}
use Rattle.receiver.specs.declared.Receiver.{Receiver}
use Rattle.receiver.specs.declared.Settings.{Settings}

-- The receiver, "At w": the last frame of the window from e on, which has C frames or those up to N
unfoldable pub window_of : Settings → ℕ → ℕ → ℕ
window_of s expected frames = min (expected + s.window - 1) frames

-- the LM_ACK that asks for the frames from e to w: the first and how many
abbrev pub window_ack : ℕ → ℕ → Frame
window_ack expected last = lm_ack_of expected (last - (expected - 1))

-- the window from e on is asked for: its end is stored, the wait starts again, and these misses stand
abbrev pub asking : Receiver → Connection → ℕ → Misses → Told
asking r x expected misses =
    let last = window_of r.settings expected x.frames in
    emitting (in_phase r (Open (moved x expected last 0 misses))) (window_ack expected last)
