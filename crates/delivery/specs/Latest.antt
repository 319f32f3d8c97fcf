-- Document 02, E4: the latest tick at which a connection can have its report. It is a little before the tick by which demand 3
-- promises it, and the two runs of `LateExample.antt`, of two frames, reach it.
use Rattle.std.specs.Prelude.{ℕ, ◌+◌, ◌-◌, ◌*◌, ◌≤◌, List, ◌≡◌}
use Rattle.delivery.specs.Demand3.{Conditions}
use Rattle.delivery.specs.Run.{Line, Past, FromFresh, run_of}
use Rattle.delivery.specs.Seen.{Opened, opened_in}
use Rattle.transport.specs.Capped.{capped_step}
use Rattle.transport.specs.Step.{step_of}
use Rattle.transport.specs.World.{Call}

-- Where no hold is accepted: frame 1 is waited for after the opening's LM_ACK and has three timeouts, every later frame of the
-- same window has four, the last of which fails the connection; and a frame that is accepted as late as can be comes one tick
-- before that. T × N × 4 is more than this by T + N − 1.
abbrev pub latest : ℕ → ℕ → ℕ
latest timeout frames = timeout * (4 * frames - 1) - (frames - 1)

-- the last connection has its report by its latest tick, without an accepted hold, and with holds by 20 × T ticks more: twenty
-- timeouts come while held, and in place of the 21st, or of the fourth that was put off, it fails
abbrev pub ReportedByLatest : ℕ → Opened → Type 0
ReportedByLatest timeout Opened.never = Unit
ReportedByLatest timeout (Opened.since frames ticks reports pauses) =
    (latest timeout frames + 20 * timeout ≤ ticks → reports ≡ 1) × (pauses ≡ 0 → latest timeout frames ≤ ticks → reports ≡ 1)

-- of a list of calls, on a line, that meets the conditions of demand 3
abbrev pub LatestAfter : Line → Past → List Call → Type 0
LatestAfter line p calls =
    Conditions line p calls
    → ReportedByLatest p.world.receiver.settings.timeout (opened_in (run_of line p calls).events)

-- from fresh ends on
abbrev pub LatestOn : Line → Type 0
LatestOn line = FromFresh (LatestAfter line)

-- on the line that keeps every frame, and at a line of 64
pub record Latest : Type 0 where
  pub line : LatestOn step_of
  pub capped : LatestOn capped_step
