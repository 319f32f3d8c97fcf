-- Document 01, The receiver, "Tick, Open" and "Tick or LM_NACK, Idle"; document 02, E2, the timeouts while held, and E4, the
-- types of the others.
use Rattle.std.specs.Prelude.{◌+◌, leb, Some, None}
use Rattle.std.specs.declared.option.Option.{Option}
use Rattle.frame.specs.Choice.{pick}
use Rattle.frame.specs.Count.{increment_of}
use Rattle.receiver.specs.Hold.{hold_ack}
use Rattle.receiver.specs.Misses.{timed_out}
use Rattle.receiver.specs.State.{moved, marked, in_phase}
use Rattle.receiver.specs.Told.{Told, silently, emitting, failing_with}
use Rattle.receiver.specs.Window.{asking}
use Rattle.receiver.specs.declared.Connection.{Connection}
use Rattle.receiver.specs.declared.Misses.{Misses}
use Rattle.receiver.specs.declared.Phase.{Phase}
use Rattle.receiver.specs.declared.Phase.TheVariants.{Idle, Done, Open}
use Rattle.receiver.specs.declared.Receiver.{Receiver}

-- before T: a tick more has been waited, and nothing else changes
abbrev pub waiting : Receiver → Connection → Told
waiting r x =
    let waited = moved x x.expected x.last (increment_of x.wait) x.misses in
    silently (in_phase r (Open waited))

-- at T, before the third miss: the misses with this one, and the window from the expected frame on is asked for, which clears
-- wait
abbrev pub asking_again : Receiver → Connection → Misses → Told
asking_again r x misses = asking r x x.expected misses

-- E4: the third of one type in a row fails the connection with NACK 2
unfoldable pub timeout_by : Receiver → Connection → Option Misses → Told
timeout_by r x None = failing_with r 2
timeout_by r x (Some misses) = asking_again r x misses

abbrev pub timeout_free : Receiver → Connection → Told
timeout_free r x = timeout_by r x (timed_out x.misses)

-- E2, at T while held: the hold's LM_ACK goes out again and is counted, wait starts again; misses and w stay. E4 passes it over.
abbrev pub holding_on : Receiver → Connection → Told
holding_on r x =
    let kept = marked x x.held x.last 0 (x.holds + 1) in
    emitting (in_phase r (Open kept)) (hold_ack x)

-- E2, "a connection has 20 of these": in place of the 21st it fails with NACK 2
unfoldable pub timeout_held : Receiver → Connection → Told
timeout_held r x = pick (leb 21 (x.holds + 1)) (failing_with r 2) (holding_on r x)

-- at T by the held mark. A state that no calls make may be past T or the 21st held timeout; it does as one that is at it.
unfoldable pub tick_open : Receiver → Connection → Told
tick_open r x =
    pick (leb r.settings.timeout (increment_of x.wait)) (pick x.held (timeout_held r x) (timeout_free r x))
    (waiting r x)

-- by the state; where none is open a tick changes nothing
unfoldable pub tick_phase : Receiver → Phase → Told
tick_phase r Idle = silently r
tick_phase r (Done x) = silently r
tick_phase r (Open x) = tick_open r x

unfoldable pub tick_of : Receiver → Told
tick_of r = tick_phase r r.phase
