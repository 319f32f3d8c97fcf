-- Document 01, The player: its events as calls, and what a list of events does at its line of 64.
use Rattle.std.specs.Prelude.{ℕ, List, [], ◌∷◌, eqb}
use Rattle.frame.specs.Choice.{pick}
use Rattle.transport.specs.Capped.{capped_step}
use Rattle.transport.specs.Step.{Stepped}
use Rattle.transport.specs.World.{World, Call, Event}
use Rattle.transport.specs.World.{begin, sender_tick, receiver_tick}
use Rattle.transport.specs.World.{hear_forward, repeat_forward, lose_forward, hear_back, repeat_back, lose_back}

-- The bodies, "events": ticks are 1 at the sender and 2 at the receiver; the next three act on forward and the last three on
-- back, in each case the first hears, the second loses and the third repeats. Every call is lent the pack's message and the
-- one buffer.
unfoldable pub call_for : World → List ℕ → ℕ → Call
call_for w message event =
    pick (eqb event 1) (sender_tick message)
    (pick (eqb event 2) receiver_tick
    (pick (eqb event 3) (hear_forward w.buffer)
    (pick (eqb event 4) lose_forward
    (pick (eqb event 5) (repeat_forward w.buffer)
    (pick (eqb event 6) hear_back
    (pick (eqb event 7) lose_back repeat_back))))))

-- one event
unfoldable pub turn_for : World → List ℕ → ℕ → Stepped
turn_for w message event = capped_step w (call_for w message event)

-- what is seen of a list of events, the first first
unfoldable pub events_from : World → List ℕ → List ℕ → List Event
events_from w message [] = []
events_from w message (event ∷ events) =
    (turn_for w message event).event ∷ events_from (turn_for w message event).world message events

-- the world after them
unfoldable pub world_after : World → List ℕ → List ℕ → World
world_after w message [] = w
world_after w message (event ∷ events) = world_after (turn_for w message event).world message events

-- a whole run: the begin, then the events
unfoldable pub run_from : World → List ℕ → List ℕ → List Event
run_from w message events =
    (capped_step w (begin message)).event ∷ events_from (capped_step w (begin message)).world message events

-- the calls that it makes
unfoldable pub calls_for : World → List ℕ → List ℕ → List Call
calls_for w message [] = []
calls_for w message (event ∷ events) =
    call_for w message event ∷ calls_for (turn_for w message event).world message events

unfoldable pub calls_from : World → List ℕ → List ℕ → List Call
calls_from w message events =
    begin message ∷ calls_for (capped_step w (begin message)).world message events
