-- Demand 3 at a line of 64. A run there is a run of demand 3's calls in which each frame that the line dropped is lost, so
-- the claim holds at that line too, word for word.
use Rattle.std.specs.Prelude.{List, [], ◌∷◌, ℕ}
use Rattle.delivery.specs.Demand3.{Conditions, Demand3On}
use Rattle.delivery.specs.Run.{fresh, run_of}
use Rattle.receiver.specs.declared.Receiver.{Receiver}
use Rattle.sender.specs.declared.Sender.{Sender}
use Rattle.transport.specs.Capped.{capped_step}
use Rattle.transport.specs.Step.{uncalled, step_of}
use Rattle.transport.specs.World.{Call, lose_forward, lose_back, Event}

-- a list of events, and the same with losses after it
pub data Losses (events : List Event) : List Event → Type 0 where
  none : Losses events events
  lost_forward : {later : List Event} → Losses events later → Losses events (uncalled lose_forward ∷ later)
  lost_back : {later : List Event} → Losses events later → Losses events (uncalled lose_back ∷ later)

-- the events that are seen, and the same with losses before some of them
pub data Among : List Event → List Event → Type 0 where
  start : Among [] []
  follows :
      (e : Event) {seen all later : List Event} → Among seen all → Losses all later
      → Among (e ∷ seen) (e ∷ later)

-- calls that meet the conditions of demand 3, and of whose events those that are seen are all but losses
pub record Run (s : Sender) (r : Receiver) (buffer : List ℕ) (seen : List Event) : Type 0 where
  pub calls : List Call
  pub meets : Conditions step_of (fresh s r buffer) calls
  pub among : Among seen (run_of step_of (fresh s r buffer) calls).events

-- every run at a line of 64 that meets the conditions is such a run
abbrev pub CappedRuns : Type 0
CappedRuns =
    (s : Sender) (r : Receiver) (buffer : List ℕ) (calls : List Call)
    → Conditions capped_step (fresh s r buffer) calls
    → Run s r buffer (run_of capped_step (fresh s r buffer) calls).events

-- so the promise holds of its own events
abbrev pub CappedDemand3 : Type 0
CappedDemand3 = Demand3On capped_step
