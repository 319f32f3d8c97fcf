-- Document 02, E5, "met the 15 s limit", as Seen counts it: an end's tick reports failure where it is the end's tick 15000
-- since its connect and no report came before, and only there. So the count and the report say the same.
use Rattle.std.specs.Prelude.{List, [], ◌∷◌, ◌≡◌}
use Rattle.version.specs.Told.{failed}
use Rattle.agreement.specs.Run.{run_of, FromFresh}
use Rattle.agreement.specs.Seen.{MeetsLimit}
use Rattle.agreement.specs.World.{tick, Event}

-- of one event, with the events before it
pub record LimitAt (e : Event) (past : List Event) : Type 0 where
  pub fails : MeetsLimit e past → e.outcome ≡ failed
  pub only : e.action ≡ tick → e.outcome ≡ failed → MeetsLimit e past

-- of every event
abbrev pub LimitKept : List Event → Type 0
LimitKept [] = Unit
LimitKept (e ∷ past) = LimitAt e past × LimitKept past

-- the claim
abbrev pub Limit : Type 0
Limit = FromFresh (λ charger vehicle p calls. LimitKept (run_of p calls).events)
