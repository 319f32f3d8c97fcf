-- What the events of a run show: what an end has reported, and what document 02, E5, excepts, the 15 s limit, a stop, and the
-- greeting of the old protocol. Nothing here looks at an end's state. Each of the three is read as narrowly as it can be, so
-- that least is excused.
use Rattle.std.specs.Prelude.{ℕ, ◌+◌, List, [], ◌∷◌, ◌≡◌}
use Rattle.version.specs.Told.{Outcome, quiet, refused, agreed, failed, left}
use Rattle.version.specs.declared.Side.{Side}
use Rattle.version.specs.declared.Side.TheVariants.{Charger, Vehicle}
use Rattle.agreement.specs.World.{Action, connect, tick, hear, repeat, lose, stop, greet, functions_heard, Event}

-- some event, with the events before it, is of this sort
pub data Seen (P : Event → List Event → Type 0) : List Event → Type 0 where
  now : {e : Event} {past : List Event} → P e past → Seen P (e ∷ past)
  before : {e : Event} {past : List Event} → Seen P past → Seen P (e ∷ past)

abbrev pub Never : (Event → List Event → Type 0) → List Event → Type 0
Never P events = Seen P events → ⊥

-- an end has reported this
abbrev pub Reported : Side → Outcome → List Event → Type 0
Reported side o events = Seen (λ e past. (e.side ≡ side) × (e.outcome ≡ o)) events

-- ---- the 15 s limit

-- How far an end's talk has come: it is not connected; or so many ticks of its own have passed since its connect, which sends
-- its first message and starts Tout0 (001, tables 8 and 9, S0); or it is over, since the end has reported.
pub data Talk : Type 0 where
  unconnected : Talk
  since : (ticks : ℕ) → Talk
  over : Talk

-- the first connect opens it
abbrev pub opened : Talk → Talk
opened unconnected = since 0
opened (since ticks) = since ticks
opened over = over

-- a tick is 1 ms (document 01, Around the transport, version talk)
abbrev pub ticked : Talk → Talk
ticked unconnected = unconnected
ticked (since ticks) = since (ticks + 1)
ticked over = over

abbrev pub talk_after : Action → Talk → Talk
talk_after connect talk = opened talk
talk_after tick talk = ticked talk
talk_after hear talk = talk
talk_after repeat talk = talk
talk_after lose talk = talk
talk_after stop talk = talk
talk_after greet talk = talk
talk_after functions_heard talk = talk

-- a report ends it: success, failure, or that the end has left
abbrev pub unless_reported : Outcome → Talk → Talk
unless_reported quiet talk = talk
unless_reported (refused number) talk = talk
unless_reported (agreed version) talk = over
unless_reported failed talk = over
unless_reported left talk = over

-- by the end asked for and the end that was called
abbrev pub talk_at : Side → Side → Action → Outcome → Talk → Talk
talk_at Charger Charger action o talk = unless_reported o (talk_after action talk)
talk_at Charger Vehicle action o talk = talk
talk_at Vehicle Charger action o talk = talk
talk_at Vehicle Vehicle action o talk = unless_reported o (talk_after action talk)

unfoldable pub talk_in : Side → List Event → Talk
talk_in side [] = unconnected
talk_in side (e ∷ past) = talk_at side e.side e.action e.outcome (talk_in side past)

-- 14999 ticks have passed: the next, tick 15000, is at 15 s
abbrev pub before_limit : Talk
before_limit = since 14999

-- an end meets the limit: this is its tick 15000 since its connect, and it has not reported before
abbrev pub MeetsLimit : Event → List Event → Type 0
MeetsLimit e past = (e.action ≡ tick) × (talk_in e.side past ≡ before_limit)

-- ---- a stop, a greeting

-- A stop (001, tables 8 and 9, the fault's column) ends an end's talk. One that finds it not begun, or over, changes nothing
-- and is not met.
abbrev pub MeetsStop : Event → List Event → Type 0
MeetsStop e past = (e.action ≡ stop) × (e.outcome ≡ left)

-- The old protocol's greeting (001, table 9, the CHM's column) ends the vehicle's talk, begun or not. At the charger, and once
-- the talk is over, it changes nothing and is not met.
abbrev pub MeetsGreeting : Event → List Event → Type 0
MeetsGreeting e past = (e.action ≡ greet) × (e.outcome ≡ failed)
