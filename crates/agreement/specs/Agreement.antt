-- Document 02, E5, as one claim about every list of calls from fresh ends; calls that find nothing to do are among them:
--   settled    where both ends have reported success, each names a version with it (001, tables 8 and 9: S2 or S3). It is one
--              and the same, both lists have it, and whatever else both lists have is lower
--   unshared   where an end has reported failure, and no limit, stop or greeting was met at either, there is no version that
--              both lists have
--   Agreement  this of the events after any calls whatever, so at every moment of every run; what is met later takes nothing
--              back, since the lists stay
--   step_of    (Step.antt) the line gives messages in the order and shape in which they were emitted, and no others; it may
--              lose any and repeat any
use Rattle.std.specs.Prelude.{ℕ, ◌<◌, List, ◌≡◌, length, get_or}
use Rattle.version.specs.Told.{agreed, failed}
use Rattle.version.specs.declared.Side.{Side}
use Rattle.version.specs.declared.Side.TheVariants.{Charger, Vehicle}
use Rattle.agreement.specs.Run.{Past, run_of, FromFresh, FromLent}
use Rattle.agreement.specs.Seen.{Never, Reported, MeetsLimit, MeetsStop, MeetsGreeting}
use Rattle.agreement.specs.World.{Call, Event}

-- E5, "in both lists": a version stands in a list
pub record Holds (versions : List ℕ) (version : ℕ) : Type 0 where
  pub place : ℕ
  pub inside : place < length versions
  pub is : get_or versions place 0 ≡ version

-- no version stands in both lists
abbrev pub NoneShared : List ℕ → List ℕ → Type 0
NoneShared charger vehicle = (version : ℕ) → Holds charger version → Holds vehicle version → ⊥

-- the version stands in both lists, and every other that does is lower
pub record HighestShared (charger vehicle : List ℕ) (version : ℕ) : Type 0 where
  pub of_charger : Holds charger version
  pub of_vehicle : Holds vehicle version
  pub highest : (other : ℕ) → Holds charger other → Holds vehicle other → (other ≡ version → ⊥) → other < version

-- what holds of the events of every list of calls, by the two lists of versions
pub record Promise (charger vehicle : List ℕ) (events : List Event) : Type 0 where
  pub settled : (v w : ℕ) → Reported Charger (agreed v) events → Reported Vehicle (agreed w) events
      → (v ≡ w) × HighestShared charger vehicle v
  pub unshared : (side : Side) → Reported side failed events
      → Never MeetsLimit events
      → Never MeetsStop events
      → Never MeetsGreeting events
      → NoneShared charger vehicle

-- of a run
abbrev pub Promised : List ℕ → List ℕ → Past → List Call → Type 0
Promised charger vehicle p calls = Promise charger vehicle (run_of p calls).events

-- the claim
abbrev pub Agreement : Type 0
Agreement = FromFresh Promised

-- and of lists as they are lent
abbrev pub AgreementOfLent : Type 0
AgreementOfLent = FromLent Promised

-- ---- more than E5 asks

-- a success of one end alone already names the highest shared version
abbrev pub EachNames : List ℕ → List ℕ → List Event → Type 0
EachNames charger vehicle events =
    (side : Side) (version : ℕ) → Reported side (agreed version) events → HighestShared charger vehicle version

abbrev pub EachSettled : Type 0
EachSettled = FromFresh (λ charger vehicle p calls. EachNames charger vehicle (run_of p calls).events)

-- A stop need not be excepted: a stopped end reports no failure and says nothing more. Where a version is shared, the other
-- can then fail by the limit or a greeting alone.
abbrev pub UnsharedThoughStopped : List ℕ → List ℕ → List Event → Type 0
UnsharedThoughStopped charger vehicle events =
    (side : Side) → Reported side failed events → Never MeetsLimit events → Never MeetsGreeting events
    → NoneShared charger vehicle

abbrev pub StopsAside : Type 0
StopsAside = FromFresh (λ charger vehicle p calls. UnsharedThoughStopped charger vehicle (run_of p calls).events)
