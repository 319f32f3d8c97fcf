-- Document 02, E5, "from fresh ends": a whole list of calls that starts from two talkers just made and an empty line.
use Rattle.std.specs.Prelude.{ℕ, List, [], ◌∷◌, ◌≡◌, length}
use Rattle.frame.specs.Result.{accepted}
use Rattle.version.specs.List.{versions_in, list_of, standing}
use Rattle.version.specs.Talk.{make_of}
use Rattle.version.specs.declared.Side.TheVariants.{Charger, Vehicle}
use Rattle.version.specs.declared.Talker.{Talker}
use Rattle.version.specs.declared.Versions.{Versions}
use Rattle.agreement.specs.Step.{step_of}
use Rattle.agreement.specs.World.{World, Call, Event, start_of}

-- a world, and the events that led to it, the newest first
pub record Past : Type 0 where
  pub world : World
  pub events : List Event

-- ends just made, and no event yet
abbrev pub fresh : Talker → Talker → Past
fresh charger vehicle = record { world = start_of charger vehicle; events = [] }

abbrev pub next : Past → Call → Past
next p c = record { world = (step_of p.world c).world; events = (step_of p.world c).event ∷ p.events }

-- each call starts from what the one before it left; the calls stand in the list in their order
unfoldable pub run_of : Past → List Call → Past
run_of p [] = p
run_of p (c ∷ calls) = run_of (next p c) calls

-- What is said of any two lists of versions that making takes (document 01, Refusals, by place, version list), the charger's
-- first, each in its array of eight places, and of any control-pilot bytes and every list of calls.
abbrev pub FromFresh : (List ℕ → List ℕ → Past → List Call → Type 0) → Type 0
FromFresh Says =
    (versions versions' : Versions)
    → length versions.numbers ≡ 8
    → length versions'.numbers ≡ 8
    → (control control' : ℕ) (charger vehicle : Talker)
    → make_of Charger versions control ≡ accepted charger
    → make_of Vehicle versions' control' ≡ accepted vehicle
    → (calls : List Call)
    → Says (standing versions) (standing versions') (fresh charger vehicle) calls

-- the same of lists lent as bytes, three for each version, that listing takes: they are spoken of as they were lent
abbrev pub FromLent : (List ℕ → List ℕ → Past → List Call → Type 0) → Type 0
FromLent Says =
    (lent lent' : List ℕ) (versions versions' : Versions)
    → list_of lent ≡ accepted versions
    → list_of lent' ≡ accepted versions'
    → (control control' : ℕ) (charger vehicle : Talker)
    → make_of Charger versions control ≡ accepted charger
    → make_of Vehicle versions' control' ≡ accepted vehicle
    → (calls : List Call)
    → Says (versions_in lent) (versions_in lent') (fresh charger vehicle) calls
