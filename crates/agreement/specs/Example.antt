-- Runs that show what the claim speaks of: both ends settle in S2, and in S3; they settle although messages are lost and
-- repeated; both fail, since their lists share no version; and one fails by the limit although the lists share one. Each was
-- worked out by hand from tables 8 and 9 of 001. `proofs/Example.antt` computes them.
use Rattle.std.specs.Prelude.{ℕ, List, [], ◌∷◌, ◌++◌, ◌≡◌, replicate}
use Rattle.frame.specs.Result.{accepted}
use Rattle.version.specs.List.{placed}
use Rattle.version.specs.Talk as talking
use Rattle.version.specs.Talk.{make_of}
use Rattle.version.specs.Told.{Outcome, quiet, refused, agreed, failed, left}
use Rattle.version.specs.declared.Side.{Side}
use Rattle.version.specs.declared.Side.TheVariants.{Charger, Vehicle}
use Rattle.version.specs.declared.State.{State}
use Rattle.version.specs.declared.State.TheVariants.{S0, S2, S3, S4}
use Rattle.agreement.specs.Run.{Past, fresh, run_of}
use Rattle.agreement.specs.Seen.{Never, MeetsLimit, MeetsStop, MeetsGreeting}
use Rattle.agreement.specs.World.{Action, connect, tick, hear, repeat, lose, Call, Event}

-- what an end reported
pub record Report : Type 0 where
  pub side : Side
  pub outcome : Outcome

abbrev pub reports : Side → Outcome → Report
reports side outcome = record { side = side; outcome = outcome }

-- what a call reports, before what comes after; a refusal would be seen here, too
abbrev pub reported_before : Side → Outcome → List Report → List Report
reported_before side quiet after = after
reported_before side (refused number) after = reports side (refused number) ∷ after
reported_before side (agreed version) after = reports side (agreed version) ∷ after
reported_before side failed after = reports side failed ∷ after
reported_before side left after = reports side left ∷ after

-- all reports of a run in their order, before those that come after
unfoldable pub reports_before : List Event → List Report → List Report
reports_before [] after = after
reports_before (e ∷ past) after = reports_before past (reported_before e.side e.outcome after)

-- how a run ends: its reports, and the states of both ends
pub record Ending : Type 0 where
  pub reported : List Report
  pub charger : State
  pub vehicle : State

abbrev pub ending : List Report → State → State → Ending
ending reported charger vehicle = record { reported = reported; charger = charger; vehicle = vehicle }

abbrev pub ending_of : Past → Ending
ending_of p = ending (reports_before p.events []) p.world.charger.state p.world.vehicle.state

-- ends with these versions, the charger's first
abbrev pub versus : List ℕ → List ℕ → Past
versus versions versions' = fresh (talking.fresh Charger (placed versions) 0) (talking.fresh Vehicle (placed versions') 0)

-- making takes both lists, and these calls end so
pub record Witness (versions versions' : List ℕ) (calls : List Call) (ends : Ending) : Type 0 where
  pub made : make_of Charger (placed versions) 0 ≡ accepted (talking.fresh Charger (placed versions) 0)
  pub made' : make_of Vehicle (placed versions') 0 ≡ accepted (talking.fresh Vehicle (placed versions') 0)
  pub is : ending_of (run_of (versus versions versions') calls) ≡ ends

-- no limit, stop or greeting is met
pub record Uncut (events : List Event) : Type 0 where
  pub limit : Never MeetsLimit events
  pub stop : Never MeetsStop events
  pub greeting : Never MeetsGreeting events

-- ---- the calls

abbrev pub charger : Action → Call
charger action = record { side = Charger; action = action }

abbrev pub vehicle : Action → Call
vehicle action = record { side = Vehicle; action = action }

-- Each says its highest. The vehicle's is the lower one, so it stays; the charger lowers Ns below what it heard, and says so
-- when its T1 is due. The vehicle has that version, too, and its next message is a success; the charger settles and says so,
-- and then the vehicle settles.
abbrev pub talk_calls : List Call
talk_calls =
    charger connect
    ∷ vehicle connect
    ∷ vehicle hear
    ∷ charger hear
    ∷ replicate 50 (charger tick)
    ++ vehicle hear
    ∷ replicate 50 (vehicle tick)
    ++ charger hear
    ∷ vehicle hear
    ∷ []

-- The vehicle's first message is heard twice, the first time before the charger has connected; then the charger finds nothing
-- to hear. The charger's first message is lost, its second is heard twice. The vehicle's first success is lost; its second is
-- heard twice, the second time after the charger has settled.
abbrev pub lossy_calls : List Call
lossy_calls =
    vehicle connect
    ∷ charger repeat
    ∷ charger connect
    ∷ charger hear
    ∷ charger hear
    ∷ vehicle lose
    ∷ replicate 50 (charger tick)
    ++ vehicle repeat
    ∷ vehicle hear
    ∷ replicate 50 (vehicle tick)
    ++ charger lose
    ∷ replicate 50 (vehicle tick)
    ++ charger repeat
    ∷ charger hear
    ∷ vehicle hear
    ∷ []

-- the charger hears a version below all of its own; the vehicle hears the charger's version, which is above its own, and then
-- the charger's failure
abbrev pub apart_calls : List Call
apart_calls = charger connect ∷ vehicle connect ∷ charger hear ∷ vehicle hear ∷ vehicle hear ∷ []

-- the charger hears nothing for 15 s
abbrev pub silent_calls : List Call
silent_calls = charger connect ∷ replicate 15000 (charger tick)

-- ---- the claim

-- versions as numbers, by their three bytes: 1.1.0 is 0x010100
pub record Examples : Type 0 where
  -- both have 1.1.0, which is the highest of neither
  pub below2 : Witness (0x010100 ∷ 0x020000 ∷ []) (0x010100 ∷ 0x010200 ∷ []) talk_calls
      (ending (reports Charger (agreed 0x010100) ∷ reports Vehicle (agreed 0x010100) ∷ []) S2 S2)
  -- both have 1.1.0, 2.0.0 and 2.1.0
  pub from2 : Witness (0x010100 ∷ 0x020000 ∷ 0x020100 ∷ 0x030000 ∷ []) (0x010100 ∷ 0x020000 ∷ 0x020100 ∷ 0x020200 ∷ [])
      talk_calls
      (ending (reports Charger (agreed 0x020100) ∷ reports Vehicle (agreed 0x020100) ∷ []) S3 S3)
  -- the same two, with losses and repeats
  pub lossy : Witness (0x010100 ∷ 0x020000 ∷ 0x020100 ∷ 0x030000 ∷ []) (0x010100 ∷ 0x020000 ∷ 0x020100 ∷ 0x020200 ∷ [])
      lossy_calls
      (ending (reports Charger (agreed 0x020100) ∷ reports Vehicle (agreed 0x020100) ∷ []) S3 S3)
  -- no version is in both lists
  pub apart : Witness (0x020000 ∷ []) (0x010100 ∷ []) apart_calls
      (ending (reports Charger failed ∷ reports Vehicle failed ∷ []) S4 S4)
  -- and there no limit, stop or greeting is met
  pub uncut : Uncut (run_of (versus (0x020000 ∷ []) (0x010100 ∷ [])) apart_calls).events
  -- both have the same list, and the charger meets the limit
  pub silent : Witness (0x020000 ∷ []) (0x020000 ∷ []) silent_calls (ending (reports Charger failed ∷ []) S4 S0)
