-- What follows for both ends at every moment of a run from fresh ends. E5 does not ask it; it says which cells of 001, tables 8
-- and 9, two such ends never come to.
--   stands      an end whose result is success hears no continue that is lower or higher, and no other success: so what the
--               result becomes in the cells of lower and higher, which document 01 leaves open, makes no difference here
--   again       it hears the version at Ns again, or a failure
--   consistent  a success that is heard names the version at Ns
--   understood  no message is refused
--   falls       Ns never rises, whatever is called
use Rattle.std.specs.Prelude.{ℕ, ◌≤◌, Bool, true, false, List, ◌∷◌, ◌≡◌}
use Rattle.frame.specs.Result.{accepted}
use Rattle.version.specs.Message.{read_of}
use Rattle.version.specs.Table.{Trigger, connected, period_due, success_other, success_below2, success2, failure_heard, continue_same, continue_lower, continue_higher, continue_none, greeted, stopped, limit_due}
use Rattle.version.specs.Talk.{heard_trigger}
use Rattle.version.specs.Told.{own_version}
use Rattle.version.specs.declared.Message.{Message}
use Rattle.version.specs.declared.Side.{Side}
use Rattle.version.specs.declared.Side.TheVariants.{Charger, Vehicle}
use Rattle.version.specs.declared.Talker.{Talker}
use Rattle.version.specs.declared.Verdict.TheVariants.{Success, Failure}
use Rattle.agreement.specs.Run.{run_of, FromFresh}
use Rattle.agreement.specs.Step.{step_of}
use Rattle.agreement.specs.World.{World, Call}

abbrev pub end_of : World → Side → Talker
end_of w Charger = w.charger
end_of w Vehicle = w.vehicle

-- the messages on their way to it
abbrev pub line_to : World → Side → List (List ℕ)
line_to w Charger = w.to_charger
line_to w Vehicle = w.to_vehicle

-- the columns of a hearing in which the result stays success, or the talk ends
abbrev pub unquestioned : Trigger → Bool
unquestioned connected = false
unquestioned period_due = false
unquestioned success_other = false
unquestioned success_below2 = true
unquestioned success2 = true
unquestioned failure_heard = true
unquestioned continue_same = true
unquestioned continue_lower = false
unquestioned continue_higher = false
unquestioned continue_none = false
unquestioned greeted = false
unquestioned stopped = false
unquestioned limit_due = false

-- the message that an end would hear now
pub record First (w : World) (side : Side) (bytes : List ℕ) : Type 0 where
  pub rest : List (List ℕ)
  pub is : line_to w side ≡ bytes ∷ rest

-- it is read, as this message
pub record Understood (bytes : List ℕ) : Type 0 where
  pub message : Message
  pub is : read_of bytes ≡ accepted message

pub record Steady (w : World) : Type 0 where
  pub stands : (side : Side) → (end_of w side).verdict ≡ Success
      → (bytes : List ℕ) → First w side bytes → (m : Message) → read_of bytes ≡ accepted m
      → unquestioned (heard_trigger (end_of w side) m.version m.verdict) ≡ true
  pub again : (side : Side) → (end_of w side).verdict ≡ Success
      → (bytes : List ℕ) → First w side bytes → (m : Message) → read_of bytes ≡ accepted m
      → (m.verdict ≡ Failure → ⊥)
      → m.version ≡ own_version (end_of w side)
  pub consistent : (side : Side) (bytes : List ℕ) → First w side bytes → (m : Message) → read_of bytes ≡ accepted m
      → m.verdict ≡ Success
      → m.version ≡ own_version (end_of w side)
  pub understood : (side : Side) (bytes : List ℕ) → First w side bytes → Understood bytes
  pub falls : (side : Side) (call : Call) → (end_of (step_of w call).world side).place ≤ (end_of w side).place

abbrev pub Steadiness : Type 0
Steadiness = FromFresh (λ charger vehicle p calls. Steady (run_of p calls).world)
