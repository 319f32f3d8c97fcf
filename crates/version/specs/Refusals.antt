-- Demand 1 as a claim of its own. Document 01, Refusals, by place, its last line: a refusal has a
-- number, no frame and no report. So it changes nothing, whatever call answers it.
-- `proofs/Refusals.antt` proves it.
use Rattle.std.specs.Prelude.{ℕ, ◌≡◌, false, List, [], Err}
use Rattle.std.specs.declared.result.Result as answers
use Rattle.frame.specs.Result.{Result, number_of, told_result}
use Rattle.frame.specs.Result as results
use Rattle.frame.specs.declared.refusal.Refusal.{Refusal}
use Rattle.version.specs.Calls.{Call, answer_of}
use Rattle.version.specs.List.{placed, list_of, Refused, listed_of}
use Rattle.version.specs.Message.{read_of}
use Rattle.version.specs.Talk.{fresh, make_of, made_of}
use Rattle.version.specs.Told.{Told, refused, no_bytes}
use Rattle.version.specs.declared.Side.{Side}
use Rattle.version.specs.declared.Side.TheVariants.{Charger}
use Rattle.version.specs.declared.Talker.{Talker}
use Rattle.version.specs.declared.Versions.{Versions}

-- the talker is as it was, and no message goes out: its bytes are the eight zeros
pub record Unchanged (t : Talker) (a : Told) : Type 0 where
  pub next : a.next ≡ t
  pub emits : a.emits ≡ false
  pub bytes : a.bytes ≡ no_bytes

-- an answer that is told as a refusal is the refusal of that number and nothing beside it
abbrev pub Alone : {A : Type 0} → Result A → Type 0
Alone {A} judged =
    (number : ℕ) (answer : answers.Result A Refusal) → judged ≡ results.refused number
    → told_result answer ≡ judged
    → (refusal : Refusal) × (answer ≡ Err refusal) × (number_of refusal ≡ number)

-- Every call of every talker. Making, listing and reading have nothing that could change. Where they refuse they answer the
-- refusal alone, no talker, list or message; where something stands beside it all the same, as in C, it is the talker and the
-- list of no versions. Writing a message refuses nothing.
pub record RefusalsChangeNothing : Type 0 where
  pub call : (t : Talker) (c : Call) (number : ℕ) → (answer_of t c).outcome ≡ refused number
      → Unchanged t (answer_of t c)
  pub make : (side : Side) (v : Versions) (control number : ℕ)
      → (made_of (make_of side v control)).outcome ≡ Refused number
      → (made_of (make_of side v control)).talker ≡ fresh Charger (placed []) 0
  pub list : (bytes : List ℕ) (number : ℕ) → (listed_of (list_of bytes)).outcome ≡ Refused number
      → (listed_of (list_of bytes)).versions ≡ placed []
  pub make_alone : (side : Side) (v : Versions) (control : ℕ) → Alone (make_of side v control)
  pub list_alone : (bytes : List ℕ) → Alone (list_of bytes)
  pub read_alone : (bytes : List ℕ) → Alone (read_of bytes)
