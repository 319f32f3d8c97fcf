-- A refusal changes nothing. No entry of the tables is a refusal, so of the calls only hearing
-- refuses, where the message is not read, and it answers the talker as it is.
-- Assumes nothing.
use Prim.Native.Nat.{ℕ}
use mathlib.Core.Path.{◌≡◌, refl, ap, ◌∙◌}
use mathlib.Core.List.{[], ◌∷◌}
use native.Mathlib.Omega.{arith}
use Rattle.frame.proofs.Choice.{pick_elim}
use Rattle.frame.specs.Choice.{pick}
use Rattle.frame.specs.Result as results
use Rattle.frame.specs.Result.{Result, accepted, number_of, refusal_of, told_result}
use Rattle.std.specs.Prelude.{Ok, Err}
use Rattle.version.specs.Calls.{Call, connect, tick, hear, stop, greet, functions_heard, answer_of}
use Rattle.version.specs.List.{versions_in, placed, is_list, list_of, Accepted, Refused, listed_of}
use Rattle.version.specs.Message.{read_of}
use Rattle.version.specs.Refusals.{Unchanged, Alone, RefusalsChangeNothing}
use Rattle.version.specs.Table.{Trigger, Entry, nothing, opens, repeats, resumes, settles_below2, settles, fails, accepts, stays, lowers, leaves, cell_of}
use Rattle.version.specs.Talk.{fresh, make_of, made_of, doing, triggered, connect_of, stop_of, greet_of, functions_state, functions_heard_of, hear_judged, hear_of, limit_is_due, period_is_due, tick_talking, tick_settled, tick_state, tick_of}
use Rattle.version.specs.Told.{Told, quiet, refusing, refused, agreed, failed, left}
use Rattle.version.specs.declared.Message.{Message}
use Rattle.version.specs.declared.Side.TheVariants.{Charger}
use Rattle.version.specs.declared.State.{State}
use Rattle.version.specs.declared.State.TheVariants.{S0, S1, S2, S3, S4, S5}
use Rattle.version.specs.declared.Talker.{Talker}
use Rattle.version.specs.declared.Versions.{Versions}

-- an answer that is no refusal
abbrev Taken : Told → Type 0
Taken a = (number : ℕ) → a.outcome ≡ refused number → ⊥

taken_quiet : (number : ℕ) → quiet ≡ refused number → ⊥
taken_quiet number e = let z : ◌≡◌ {A = ℕ} 0 1 = cc in omega arith

taken_agreed : (version number : ℕ) → agreed version ≡ refused number → ⊥
taken_agreed version number e = let z : ◌≡◌ {A = ℕ} 0 1 = cc in omega arith

taken_failed : (number : ℕ) → failed ≡ refused number → ⊥
taken_failed number e = let z : ◌≡◌ {A = ℕ} 0 1 = cc in omega arith

taken_left : (number : ℕ) → left ≡ refused number → ⊥
taken_left number e = let z : ◌≡◌ {A = ℕ} 0 1 = cc in omega arith

-- what an entry does is no refusal
entry_taken : (t : Talker) (version : ℕ) (e : Entry) → Taken (doing t version e)
unfolding doing
entry_taken t version nothing = taken_quiet
entry_taken t version opens = taken_quiet
entry_taken t version repeats = taken_quiet
entry_taken t version resumes = taken_quiet
entry_taken t version settles_below2 = taken_agreed _
entry_taken t version settles = taken_agreed _
entry_taken t version fails = taken_failed
entry_taken t version accepts = taken_quiet
entry_taken t version stays = taken_quiet
entry_taken t version lowers = taken_quiet
entry_taken t version leaves = taken_left

turn_taken : (t : Talker) (version : ℕ) (k : Trigger) → Taken (triggered t version k)
turn_taken t version k = entry_taken t version (cell_of t.side t.state k)

module _ (t : Talker) where
  tick_taken : (s : State) → Taken (tick_state t s)
  unfolding tick_state tick_talking tick_settled
  tick_taken S0 = taken_quiet
  tick_taken S1 =
      pick_elim Taken (limit_is_due t) (λ late. turn_taken _ 0 _)
      (λ early. pick_elim Taken (period_is_due t) (λ due. turn_taken _ 0 _) (λ soon. taken_quiet))
  tick_taken S2 = taken_quiet
  tick_taken S3 =
      pick_elim Taken t.timing
      (λ on. pick_elim Taken (period_is_due t) (λ due. turn_taken _ 0 _) (λ soon. taken_quiet))
      (λ off. taken_quiet)
  tick_taken S4 = taken_quiet
  tick_taken S5 = taken_quiet

  functions_taken : (s : State) → Taken (functions_state t s)
  unfolding functions_state
  functions_taken S0 = taken_quiet
  functions_taken S1 = taken_quiet
  functions_taken S2 = taken_quiet
  functions_taken S3 = taken_quiet
  functions_taken S4 = taken_quiet
  functions_taken S5 = taken_quiet

  -- a message that is not read
  heard : (r : Result Message) (number : ℕ) → (hear_judged t r).outcome ≡ refused number
      → Unchanged t (hear_judged t r)
  unfolding hear_judged
  heard (accepted m) number e = absurd (turn_taken t m.version _ number e)
  heard (results.refused n) number e = record { next = refl; emits = refl; bytes = refl }

  calls : (c : Call) (number : ℕ) → (answer_of t c).outcome ≡ refused number → Unchanged t (answer_of t c)
  unfolding connect_of tick_of hear_of stop_of greet_of functions_heard_of
  calls connect number e = absurd (turn_taken t 0 _ number e)
  calls tick number e = absurd (tick_taken t.state number e)
  calls (hear bytes) number e = heard (read_of bytes) number e
  calls stop number e = absurd (turn_taken t 0 _ number e)
  calls greet number e = absurd (turn_taken t 0 _ number e)
  calls functions_heard number e = absurd (functions_taken t.state number e)

-- making, listing and reading, by what they judged
none_taken : {A : Type 0} (a : A) (number : ℕ) → accepted a ≡ results.refused number → ⊥
none_taken a number e = let z : ◌≡◌ {A = ℕ} 0 1 = cc in omega arith

alone : {A : Type 0} (judged : Result A) → Alone judged
alone judged number (Ok a) r e = absurd (none_taken a number (e ∙ r))
alone judged number (Err refusal) r e = (refusal, refl, ap refusal_of (e ∙ r))

no_number : (number : ℕ) → Accepted ≡ Refused number → ⊥
no_number number e = let z : ◌≡◌ {A = ℕ} 0 1 = cc in omega arith

made : (r : Result Talker) (number : ℕ) → (made_of r).outcome ≡ Refused number
    → (made_of r).talker ≡ fresh Charger (placed []) 0
made (accepted t) number e = absurd (no_number number e)
made (results.refused n) number e = refl

listed : (r : Result Versions) (number : ℕ) → (listed_of r).outcome ≡ Refused number
    → (listed_of r).versions ≡ placed []
listed (accepted v) number e = absurd (no_number number e)
listed (results.refused n) number e = refl

pub refusals_change_nothing : RefusalsChangeNothing
refusals_change_nothing =
    record {
      call = calls;
      make = λ side v control. made (make_of side v control);
      list = λ bytes. listed (list_of bytes);
      make_alone = λ side v control. alone (make_of side v control);
      list_alone = λ bytes. alone (list_of bytes);
      read_alone = λ bytes. alone (read_of bytes);
    }

-- Each of them is refused somewhere: a message of CAN type 1, and no versions.
pub hearing_refused : (t : Talker) → hear_of t (1 ∷ 0 ∷ 2 ∷ 0 ∷ 0 ∷ 0 ∷ 1 ∷ 255 ∷ []) ≡ refusing t 10
unfolding hear_of hear_judged read_of pick
hearing_refused t = refl

pub making_refused : make_of Charger (placed []) 0 ≡ results.refused 11
unfolding make_of is_list pick
making_refused = refl

pub listing_refused : list_of [] ≡ results.refused 11
unfolding list_of is_list versions_in pick
listing_refused = refl
