-- Demand 1 of the sender. A call does one of two things: it is refused, which leaves the sender as it was and draws no frame,
-- or its answer is no refusal. What a hearing does is said by `Heard`.
-- Assumes nothing.
use Prim.Native.Nat.{ℕ}
use mathlib.Core.Path.{◌≡◌, refl, sym, ◌∙◌}
use mathlib.Core.List.{List}
use native.Mathlib.Omega.{arith}
use Rattle.frame.proofs.Choice.{pick_elim}
use Rattle.frame.specs.Result as result
use Rattle.sender.proofs.Heard.{hearing_does}
use Rattle.sender.proofs.View.{Ticks, rests, opening_on_lem, opening_again_lem, sending_on_lem, sending_next_lem, waiting_on_lem, waiting_again_lem, short_on_lem, short_again_lem, fails, fails_short, Calls, refuses, begins_long, begins_short, posts, ticks, hears, call_does}
use Rattle.sender.specs.Begin.{begin_long, begin_short}
use Rattle.sender.specs.Call.{Call}
use Rattle.sender.specs.Demand1.{Unchanged, Demand1}
use Rattle.sender.specs.Heard.{Report, of_sent, of_failed, Heard, ignored, taken, over}
use Rattle.sender.specs.Make.{settings_fit, make_of}
use Rattle.sender.specs.Told.{Outcome, quiet, refused, failed, Told}
use Rattle.sender.specs.declared.Phase.{Phase}
use Rattle.sender.specs.declared.Sender.{Sender}

-- what is to be shown of an answer
abbrev Leaves : Sender → Told → Type 0
Leaves s t = (number : ℕ) → t.outcome ≡ refused number → Unchanged s t

-- an outcome that is no refusal
quiet_is : {A : Type 0} (number : ℕ) → quiet ≡ refused number → A
quiet_is number e = let z : ◌≡◌ {A = ℕ} 0 1 = cc in absurd (omega arith)

failed_is : {A : Type 0} {cause ticks frames : ℕ} (number : ℕ) → failed cause ticks frames ≡ refused number → A
failed_is number e = let z : ◌≡◌ {A = ℕ} 0 1 = cc in absurd (omega arith)

report_is : {A : Type 0} {o : Outcome} → Report o → (number : ℕ) → o ≡ refused number → A
report_is (of_sent _ _) number e = let z : ◌≡◌ {A = ℕ} 0 1 = cc in absurd (omega arith)
report_is (of_failed _ _ _) number e = failed_is number e

module _ {s : Sender} where
  ticks_leave : {m : List ℕ} {p : Phase} {t : Told} → Ticks s m p t → Leaves s t
  ticks_leave rests = quiet_is
  ticks_leave (opening_on_lem _ _) = quiet_is
  ticks_leave (opening_again_lem _ _) = quiet_is
  ticks_leave (sending_on_lem _ _) = quiet_is
  ticks_leave (sending_next_lem _) = quiet_is
  ticks_leave (waiting_on_lem _ _) = quiet_is
  ticks_leave (waiting_again_lem _ _) = quiet_is
  ticks_leave (short_on_lem _ _) = quiet_is
  ticks_leave (short_again_lem _) = quiet_is
  ticks_leave (fails _ _) = failed_is
  ticks_leave fails_short = failed_is

  heard_leaves : {t : Told} → Heard s t → Leaves s t
  heard_leaves (ignored same still blank) number e = record { next = same; emits = still; frame = blank }
  heard_leaves (taken x next still q) number e = quiet_is number (sym q ∙ e)
  heard_leaves (over next report) number e = report_is report number e

  calls_leave : {c : Call} {t : Told} → Calls s c t → Leaves s t
  unfolding begin_long begin_short
  calls_leave (refuses _) = λ number e. record { next = refl; emits = refl; frame = refl }
  calls_leave (begins_long _ _ _) = quiet_is
  calls_leave (begins_short _ _ _) = quiet_is
  calls_leave (posts _ _) = quiet_is
  calls_leave (ticks _ does) = ticks_leave does
  calls_leave (hears does) = heard_leaves (hearing_does does)

makes : (gap timeout limit number : ℕ) → make_of gap timeout limit ≡ result.refused number → number ≡ 1
unfolding make_of
makes gap timeout limit number =
    pick_elim (λ m. m ≡ result.refused number → number ≡ 1) (settings_fit gap timeout limit)
    (λ fit e. let z : ◌≡◌ {A = ℕ} 0 1 = cc in absurd (omega arith))
    (λ unfit e. cc)

pub demand_1 : Demand1
demand_1 = record { called = λ s call. calls_leave (call_does s call); made = makes }
