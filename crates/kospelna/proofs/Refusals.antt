-- A value or a refusal in C's layout: reading undoes writing, and the other way round, since no refusal is numbered 0.
-- Assumes nothing.
use Prim.Native.Nat.{ℕ, zero, suc}
use mathlib.Core.Logic.{inl, inr}
use mathlib.Core.Path.{◌≡◌, refl, sym, ap}
use native.Mathlib.Omega.{arith}
use Rattle.frame.specs.Result.{Result, accepted, refused, refusal_of}
use Rattle.kospelna.specs.Refusals.{value_of, result_from, Numbered, Made}

-- a caller reads off what was written
pub result_back : {A B : Type 0} (flat : A → B) (back : B → A) (none : B) → ((a : A) → back (flat a) ≡ a)
    → (r : Result A) → Numbered r → result_from back (refusal_of r) (value_of flat none r) ≡ r
unfolding result_from
result_back flat back none undo (accepted a) h = ap accepted (undo a)
result_back flat back none undo (refused zero) h = absurd (omega arith)
result_back flat back none undo (refused (suc n)) h = refl

-- what is written is one of those that writing makes
pub result_made : {A B : Type 0} (flat : A → B) (none : B) (These : B → Type 0) → ((a : A) → These (flat a))
    → (r : Result A) → Numbered r → Made These none (refusal_of r) (value_of flat none r)
result_made flat none These these (accepted a) h = inl (refl, these a)
result_made flat none These these (refused n) h = inr (h, refl)

-- and each of those comes back: the number, whatever it is, and the value
pub number_again : {A B : Type 0} (back : B → A) (refusal : ℕ) (value : B)
    → refusal_of (result_from back refusal value) ≡ refusal
unfolding result_from
number_again back zero value = refl
number_again back (suc n) value = refl

pub value_again : {A B : Type 0} (flat : A → B) (back : B → A) (none : B) (These : B → Type 0)
    → ((value : B) → These value → flat (back value) ≡ value) → (refusal : ℕ) (value : B) → Made These none refusal value
    → value_of flat none (result_from back refusal value) ≡ value
unfolding result_from
value_again flat back none These undo zero value (inl h) = undo value h.1
value_again flat back none These undo zero value (inr h) = absurd (omega arith)
value_again flat back none These undo (suc n) value (inl h) = absurd (omega arith)
value_again flat back none These undo (suc n) value (inr h) = sym h.1
