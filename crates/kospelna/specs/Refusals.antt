-- An answer that is a value or a refusal, in C's layout: the refusal's number, 0 where there is none (`refusal_of`), beside
-- the value, zeros where it is refused. Document 01, Refusals, by place.
use Rattle.std.specs.Prelude.{ℕ, zero, suc, ◌≤◌, ◌⊎◌, ◌≡◌}
use Rattle.frame.specs.Result.{Result, accepted, refused}

-- the flat value, or what stands in its place
abbrev pub value_of : {A B : Type 0} → (A → B) → B → Result A → B
value_of flat none (accepted a) = flat a
value_of flat none (refused number) = none

-- what a caller reads off the number and the value
unfoldable pub result_from : {A B : Type 0} → (B → A) → ℕ → B → Result A
result_from back zero value = accepted (back value)
result_from back (suc n) value = refused (suc n)

-- Document 01 numbers its refusals from 1 on, so a caller tells by 0 that there is none. The theorems at the end of each
-- file here say that no call's answer is lost by it.
abbrev pub Numbered : {A : Type 0} → Result A → Type 0
Numbered (accepted a) = Unit
Numbered (refused number) = 1 ≤ number

-- The numbers and values that writing makes: 0 and a value of these, or another number and what stands in the value's place.
abbrev pub Made : {B : Type 0} → (B → Type 0) → B → ℕ → B → Type 0
Made These none refusal value = ((refusal ≡ 0) × These value) ⊎ ((1 ≤ refusal) × (value ≡ none))
