-- What a call that may be refused says: its value, or the refusal's number.
use Rattle.std.specs.Prelude.{ℕ, Ok, Err}
use Rattle.std.specs.declared.result.Result as answers
use Rattle.frame.specs.declared.refusal.Refusal.{Refusal}
use Rattle.frame.specs.declared.refusal.Refusal.TheVariants as refusals

-- document 01, Refusals, by place: a refusal has a number of its own and no value
pub data Result (A : Type 0) : Type 0 where
  accepted : A → Result A
  refused : ℕ → Result A

-- the number of a refusal, 0 where there is none
abbrev pub refusal_of : {A : Type 0} → Result A → ℕ
refusal_of (accepted a) = 0
refusal_of (refused number) = number

-- document 01's number for each cause, in its table's order; 13 and 14 are document 02's, E2 and E3
abbrev pub number_of : Refusal → ℕ
number_of refusals.Setting = 1
number_of refusals.Length = 2
number_of refusals.Busy = 3
number_of refusals.OtherMessage = 4
number_of refusals.Lent = 5
number_of refusals.Unreadable = 6
number_of refusals.OtherEnd = 7
number_of refusals.Identifier = 8
number_of refusals.Group = 9
number_of refusals.Value = 10
number_of refusals.Versions = 11
number_of refusals.Pack = 12
number_of refusals.Hold = 13
number_of refusals.Unclean = 14

-- document 01's value or number for each answer of a function that may refuse
abbrev pub told_result : {A : Type 0} → answers.Result A Refusal → Result A
told_result (Ok a) = accepted a
told_result (Err refusal) = refused (number_of refusal)
