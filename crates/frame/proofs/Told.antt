-- What is told of an answer leaves nothing of it open: each refusal and each cause has its own number, so the answer comes back
-- from them.
-- Assumes nothing.
use Rattle.std.proofs.Common.{◌≡◌, ℕ, ◌-◌, [], ◌∷◌, get_or, refl, ap}
use Rattle.std.specs.Prelude.{Ok, Err}
use Rattle.std.specs.declared.result.Result as answers
use Rattle.frame.specs.Cause.{cause_of}
use Rattle.frame.specs.Result.{Result, accepted, refused, number_of, told_result}
use Rattle.frame.specs.declared.cause.Cause.{Cause}
use Rattle.frame.specs.declared.cause.Cause.TheVariants as causes
use Rattle.frame.specs.declared.refusal.Refusal.{Refusal}
use Rattle.frame.specs.declared.refusal.Refusal.TheVariants.{Setting, Length, Busy, OtherMessage, Lent, Unreadable, OtherEnd, Identifier, Group, Value, Versions, Pack, Hold, Unclean}

-- the refusals by their numbers
abbrev pub refusal_at : ℕ → Refusal
refusal_at number =
    get_or
    (Setting ∷ Length ∷ Busy ∷ OtherMessage ∷ Lent ∷ Unreadable ∷ OtherEnd ∷ Identifier ∷ Group ∷ Value ∷ Versions ∷ Pack ∷ Hold ∷ Unclean ∷ [])
    (number - 1) Setting

pub number_injective : (r : Refusal) → refusal_at (number_of r) ≡ r
number_injective Setting = refl
number_injective Length = refl
number_injective Busy = refl
number_injective OtherMessage = refl
number_injective Lent = refl
number_injective Unreadable = refl
number_injective OtherEnd = refl
number_injective Identifier = refl
number_injective Group = refl
number_injective Value = refl
number_injective Versions = refl
number_injective Pack = refl
number_injective Hold = refl
number_injective Unclean = refl

abbrev pub untold_result : {A : Type 0} → Result A → answers.Result A Refusal
untold_result (accepted a) = Ok a
untold_result (refused number) = Err (refusal_at number)

pub result_injective : {A : Type 0} (r : answers.Result A Refusal) → untold_result (told_result r) ≡ r
result_injective (Ok a) = refl
result_injective (Err refusal) = ap Err (number_injective refusal)

-- the causes by their numbers
abbrev pub cause_at : ℕ → Cause
cause_at number =
    get_or (causes.NoSpace ∷ causes.Timeouts ∷ causes.TimeOver ∷ causes.Number ∷ causes.Announcement ∷ []) (number - 1) causes.NoSpace

pub cause_injective : (c : Cause) → cause_at (cause_of c) ≡ c
cause_injective causes.NoSpace = refl
cause_injective causes.Timeouts = refl
cause_injective causes.TimeOver = refl
cause_injective causes.Number = refl
cause_injective causes.Announcement = refl
