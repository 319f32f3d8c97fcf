-- What is told of an answer leaves nothing of it open: telling has a left inverse, by cases.
-- Assumes nothing.
use Prim.Native.Nat.{ℕ}
use mathlib.Core.Path.{◌≡◌, refl, ap}
use mathlib.Core.List.{List}
use Rattle.std.specs.Prelude.{Some, None}
use Rattle.std.specs.declared.option.Option.{Option}
use Rattle.frame.specs.Choice.{pick}
use Rattle.frame.specs.declared.Frame.{Frame}
use Rattle.receiver.specs.Told.{Outcome, quiet, refused, delivered, failed, short, told_outcome, told_bytes, Told, told}
use Rattle.receiver.specs.declared.Answer as answer
use Rattle.receiver.specs.declared.Outcome as outcome-enum
use Rattle.receiver.specs.declared.Outcome.TheVariants as outcome-variants
use Rattle.receiver.specs.declared.Receiver.{Receiver}

abbrev pub untold_outcome : Outcome → List ℕ → outcome-enum.Outcome
untold_outcome quiet bytes = outcome-variants.Quiet
untold_outcome (refused number) bytes = outcome-variants.Refused number
untold_outcome (delivered length) bytes = outcome-variants.Delivered length
untold_outcome (failed cause) bytes = outcome-variants.Failed cause
untold_outcome short bytes = outcome-variants.Short bytes

told_outcome_injective : (o : outcome-enum.Outcome) → untold_outcome (told_outcome o) (told_bytes o) ≡ o
told_outcome_injective outcome-variants.Quiet = refl
told_outcome_injective (outcome-variants.Refused number) = refl
told_outcome_injective (outcome-variants.Delivered length) = refl
told_outcome_injective (outcome-variants.Failed cause) = refl
told_outcome_injective (outcome-variants.Short bytes) = refl

abbrev pub untold : Told → answer.Answer
untold t =
    record { next = t.next; frame = pick t.emits (Some t.frame) None; outcome = untold_outcome t.outcome t.bytes }

by_frame : (r : Receiver) (f : Option Frame) (o : outcome-enum.Outcome)
    → untold (told (record { next = r; frame = f; outcome = o })) ≡ record { next = r; frame = f; outcome = o }
unfolding pick
by_frame r None o =
    ap (λ (o : outcome-enum.Outcome). record { next = r; frame = None; outcome = o }) (told_outcome_injective o)
by_frame r (Some f) o =
    ap (λ (o : outcome-enum.Outcome). record { next = r; frame = Some f; outcome = o }) (told_outcome_injective o)

pub told_injective : (a : answer.Answer) → untold (told a) ≡ a
unfolding pick
told_injective a = by_frame a.next a.frame a.outcome
