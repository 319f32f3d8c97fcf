-- What is told of an answer leaves nothing of it open: each case has its own values, so the answer comes back from them.
-- Assumes nothing.
use mathlib.Core.Path.{◌≡◌, refl}
use mathlib.Core.Bool.{Bool, true, false}
use Rattle.std.specs.Prelude.{Some, None, is_some}
use Rattle.std.specs.declared.option.Option.{Option}
use Rattle.frame.specs.Frames.{frame_or_blank}
use Rattle.frame.specs.declared.Frame.{Frame}
use Rattle.sender.specs.Told.{Outcome, quiet, refused, sent, failed, told_outcome, Told, told}
use Rattle.sender.specs.declared.Answer as answer
use Rattle.sender.specs.declared.Outcome as outcome-enum
use Rattle.sender.specs.declared.Outcome.TheVariants as outcome-variants

abbrev pub untold_outcome : Outcome → outcome-enum.Outcome
untold_outcome quiet = outcome-variants.Quiet
untold_outcome (refused number) = outcome-variants.Refused number
untold_outcome (sent ticks frames) = outcome-variants.Sent ticks frames
untold_outcome (failed cause ticks frames) = outcome-variants.Failed cause ticks frames

outcome_injective : (o : outcome-enum.Outcome) → untold_outcome (told_outcome o) ≡ o
outcome_injective outcome-variants.Quiet = refl
outcome_injective (outcome-variants.Refused number) = refl
outcome_injective (outcome-variants.Sent ticks frames) = refl
outcome_injective (outcome-variants.Failed cause ticks frames) = refl

abbrev pub untold_frame : Bool → Frame → Option Frame
untold_frame true frame = Some frame
untold_frame false frame = None

frame_injective : (f : Option Frame) → untold_frame (is_some f) (frame_or_blank f) ≡ f
frame_injective None = refl
frame_injective (Some frame) = refl

abbrev pub untold : Told → answer.Answer
untold t = record { next = t.next; frame = untold_frame t.emits t.frame; outcome = untold_outcome t.outcome }

pub told_injective : (a : answer.Answer) → untold (told a) ≡ a
told_injective a =
    let frame = frame_injective a.frame in
    let outcome = outcome_injective a.outcome in
    rw (frame, outcome)
