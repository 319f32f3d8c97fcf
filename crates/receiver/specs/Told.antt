-- What the receiver's calls answer, with the numbers that documents 01 and 02 give to refusals and causes.
use Rattle.std.specs.Prelude.{ℕ, Bool, true, false, List, [], ◌∷◌, is_some}
use Rattle.frame.specs.Frames.{blank_of, frame_or_blank, lm_nack_of}
use Rattle.frame.specs.declared.Frame.{Frame}
use Rattle.receiver.specs.State.{in_phase}
use Rattle.receiver.specs.declared.Answer as answer
use Rattle.receiver.specs.declared.Outcome as outcome-enum
use Rattle.receiver.specs.declared.Outcome.TheVariants as outcome-variants
use Rattle.receiver.specs.declared.Phase.TheVariants.{Idle}
use Rattle.receiver.specs.declared.Receiver.{Receiver}

-- what a call reports: nothing; that it was refused, by a number; a long delivery of so many bytes; a failure with its
-- cause; a short delivery, whose eight bytes stand beside it
pub data Outcome : Type 0 where
  quiet : Outcome
  refused : ℕ → Outcome
  delivered : (length : ℕ) → Outcome
  failed : (cause : ℕ) → Outcome
  short : Outcome

-- the documents' number and values for each case of the outcome
abbrev pub told_outcome : outcome-enum.Outcome → Outcome
told_outcome outcome-variants.Quiet = quiet
told_outcome (outcome-variants.Refused number) = refused number
told_outcome (outcome-variants.Delivered length) = delivered length
told_outcome (outcome-variants.Failed cause) = failed cause
told_outcome (outcome-variants.Short bytes) = short

-- the bytes of a short delivery, eight zeros where there is none
abbrev pub no_bytes : List ℕ
no_bytes = 0 ∷ 0 ∷ 0 ∷ 0 ∷ 0 ∷ 0 ∷ 0 ∷ 0 ∷ []

abbrev pub told_bytes : outcome-enum.Outcome → List ℕ
told_bytes outcome-variants.Quiet = no_bytes
told_bytes (outcome-variants.Refused number) = no_bytes
told_bytes (outcome-variants.Delivered length) = no_bytes
told_bytes (outcome-variants.Failed cause) = no_bytes
told_bytes (outcome-variants.Short bytes) = bytes

-- a call's whole answer: the next state, whether a frame goes out, which one (blank where none does), what is reported,
-- and the bytes of a short delivery (eight zeros where there is none)
pub record Told : Type 0 where
  pub next : Receiver
  pub emits : Bool
  pub frame : Frame
  pub outcome : Outcome
  pub bytes : List ℕ

abbrev pub told : answer.Answer → Told
told a =
    record {
      next = a.next;
      emits = is_some a.frame;
      frame = frame_or_blank a.frame;
      outcome = told_outcome a.outcome;
      bytes = told_bytes a.outcome;
    }

-- a hearing's whole answer: what is told, and the lent buffer as the hearing leaves it
pub record Heard : Type 0 where
  pub told : Told
  pub buffer : List ℕ

abbrev pub heard : Told → List ℕ → Heard
heard t buffer = record { told = t; buffer = buffer }

-- Refusals, by place: the number alone; the state holds what it held
abbrev pub refusing : Receiver → ℕ → Told
refusing r number = record { next = r; emits = false; frame = blank_of; outcome = refused number; bytes = no_bytes }

-- the next state, and nothing else
abbrev pub silently : Receiver → Told
silently r = record { next = r; emits = false; frame = blank_of; outcome = quiet; bytes = no_bytes }

-- the next state and a frame
abbrev pub emitting : Receiver → Frame → Told
emitting r f = record { next = r; emits = true; frame = f; outcome = quiet; bytes = no_bytes }

-- the next state, a frame and a delivery of so many bytes
abbrev pub delivering : Receiver → Frame → ℕ → Told
delivering r f length = record { next = r; emits = true; frame = f; outcome = delivered length; bytes = no_bytes }

-- Frames, the causes: a failure and the NACK that it emits have one cause. The receiver, "A failure forgets": it ends in
-- Idle with no delivery to remember.
abbrev pub failing_with : Receiver → ℕ → Told
failing_with r cause =
    record { next = in_phase r Idle; emits = true; frame = lm_nack_of cause; outcome = failed cause; bytes = no_bytes }

-- a failure that emits nothing
abbrev pub failing : Receiver → ℕ → Told
failing r cause =
    record { next = in_phase r Idle; emits = false; frame = blank_of; outcome = failed cause; bytes = no_bytes }

-- The receiver, "SM_RM": a short delivery, with a frame and without; the state is as it was
abbrev pub short_with : Receiver → Frame → List ℕ → Told
short_with r f bytes = record { next = r; emits = true; frame = f; outcome = short; bytes = bytes }

abbrev pub short_only : Receiver → List ℕ → Told
short_only r bytes = record { next = r; emits = false; frame = blank_of; outcome = short; bytes = bytes }
