-- What the sender's calls answer, in document 01's words and numbers.
use Rattle.std.specs.Prelude.{ℕ, Bool, true, false, is_some}
use Rattle.frame.specs.Frames.{blank_of, frame_or_blank, lm_nack_of}
use Rattle.frame.specs.declared.Frame.{Frame}
use Rattle.sender.specs.State.{counted, in_phase}
use Rattle.sender.specs.declared.Answer as answer
use Rattle.sender.specs.declared.Outcome as outcome-enum
use Rattle.sender.specs.declared.Outcome.TheVariants as outcome-variants
use Rattle.sender.specs.declared.Phase.TheVariants.{Idle}
use Rattle.sender.specs.declared.Sender.{Sender}
use Rattle.sender.specs.declared.Transfer.{Transfer}

-- what a call reports: nothing; the number of a refusal; that the message was sent, or the cause for which the transfer
-- failed. The sender, A report: each has the ticks and the frames that went out from the begin on
pub data Outcome : Type 0 where
  quiet : Outcome
  refused : ℕ → Outcome
  sent : (ticks frames : ℕ) → Outcome
  failed : (cause ticks frames : ℕ) → Outcome

-- whether a call was refused
abbrev pub is_refused : Outcome → Bool
is_refused quiet = false
is_refused (refused number) = true
is_refused (sent ticks frames) = false
is_refused (failed cause ticks frames) = false

-- document 01's number and values for each case of the outcome
abbrev pub told_outcome : outcome-enum.Outcome → Outcome
told_outcome outcome-variants.Quiet = quiet
told_outcome (outcome-variants.Refused number) = refused number
told_outcome (outcome-variants.Sent ticks frames) = sent ticks frames
told_outcome (outcome-variants.Failed cause ticks frames) = failed cause ticks frames

-- a call's whole answer: the next state, whether a frame goes out, which one (blank where none does), what is reported
pub record Told : Type 0 where
  pub next : Sender
  pub emits : Bool
  pub frame : Frame
  pub outcome : Outcome

abbrev pub told : answer.Answer → Told
told a =
    record { next = a.next; emits = is_some a.frame; frame = frame_or_blank a.frame; outcome = told_outcome a.outcome }

-- Refusals, by place, its last line: the number is all that a refused call answers; the sender is as it was
abbrev pub refusing : Sender → ℕ → Told
refusing s number = record { next = s; emits = false; frame = blank_of; outcome = refused number }

-- the next state, and nothing else
abbrev pub silently : Sender → Told
silently s = record { next = s; emits = false; frame = blank_of; outcome = quiet }

-- the next state and a frame
abbrev pub emitting : Sender → Frame → Told
emitting s f = record { next = s; emits = true; frame = f; outcome = quiet }

-- The sender, A report: with it the transfer is over and the sender Idle
abbrev pub closing : Sender → Bool → Frame → Outcome → Told
closing s emits f outcome =
    record { next = in_phase s Idle; emits = emits; frame = f; outcome = outcome }

-- Frames, Causes: a failure that sends a NACK reports the cause that it sends. The NACK is one of the frames counted
abbrev pub failing_with : Sender → Transfer → ℕ → Told
failing_with s t cause =
    closing s true (lm_nack_of cause) (failed cause t.age (counted t).emitted)

-- a failure that emits nothing
abbrev pub failing : Sender → Transfer → ℕ → Told
failing s t cause = closing s false blank_of (failed cause t.age t.emitted)

-- the whole message has been acknowledged
abbrev pub finishing : Sender → Transfer → Told
finishing s t = closing s false blank_of (sent t.age t.emitted)
