-- What a talker's calls answer, in document 01's words and numbers.
use Rattle.std.specs.Prelude.{ℕ, Bool, true, false, List, [], ◌∷◌, is_some, Some, None}
use Rattle.std.specs.declared.option.Option.{Option}
use Rattle.frame.specs.Result.{number_of}
use Rattle.version.specs.List.{at}
use Rattle.version.specs.Message.{write_of}
use Rattle.version.specs.declared.Answer.{Answer}
use Rattle.version.specs.declared.Outcome as outcome-enum
use Rattle.version.specs.declared.Outcome.TheVariants as outcome-variants
use Rattle.version.specs.declared.State.{State}
use Rattle.version.specs.declared.Talker.{Talker}
use Rattle.version.specs.declared.Verdict.{Verdict}

-- what a call reports: nothing; a refusal's number; entering S2 or S3, with the version; entering
-- S4; entering S5
pub data Outcome : Type 0 where
  quiet : Outcome
  refused : ℕ → Outcome
  agreed : (version : ℕ) → Outcome
  failed : Outcome
  left : Outcome

-- document 01's values for each case of the outcome
abbrev pub told_outcome : outcome-enum.Outcome → Outcome
told_outcome outcome-variants.Quiet = quiet
told_outcome (outcome-variants.Refused refusal) = refused (number_of refusal)
told_outcome (outcome-variants.Agreed version) = agreed version
told_outcome outcome-variants.Failed = failed
told_outcome outcome-variants.Left = left

abbrev pub no_bytes : List ℕ
no_bytes = 0 ∷ 0 ∷ 0 ∷ 0 ∷ 0 ∷ 0 ∷ 0 ∷ 0 ∷ []

-- the bytes that go out, eight zeros where none do
abbrev pub bytes_or_zeros : Option (List ℕ) → List ℕ
bytes_or_zeros None = no_bytes
bytes_or_zeros (Some bytes) = bytes

-- a call's whole answer: the next state, whether a message goes out, its bytes (eight zeros where
-- none does), what is reported
pub record Told : Type 0 where
  pub next : Talker
  pub emits : Bool
  pub bytes : List ℕ
  pub outcome : Outcome

abbrev pub told : Answer → Told
told a =
    record {
      next = a.next;
      emits = is_some a.message;
      bytes = bytes_or_zeros a.message;
      outcome = told_outcome a.outcome;
    }

-- the next state and no message, with what is reported
abbrev pub unsaid : Talker → Outcome → Told
unsaid t o = record { next = t; emits = false; bytes = no_bytes; outcome = o }

-- the next state, and nothing else
abbrev pub silently : Talker → Told
silently t = unsaid t quiet

-- Refusals, by place, last line: a number, and nothing is sent or reported
abbrev pub refusing : Talker → ℕ → Told
refusing t number = unsaid t (refused number)

-- the version at Ns
abbrev pub own_version : Talker → ℕ
own_version t = at t.versions t.place

-- the talker's own message: its result and its version at Ns
abbrev pub own_message : Talker → List ℕ
own_message t =
    write_of (record { verdict = t.verdict; version = own_version t; control = t.control })

-- the next state and its own message, with what is reported
abbrev pub saying : Talker → Outcome → Told
saying t o = record { next = t; emits = true; bytes = own_message t; outcome = o }

-- the talker in a state, with a result, at a place of its list, T1 and Tout0 at these ticks; timing
-- says whether T1 runs on in S3
abbrev pub moved : Talker → State → Verdict → ℕ → ℕ → ℕ → Bool → Talker
moved t state verdict place period age timing =
    record {
      side = t.side;
      versions = t.versions;
      control = t.control;
      state = state;
      place = place;
      verdict = verdict;
      period = period;
      age = age;
      timing = timing;
    }
