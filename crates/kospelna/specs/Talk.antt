-- The flat structs of the version list, the version message and the talker: what each stands for, in both directions.
-- Document 01, Around the transport, Version talk; Refusals, version list, message.
use Rattle.std.specs.Prelude.{ℕ, ◌≤◌, false, List, ◌≡◌, eqb, leb, replicate}
use Rattle.frame.specs.Choice.{pick}
use Rattle.frame.specs.Result as result
use Rattle.frame.specs.Result.{Result, accepted, refusal_of}
use Rattle.kospelna.specs.Refusals.{value_of, result_from, Made}
use Rattle.version.specs.List.{list_of, listed_of}
use Rattle.version.specs.Message.{verdict_byte, write_of, read_of}
use Rattle.version.specs.Talk.{make_of, made_of}
use Rattle.version.specs.Told.{Told, Outcome, quiet, refused, agreed, failed, left}
use Rattle.version.specs.declared.Message.{Message}
use Rattle.version.specs.declared.Side.{Side}
use Rattle.version.specs.declared.Side.TheVariants.{Charger, Vehicle}
use Rattle.version.specs.declared.State.{State}
use Rattle.version.specs.declared.State.TheVariants.{S0, S1, S2, S3, S4, S5}
use Rattle.version.specs.declared.Talker.{Talker}
use Rattle.version.specs.declared.Verdict.{Verdict}
use Rattle.version.specs.declared.Verdict.TheVariants.{Continue, Success, Failure}
use Rattle.version.specs.declared.Versions.{Versions}
use Rattle.kospelna.specs.declared.talk.FlatVersions.{FlatVersions}
use Rattle.kospelna.specs.declared.talk.FlatVersionListing.{FlatVersionListing}
use Rattle.kospelna.specs.declared.talk.FlatVersionMessage.{FlatVersionMessage}
use Rattle.kospelna.specs.declared.talk.FlatVersionBytes.{FlatVersionBytes}
use Rattle.kospelna.specs.declared.talk.FlatVersionReading.{FlatVersionReading}
use Rattle.kospelna.specs.declared.talk.FlatVersionWriting.{FlatVersionWriting}
use Rattle.kospelna.specs.declared.talk.FlatTalker.{FlatTalker}
use Rattle.kospelna.specs.declared.talk.FlatTalkerMade.{FlatTalkerMade}
use Rattle.kospelna.specs.declared.talk.FlatTalkerAnswer.{FlatTalkerAnswer}

-- ---- the numbers of sides, states and results

-- side 0 the charger, 1 the vehicle; any other number is read as the charger
abbrev pub side_number : Side → ℕ
side_number Charger = 0
side_number Vehicle = 1

abbrev pub side_in : ℕ → Side
side_in n = pick (eqb n 1) Vehicle Charger

-- states 0 to 5 are S0 to S5; any other number is read as S0
abbrev pub state_number : State → ℕ
state_number S0 = 0
state_number S1 = 1
state_number S2 = 2
state_number S3 = 3
state_number S4 = 4
state_number S5 = 5

abbrev pub state_in : ℕ → State
state_in n = pick (eqb n 1) S1 (pick (eqb n 2) S2 (pick (eqb n 3) S3 (pick (eqb n 4) S4 (pick (eqb n 5) S5 S0))))

-- result 0 continue, 1 success, 2 failure, as in 001 tables 6 and 7 (`verdict_byte`); any other number is read as continue
abbrev pub verdict_in : ℕ → Verdict
verdict_in n = pick (eqb n 1) Success (pick (eqb n 2) Failure Continue)

-- ---- the list

abbrev pub versions_in : FlatVersions → Versions
versions_in f = record { count = f.count; numbers = f.numbers }

abbrev pub versions_out : Versions → FlatVersions
versions_out v = record { count = v.count; numbers = v.numbers }

-- what listing answers: the refusal's number, 0 where there is none, and the list, of no versions where refused
abbrev pub no_versions : FlatVersions
no_versions = record { count = 0; numbers = replicate 8 0 }

abbrev pub listing_out : Result Versions → FlatVersionListing
listing_out r = record { refusal = refusal_of r; versions = value_of versions_out no_versions r }

abbrev pub listing_in : FlatVersionListing → Result Versions
listing_in f = result_from versions_in f.refusal f.versions

-- the flat answers that writing makes
abbrev pub ListingMade : FlatVersionListing → Type 0
ListingMade f = Made (λ (v : FlatVersions). Unit) no_versions f.refusal f.versions

-- ---- the message

abbrev pub message_in : FlatVersionMessage → Message
message_in f = record { verdict = verdict_in f.verdict; version = f.version; control = f.control }

abbrev pub message_out : Message → FlatVersionMessage
message_out m = record { verdict = verdict_byte m.verdict; version = m.version; control = m.control }

abbrev pub MessageMade : FlatVersionMessage → Type 0
MessageMade f = f.verdict ≤ 2

-- eight bytes
abbrev pub bytes_in : FlatVersionBytes → List ℕ
bytes_in f = f.bytes

abbrev pub bytes_out : List ℕ → FlatVersionBytes
bytes_out s = record { bytes = s }

-- what reading answers: the refusal's number, 0 where there is none, and the message, zeros where refused
abbrev pub no_message : FlatVersionMessage
no_message = record { verdict = 0; version = 0; control = 0 }

abbrev pub reading_out : Result Message → FlatVersionReading
reading_out r = record { refusal = refusal_of r; message = value_of message_out no_message r }

abbrev pub reading_in : FlatVersionReading → Result Message
reading_in f = result_from message_in f.refusal f.message

abbrev pub ReadingMade : FlatVersionReading → Type 0
ReadingMade f = Made MessageMade no_message f.refusal f.message

-- a flat message's bytes; Refusals, version list, message: a result above 2 is refused 10
abbrev pub message_bytes : FlatVersionMessage → Result (List ℕ)
message_bytes f = pick (leb f.verdict 2) (accepted (write_of (message_in f))) (result.refused 10)

-- what writing answers: the refusal's number, 0 where there is none, and the bytes, zeros where refused
abbrev pub no_bytes : FlatVersionBytes
no_bytes = record { bytes = replicate 8 0 }

abbrev pub writing_out : Result (List ℕ) → FlatVersionWriting
writing_out r = record { refusal = refusal_of r; bytes = value_of bytes_out no_bytes r }

abbrev pub writing_in : FlatVersionWriting → Result (List ℕ)
writing_in f = result_from bytes_in f.refusal f.bytes

abbrev pub WritingMade : FlatVersionWriting → Type 0
WritingMade f = Made (λ (s : FlatVersionBytes). Unit) no_bytes f.refusal f.bytes

-- ---- the talker

abbrev pub talker_in : FlatTalker → Talker
talker_in f =
    record {
      side = side_in f.side;
      versions = versions_in f.versions;
      control = f.control;
      state = state_in f.state;
      place = f.place;
      verdict = verdict_in f.verdict;
      period = f.period;
      age = f.age;
      timing = f.timing;
    }

abbrev pub talker_out : Talker → FlatTalker
talker_out t =
    record {
      side = side_number t.side;
      versions = versions_out t.versions;
      control = t.control;
      state = state_number t.state;
      place = t.place;
      verdict = verdict_byte t.verdict;
      period = t.period;
      age = t.age;
      timing = t.timing;
    }

-- the flat talkers that writing makes
abbrev pub TalkerMade : FlatTalker → Type 0
TalkerMade f = (f.side ≤ 1) × (f.state ≤ 5) × (f.verdict ≤ 2)

-- what making answers: the refusal's number, 0 where there is none, and the talker, zeros where refused
abbrev pub no_talker : FlatTalker
no_talker =
    record {
      side = 0;
      versions = no_versions;
      control = 0;
      state = 0;
      place = 0;
      verdict = 0;
      period = 0;
      age = 0;
      timing = false;
    }

abbrev pub making_out : Result Talker → FlatTalkerMade
making_out r = record { refusal = refusal_of r; talker = value_of talker_out no_talker r }

abbrev pub making_in : FlatTalkerMade → Result Talker
making_in f = result_from talker_in f.refusal f.talker

abbrev pub MakingMade : FlatTalkerMade → Type 0
MakingMade f = Made TalkerMade no_talker f.refusal f.talker

-- what a call reports: 0 nothing, 1 refused with its number, 3 failed, 6 agreed with the version, 7 left; number and version
-- are 0 elsewhere
abbrev pub outcome_number : Outcome → ℕ
outcome_number quiet = 0
outcome_number (refused n) = 1
outcome_number (agreed v) = 6
outcome_number failed = 3
outcome_number left = 7

abbrev pub outcome_refusal : Outcome → ℕ
outcome_refusal quiet = 0
outcome_refusal (refused n) = n
outcome_refusal (agreed v) = 0
outcome_refusal failed = 0
outcome_refusal left = 0

abbrev pub outcome_version : Outcome → ℕ
outcome_version quiet = 0
outcome_version (refused n) = 0
outcome_version (agreed v) = v
outcome_version failed = 0
outcome_version left = 0

-- any other number is read as 0
unfoldable pub outcome_in : ℕ → ℕ → ℕ → Outcome
outcome_in n number version =
    pick (eqb n 1) (refused number) (pick (eqb n 3) failed (pick (eqb n 6) (agreed version) (pick (eqb n 7) left quiet)))

-- a call's whole answer
abbrev pub answer_out : Told → FlatTalkerAnswer
answer_out a =
    record {
      next = talker_out a.next;
      emits = a.emits;
      bytes = bytes_out a.bytes;
      outcome = outcome_number a.outcome;
      refusal = outcome_refusal a.outcome;
      version = outcome_version a.outcome;
    }

unfoldable pub answer_in : FlatTalkerAnswer → Told
answer_in f =
    record {
      next = talker_in f.next;
      emits = f.emits;
      bytes = bytes_in f.bytes;
      outcome = outcome_in f.outcome f.refusal f.version;
    }

-- the numbers that writing makes of an outcome
pub data OutcomeMade : ℕ → ℕ → ℕ → Type 0 where
  made_quiet : OutcomeMade 0 0 0
  made_refused : (number : ℕ) → OutcomeMade 1 number 0
  made_failed : OutcomeMade 3 0 0
  made_agreed : (version : ℕ) → OutcomeMade 6 0 version
  made_left : OutcomeMade 7 0 0

-- the flat answers that writing makes
abbrev pub AnswerMade : FlatTalkerAnswer → Type 0
AnswerMade f = TalkerMade f.next × OutcomeMade f.outcome f.refusal f.version

-- Theorem: nothing is lost. A caller reads off every talker and every answer what document 01 has there.
pub record TalkWhole : Type 0 where
  pub lists : (s : List ℕ) → listing_in (listing_out (list_of s)) ≡ list_of s
  pub writes : (f : FlatVersionMessage) → writing_in (writing_out (message_bytes f)) ≡ message_bytes f
  pub reads : (s : List ℕ) → reading_in (reading_out (read_of s)) ≡ read_of s
  pub talkers : (t : Talker) → talker_in (talker_out t) ≡ t
  pub makes : (side : Side) (v : Versions) (control : ℕ)
      → making_in (making_out (make_of side v control)) ≡ make_of side v control
  pub answers : (a : Told) → answer_in (answer_out a) ≡ a

-- Theorem: what stands beside a refusal's number is the list and the talker that version has there, those of no versions; 001
-- has none to put there.
pub record BesideRefusals : Type 0 where
  pub listed : (r : Result Versions) → (listing_out r).versions ≡ versions_out (listed_of r).versions
  pub made : (r : Result Talker) → (making_out r).talker ≡ talker_out (made_of r).talker
