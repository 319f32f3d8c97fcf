-- What is written flat of version talk is read back, and the other way round.
-- Assumes nothing.
use Prim.Native.Nat.{ℕ, zero, suc, ◌≤◌}
use mathlib.Core.List.{List}
use mathlib.Core.Path.{◌≡◌, refl}
use native.Mathlib.Omega.{arith}
use Rattle.frame.specs.Choice.{pick}
use Rattle.frame.proofs.Choice.{pick_elim}
use Rattle.frame.specs.Result as answers
use Rattle.frame.specs.Result.{Result, accepted}
use Rattle.kospelna.specs.Refusals.{Numbered}
use Rattle.kospelna.proofs.Refusals.{result_back, result_made, number_again, value_again}
use Rattle.version.specs.List.{list_of, listed_of}
use Rattle.version.specs.Message.{verdict_byte, read_of}
use Rattle.version.specs.Talk.{make_of, made_of}
use Rattle.version.specs.Told.{Told, Outcome, quiet, refused, agreed, failed, left}
use Rattle.version.specs.declared.Message.{Message}
use Rattle.version.specs.declared.Side.{Side}
use Rattle.version.specs.declared.Side.TheVariants.{Charger, Vehicle}
use Rattle.version.specs.declared.State.{State}
use Rattle.version.specs.declared.State.TheVariants.{S0, S1, S2, S3, S4, S5}
use Rattle.version.specs.declared.Talker.{Talker}
use Rattle.version.specs.declared.Verdict.{Verdict}
use Rattle.version.specs.declared.Verdict.TheVariants.{Continue, Success, Failure}
use Rattle.version.specs.declared.Versions.{Versions}
use Rattle.kospelna.specs.Talk.{side_number, side_in, state_number, state_in, verdict_in, versions_in, versions_out, no_versions, listing_out, listing_in, ListingMade, message_in, message_out, MessageMade, bytes_in, bytes_out, no_bytes, message_bytes, writing_out, writing_in, WritingMade, no_message, reading_out, reading_in, ReadingMade, talker_in, talker_out, TalkerMade, no_talker, making_out, making_in, MakingMade, outcome_number, outcome_refusal, outcome_version, outcome_in, OutcomeMade, made_quiet, made_refused, made_failed, made_agreed, made_left, answer_out, answer_in, AnswerMade, TalkWhole, BesideRefusals}
use Rattle.kospelna.specs.declared.talk.FlatVersions.{FlatVersions}
use Rattle.kospelna.specs.declared.talk.FlatVersionListing.{FlatVersionListing}
use Rattle.kospelna.specs.declared.talk.FlatVersionMessage.{FlatVersionMessage}
use Rattle.kospelna.specs.declared.talk.FlatVersionBytes.{FlatVersionBytes}
use Rattle.kospelna.specs.declared.talk.FlatVersionReading.{FlatVersionReading}
use Rattle.kospelna.specs.declared.talk.FlatVersionWriting.{FlatVersionWriting}
use Rattle.kospelna.specs.declared.talk.FlatTalker.{FlatTalker}
use Rattle.kospelna.specs.declared.talk.FlatTalkerMade.{FlatTalkerMade}
use Rattle.kospelna.specs.declared.talk.FlatTalkerAnswer.{FlatTalkerAnswer}

-- ---- back and forth: numbers

side_read : (s : Side) → side_in (side_number s) ≡ s
unfolding pick
side_read Charger = refl
side_read Vehicle = refl

side_made : (s : Side) → side_number s ≤ 1
side_made Charger = omega arith
side_made Vehicle = omega arith

side_written : (n : ℕ) → n ≤ 1 → side_number (side_in n) ≡ n
unfolding pick
side_written zero h = refl
side_written (suc zero) h = refl
side_written (suc (suc n)) h = absurd (omega arith)

state_read : (s : State) → state_in (state_number s) ≡ s
unfolding pick
state_read S0 = refl
state_read S1 = refl
state_read S2 = refl
state_read S3 = refl
state_read S4 = refl
state_read S5 = refl

state_made : (s : State) → state_number s ≤ 5
state_made S0 = omega arith
state_made S1 = omega arith
state_made S2 = omega arith
state_made S3 = omega arith
state_made S4 = omega arith
state_made S5 = omega arith

state_written : (n : ℕ) → n ≤ 5 → state_number (state_in n) ≡ n
unfolding pick
state_written zero h = refl
state_written (suc zero) h = refl
state_written (suc (suc zero)) h = refl
state_written (suc (suc (suc zero))) h = refl
state_written (suc (suc (suc (suc zero)))) h = refl
state_written (suc (suc (suc (suc (suc zero))))) h = refl
state_written (suc (suc (suc (suc (suc (suc n)))))) h = absurd (omega arith)

verdict_read : (v : Verdict) → verdict_in (verdict_byte v) ≡ v
unfolding pick
verdict_read Continue = refl
verdict_read Success = refl
verdict_read Failure = refl

verdict_made : (v : Verdict) → verdict_byte v ≤ 2
verdict_made Continue = omega arith
verdict_made Success = omega arith
verdict_made Failure = omega arith

verdict_written : (n : ℕ) → n ≤ 2 → verdict_byte (verdict_in n) ≡ n
unfolding pick
verdict_written zero h = refl
verdict_written (suc zero) h = refl
verdict_written (suc (suc zero)) h = refl
verdict_written (suc (suc (suc n))) h = absurd (omega arith)

-- ---- back and forth: the list and the message. Every value comes back; a flat value that writing makes comes back; and
-- writing makes no others.

pub versions_read : (v : Versions) → versions_in (versions_out v) ≡ v
versions_read v = refl

pub versions_written : (f : FlatVersions) → versions_out (versions_in f) ≡ f
versions_written f = refl

pub listing_read : (r : Result Versions) → Numbered r → listing_in (listing_out r) ≡ r
listing_read = result_back versions_out versions_in no_versions versions_read

pub listing_made : (r : Result Versions) → Numbered r → ListingMade (listing_out r)
listing_made = result_made versions_out no_versions (λ (v : FlatVersions). Unit) (λ v. tt)

pub listing_written : (f : FlatVersionListing) → ListingMade f → listing_out (listing_in f) ≡ f
listing_written f made =
    rw (
      number_again versions_in f.refusal f.versions,
      value_again versions_out versions_in no_versions (λ (v : FlatVersions). Unit) (λ v h. versions_written v) f.refusal f.versions made,
    )

pub message_read : (m : Message) → message_in (message_out m) ≡ m
message_read m = rw (verdict_read m.verdict)

pub message_made : (m : Message) → MessageMade (message_out m)
message_made m = verdict_made m.verdict

pub message_written : (f : FlatVersionMessage) → MessageMade f → message_out (message_in f) ≡ f
message_written f h = rw (verdict_written f.verdict h)

pub bytes_read : (s : List ℕ) → bytes_in (bytes_out s) ≡ s
bytes_read s = refl

pub bytes_written : (f : FlatVersionBytes) → bytes_out (bytes_in f) ≡ f
bytes_written f = refl

pub reading_read : (r : Result Message) → Numbered r → reading_in (reading_out r) ≡ r
reading_read = result_back message_out message_in no_message message_read

pub reading_made : (r : Result Message) → Numbered r → ReadingMade (reading_out r)
reading_made = result_made message_out no_message MessageMade message_made

pub reading_written : (f : FlatVersionReading) → ReadingMade f → reading_out (reading_in f) ≡ f
reading_written f made =
    rw (
      number_again message_in f.refusal f.message,
      value_again message_out message_in no_message MessageMade message_written f.refusal f.message made,
    )

pub writing_read : (r : Result (List ℕ)) → Numbered r → writing_in (writing_out r) ≡ r
writing_read = result_back bytes_out bytes_in no_bytes bytes_read

pub writing_made : (r : Result (List ℕ)) → Numbered r → WritingMade (writing_out r)
writing_made = result_made bytes_out no_bytes (λ (s : FlatVersionBytes). Unit) (λ s. tt)

pub writing_written : (f : FlatVersionWriting) → WritingMade f → writing_out (writing_in f) ≡ f
writing_written f made =
    rw (
      number_again bytes_in f.refusal f.bytes,
      value_again bytes_out bytes_in no_bytes (λ (s : FlatVersionBytes). Unit) (λ s h. bytes_written s) f.refusal f.bytes made,
    )

-- no refusal is numbered 0
pub list_numbered : (s : List ℕ) → Numbered (list_of s)
unfolding list_of
list_numbered s = pick_elim Numbered _ (λ e. tt) (λ e. omega arith)

pub read_numbered : (s : List ℕ) → Numbered (read_of s)
unfolding read_of
read_numbered s = pick_elim Numbered _ (λ e. tt) (λ e. omega arith)

pub bytes_numbered : (f : FlatVersionMessage) → Numbered (message_bytes f)
bytes_numbered f = pick_elim Numbered _ (λ e. tt) (λ e. omega arith)

-- ---- back and forth: the talker and a call's answer

pub talker_read : (t : Talker) → talker_in (talker_out t) ≡ t
talker_read t = rw (side_read t.side, state_read t.state, verdict_read t.verdict)

pub talker_made : (t : Talker) → TalkerMade (talker_out t)
talker_made t = (side_made t.side, state_made t.state, verdict_made t.verdict)

pub talker_written : (f : FlatTalker) → TalkerMade f → talker_out (talker_in f) ≡ f
talker_written f h = rw (side_written f.side h.0, state_written f.state h.1, verdict_written f.verdict h.2)

pub making_read : (r : Result Talker) → Numbered r → making_in (making_out r) ≡ r
making_read = result_back talker_out talker_in no_talker talker_read

pub making_made : (r : Result Talker) → Numbered r → MakingMade (making_out r)
making_made = result_made talker_out no_talker TalkerMade talker_made

pub making_written : (f : FlatTalkerMade) → MakingMade f → making_out (making_in f) ≡ f
making_written f made =
    rw (
      number_again talker_in f.refusal f.talker,
      value_again talker_out talker_in no_talker TalkerMade talker_written f.refusal f.talker made,
    )

pub make_numbered : (side : Side) (versions : Versions) (control : ℕ) → Numbered (make_of side versions control)
unfolding make_of
make_numbered side versions control = pick_elim Numbered _ (λ e. tt) (λ e. omega arith)

outcome_read : (o : Outcome) → outcome_in (outcome_number o) (outcome_refusal o) (outcome_version o) ≡ o
unfolding outcome_in pick
outcome_read quiet = refl
outcome_read (refused n) = refl
outcome_read (agreed v) = refl
outcome_read failed = refl
outcome_read left = refl

pub answer_read : (a : Told) → answer_in (answer_out a) ≡ a
unfolding answer_in
answer_read a = rw (talker_read a.next, outcome_read a.outcome)

outcome_made : (o : Outcome) → OutcomeMade (outcome_number o) (outcome_refusal o) (outcome_version o)
outcome_made quiet = made_quiet
outcome_made (refused n) = made_refused n
outcome_made (agreed v) = made_agreed v
outcome_made failed = made_failed
outcome_made left = made_left

pub answer_made : (a : Told) → AnswerMade (answer_out a)
answer_made a = (talker_made a.next, outcome_made a.outcome)

outcome_written : {n r v : ℕ} → OutcomeMade n r v
    → (outcome_number (outcome_in n r v) ≡ n) × (outcome_refusal (outcome_in n r v) ≡ r) × (outcome_version (outcome_in n r v) ≡ v)
unfolding outcome_in pick
outcome_written made_quiet = (refl, refl, refl)
outcome_written (made_refused n) = (refl, refl, refl)
outcome_written made_failed = (refl, refl, refl)
outcome_written (made_agreed v) = (refl, refl, refl)
outcome_written made_left = (refl, refl, refl)

pub answer_written : (f : FlatTalkerAnswer) → AnswerMade f → answer_out (answer_in f) ≡ f
unfolding answer_in
answer_written f made =
    let o = outcome_written made.1 in
    rw (talker_written f.next made.0, o.0, o.1, o.2)

pub talk_whole : TalkWhole
talk_whole =
    record {
      lists = λ s. listing_read (list_of s) (list_numbered s);
      writes = λ f. writing_read (message_bytes f) (bytes_numbered f);
      reads = λ s. reading_read (read_of s) (read_numbered s);
      talkers = talker_read;
      makes = λ side v control. making_read (make_of side v control) (make_numbered side v control);
      answers = answer_read;
    }

-- what stands beside a refusal
listed_beside : (r : Result Versions) → (listing_out r).versions ≡ versions_out (listed_of r).versions
listed_beside (accepted v) = refl
listed_beside (answers.refused number) = refl

made_beside : (r : Result Talker) → (making_out r).talker ≡ talker_out (made_of r).talker
made_beside (accepted t) = refl
made_beside (answers.refused number) = refl

pub beside_refusals : BesideRefusals
beside_refusals = record { listed = listed_beside; made = made_beside }
