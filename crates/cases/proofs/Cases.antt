-- The table of cases holds: one test of the whole table, computed, and the rule at each row.
-- Assumes nothing.
use mathlib.Core.Path.{◌≡◌, subst}
use mathlib.Core.Bool.{Bool}
use mathlib.Core.List.{List}
use Prim.Native.Nat.{ℕ, ◌<◌}
use native.Mathlib.Omega.{arith}
use lib.Dec.{T, lit<, lit≤}
use lib.ListN.{length}
use Rattle.frame.specs.Choice.{pick}
use Rattle.frame.specs.Count.{frame_count_of, increment_of}
use Rattle.frame.specs.Frames.{fill_to, announcement_of, information_of, sm_rm_of, lm_ack_of, lm_nack_of, end_of_ack_of}
use Rattle.frame.specs.Reading.{named_of, all_filler, clean_for, read_of}
use Rattle.sender.specs.Begin as sender-begin
use Rattle.sender.specs.Hear as sender-hear
use Rattle.sender.specs.Make as sender-make
use Rattle.sender.specs.Tick as sender-tick
use Rattle.sender.specs.declared.Phase.TheVariants.{Idle}
use Rattle.sender.specs.declared.Sender.{Sender}
use Rattle.receiver.specs.Hear as receiver-hear
use Rattle.receiver.specs.Make as receiver-making
use Rattle.receiver.specs.Tick as receiver-tick
use Rattle.receiver.specs.declared.Receiver.{Receiver}
use Rattle.identifier.specs.Answer.{join_of}
use Rattle.identifier.specs.Identifier.{fits_of, number_of}
use Rattle.cases.specs.Answer.{shown_begin, begin_frame, unless_refused, sender_ticks, sender_in_silence, receiver_ticks, receiver_in_silence, of_sender, of_receiver, shown_joined, with_report, shown_heard, last_of, with_byte, answer_of}
use Rattle.cases.specs.Claim.{Claim, ExpectsLast}
use Rattle.cases.specs.Row.{Row, begun, short, announces, delivered}
use Rattle.cases.specs.Table.{table, row, row_at}
use Rattle.cases.proofs.General.{every_answer}
use Rattle.cases.proofs.Numbers.{same, same→eq}
use Rattle.cases.proofs.Table.{every, passes_at}

-- a row's test: the definitions answer its question with its numbers
abbrev right : Row → Bool
right r = same (answer_of r.question) r.answer

-- the whole table passes: antt computes it
all_right : T (every right table)
unfolding
    table answer_of of_sender of_receiver begin_frame unless_refused with_report
    sender_ticks sender_in_silence receiver_ticks receiver_in_silence
    pick frame_count_of increment_of
    fill_to announcement_of information_of sm_rm_of lm_ack_of lm_nack_of end_of_ack_of
    named_of all_filler clean_for read_of
    sender-make.make_of sender-begin.begin_of sender-begin.begin_phase sender-begin.begin_idle sender-begin.begin_short sender-begin.begin_long
    sender-hear.hear_of sender-hear.hear_read sender-hear.hear_kind sender-hear.hear_ack sender-hear.ack_opening
    sender-tick.tick_of sender-tick.lent_to sender-tick.tick_phase sender-tick.tick_opening sender-tick.unless_over sender-tick.at_limit sender-tick.unless_third
    receiver-hear.hear_of receiver-hear.hear_read receiver-hear.hear_kind receiver-hear.hear_unless_held receiver-hear.hear_numbered
    receiver-hear.hear_announcement receiver-hear.announce_idle
    receiver-hear.hear_information receiver-hear.information_open receiver-hear.information_expected receiver-hear.stored
    receiver-making.make_of receiver-tick.tick_of receiver-tick.tick_phase receiver-tick.tick_open receiver-tick.timeout_by
    shown_joined join_of fits_of number_of
all_right = tt

-- so the definitions answer each row's question with the row's numbers
pub cases_hold : (k : ℕ) → k < length table → answer_of (row_at k).question ≡ (row_at k).answer
cases_hold k h = same→eq _ _ (passes_at right (row (begun 8) short) table all_right k h)

-- and so does every end with every message that the question leaves open
pub cases_hold_of_all : (k : ℕ) → k < length table → Claim (row_at k).question (row_at k).answer
cases_hold_of_all k h = subst (Claim (row_at k).question) (cases_hold k h) (every_answer (row_at k).question)

-- as read at a row: "1785 announces 00 FF F9 06", whatever the sender and the message
begin_1785 : (s : Sender) (message : List ℕ)
    → s.phase ≡ Idle
    → length message ≡ 1785
    → shown_begin (sender-begin.begin_of s message) ≡ announces 0x00 0xFF 0xF9 0x06
unfolding table
begin_1785 = cases_hold_of_all 4 (lit< tt)

-- and of E3: the last frame of 14 bytes is full, so that a byte other than 0xFF in d7 is delivered
last_14 : (r : Receiver) (message buffer : List ℕ) (byte : ℕ)
    → length message ≡ 14
    → ExpectsLast r.phase (length message)
    → length buffer ≡ 1785
    → (byte ≡ 255 → ⊥)
    → shown_heard (receiver-hear.hear_of r (with_byte (last_of message) 7 byte) buffer).told ≡ delivered 2 14
unfolding table
last_14 r message buffer byte long expects lent other =
    cases_hold_of_all 15 (lit< tt) r message buffer byte long (omega arith) expects lent (lit≤ tt) (lit≤ tt) other
