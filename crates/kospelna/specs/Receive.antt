-- The receiver in C's layouts: what a flat receiver is read as, and how the receiver and its answers are written. Document
-- 01, The receiver, has its states and reports, document 02, E2, the held mark and the count, E4 the types of timeouts; the
-- numbers of phases, misses and outcomes are the face's own.
use Rattle.std.specs.Prelude.{ℕ, ◌≤◌, false, ◌≡◌, List, eqb}
use Rattle.frame.specs.Result.{Result, refusal_of}
use Rattle.frame.specs.Choice.{pick}
use Rattle.kospelna.specs.Frames.{frame_from, flat_frame}
use Rattle.kospelna.specs.Refusals.{value_of, result_from}
use Rattle.kospelna.specs.declared.receive.FlatReceiver.{FlatReceiver}
use Rattle.kospelna.specs.declared.receive.FlatReceiverAnswer.{FlatReceiverAnswer}
use Rattle.kospelna.specs.declared.receive.FlatReceiverMade.{FlatReceiverMade}
use Rattle.kospelna.specs.declared.receive.Report.{Report}
use Rattle.receiver.specs.Make.{make_of}
use Rattle.receiver.specs.Told.{Outcome, quiet, refused, delivered, failed, short, Told, Heard}
use Rattle.receiver.specs.declared.Connection.{Connection}
use Rattle.receiver.specs.declared.Misses.{Misses}
use Rattle.receiver.specs.declared.Misses.TheVariants.{NoneAfterAck, OneAfterAck, TwoAfterAck, NoneAfterFrame, OneAfterFrame}
use Rattle.receiver.specs.declared.Phase.{Phase}
use Rattle.receiver.specs.declared.Phase.TheVariants.{Idle, Done, Open}
use Rattle.receiver.specs.declared.Receiver.{Receiver}
use Rattle.receiver.specs.declared.Settings.{Settings}

-- ---- reading

-- 1 and 2 are the timeouts counted after an LM_ACK, 3 and 4 none and one after a frame; every other number is read as 0, none
-- after an LM_ACK
abbrev pub misses_from : ℕ → Misses
misses_from n =
    pick (eqb n 1) OneAfterAck
    (pick (eqb n 2) TwoAfterAck (pick (eqb n 3) NoneAfterFrame (pick (eqb n 4) OneAfterFrame NoneAfterAck)))

abbrev pub connection_from : FlatReceiver → Connection
connection_from r =
    record {
      frames = r.frames;
      length = r.length;
      expected = r.expected;
      last = r.last;
      wait = r.wait;
      misses = misses_from r.misses;
      held = r.held;
      holds = r.holds;
    }

-- 1 Idle with the N and L last delivered, 2 Open; every other number is read as Idle
abbrev pub phase_from : FlatReceiver → Phase
phase_from r =
    pick (eqb r.phase 1) (Done (record { frames = r.frames; length = r.length }))
    (pick (eqb r.phase 2) (Open (connection_from r)) Idle)

abbrev pub receiver_from : FlatReceiver → Receiver
receiver_from r =
    record {
      settings = record { timeout = r.timeout; window = r.window; capacity = r.capacity };
      phase = phase_from r;
    }

-- ---- writing

abbrev pub flat_misses : Misses → ℕ
flat_misses NoneAfterAck = 0
flat_misses OneAfterAck = 1
flat_misses TwoAfterAck = 2
flat_misses NoneAfterFrame = 3
flat_misses OneAfterFrame = 4

abbrev pub flat_of : Settings → ℕ → Connection → FlatReceiver
flat_of settings phase x =
    record {
      timeout = settings.timeout;
      window = settings.window;
      capacity = settings.capacity;
      phase = phase;
      frames = x.frames;
      length = x.length;
      expected = x.expected;
      last = x.last;
      wait = x.wait;
      misses = flat_misses x.misses;
      held = x.held;
      holds = x.holds;
    }

-- N and L, and what is written as 0 and false for what a delivery has not
abbrev pub remembering : ℕ → ℕ → Connection
remembering frames length =
    record {
      frames = frames;
      length = length;
      expected = 0;
      last = 0;
      wait = 0;
      misses = NoneAfterAck;
      held = false;
      holds = 0;
    }

-- 0 Idle, 1 Idle with a delivery remembered, 2 Open
abbrev pub flat_phase : Settings → Phase → FlatReceiver
flat_phase settings Idle = flat_of settings 0 (remembering 0 0)
flat_phase settings (Done x) = flat_of settings 1 (remembering x.frames x.length)
flat_phase settings (Open x) = flat_of settings 2 x

abbrev pub flat_receiver : Receiver → FlatReceiver
flat_receiver r = flat_phase r.settings r.phase

-- The flat receivers that writing makes: known numbers of phase and misses, and 0 or false in what the phase has not.
pub data Written (r : FlatReceiver) : Type 0 where
  idle : r.phase ≡ 0 → r.misses ≤ 4 → connection_from r ≡ remembering 0 0 → Written r
  done : r.phase ≡ 1 → r.misses ≤ 4 → connection_from r ≡ remembering r.frames r.length → Written r
  opened : r.phase ≡ 2 → r.misses ≤ 4 → Written r

-- ---- answers

abbrev pub report : ℕ → ℕ → ℕ → ℕ → Report
report outcome refusal cause length = record { outcome = outcome; refusal = refusal; cause = cause; length = length }

-- 0 quiet, 1 refused with its number, 2 delivered with its length, 3 failed with its cause, 4 short; 0 for what is not there
abbrev pub flat_outcome : Outcome → Report
flat_outcome quiet = report 0 0 0 0
flat_outcome (refused number) = report 1 number 0 0
flat_outcome (delivered length) = report 2 0 0 length
flat_outcome (failed cause) = report 3 0 cause 0
flat_outcome short = report 4 0 0 0

abbrev pub answer_of : FlatReceiver → Told → Report → FlatReceiverAnswer
answer_of next t r =
    record {
      next = next;
      emits = t.emits;
      frame = flat_frame t.frame;
      outcome = r.outcome;
      refusal = r.refusal;
      cause = r.cause;
      length = r.length;
      bytes = t.bytes;
    }

abbrev pub flat_answer : Told → FlatReceiverAnswer
flat_answer t = answer_of (flat_receiver t.next) t (flat_outcome t.outcome)

-- all zeros, where no receiver was made
abbrev pub no_receiver : FlatReceiver
no_receiver = flat_of (record { timeout = 0; window = 0; capacity = 0 }) 0 (remembering 0 0)

abbrev pub flat_made : Result Receiver → FlatReceiverMade
flat_made m = record { refusal = refusal_of m; receiver = value_of flat_receiver no_receiver m }

-- a hearing's answer, and the lent buffer as the hearing leaves it
pub record FlatHeard : Type 0 where
  pub answer : FlatReceiverAnswer
  pub buffer : List ℕ

abbrev pub hearing : FlatReceiverAnswer → List ℕ → FlatHeard
hearing a buffer = record { answer = a; buffer = buffer }

abbrev pub flat_heard : Heard → FlatHeard
flat_heard h = hearing (flat_answer h.told) h.buffer

-- ---- what a caller reads off an answer

unfoldable pub outcome_from : Report → Outcome
outcome_from r =
    pick (eqb r.outcome 1) (refused r.refusal)
    (pick (eqb r.outcome 2) (delivered r.length)
    (pick (eqb r.outcome 3) (failed r.cause) (pick (eqb r.outcome 4) short quiet)))

unfoldable pub answer_from : FlatReceiverAnswer → Told
answer_from a =
    record {
      next = receiver_from a.next;
      emits = a.emits;
      frame = frame_from a.frame;
      outcome = outcome_from (report a.outcome a.refusal a.cause a.length);
      bytes = a.bytes;
    }

abbrev pub made_from : FlatReceiverMade → Result Receiver
made_from m = result_from receiver_from m.refusal m.receiver

-- Theorem: nothing is lost. A caller reads off every state, every answer and every making what the documents have there.
abbrev pub ReceiverWhole : Type 0
ReceiverWhole =
    ((r : Receiver) → receiver_from (flat_receiver r) ≡ r)
    × ((t : Told) → answer_from (flat_answer t) ≡ t)
    × ((timeout window capacity : ℕ) → made_from (flat_made (make_of timeout window capacity)) ≡ make_of timeout window capacity)
