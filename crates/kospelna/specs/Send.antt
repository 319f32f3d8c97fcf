-- The sender in C's layouts: what a flat sender is read as, and how the sender and its answers are written. Document 01, The
-- sender, has its states and reports; the phases' and the outcomes' numbers are the face's own.
use Rattle.std.specs.Prelude.{ℕ, ◌≡◌, eqb}
use Rattle.frame.specs.Result.{Result, refusal_of}
use Rattle.frame.specs.Choice.{pick}
use Rattle.kospelna.specs.Frames.{frame_from, flat_frame}
use Rattle.kospelna.specs.Refusals.{value_of, result_from}
use Rattle.kospelna.specs.declared.send.FlatSender.{FlatSender}
use Rattle.kospelna.specs.declared.send.Report.{Report}
use Rattle.kospelna.specs.declared.send.FlatSenderAnswer.{FlatSenderAnswer}
use Rattle.kospelna.specs.declared.send.FlatSenderMade.{FlatSenderMade}
use Rattle.kospelna.specs.declared.send.Window.{Window}
use Rattle.sender.specs.Make.{make_of}
use Rattle.sender.specs.Told.{Outcome, quiet, refused, sent, failed, Told}
use Rattle.sender.specs.declared.Phase.{Phase}
use Rattle.sender.specs.declared.Phase.TheVariants.{Idle, Opening, Sending, Waiting, Short}
use Rattle.sender.specs.declared.Sender.{Sender}
use Rattle.sender.specs.declared.Settings.{Settings}
use Rattle.sender.specs.declared.Transfer.{Transfer}

-- ---- reading

abbrev pub transfer_from : FlatSender → Transfer
transfer_from s =
    record { length = s.length; frames = s.frames; first = s.first; age = s.age; emitted = s.emitted }

-- each phase with its transfer, of the fields that it has
abbrev pub opening_from : FlatSender → Transfer → Phase
opening_from s t = Opening (record { transfer = t; wait = s.wait; misses = s.misses })

abbrev pub sending_from : FlatSender → Transfer → Phase
sending_from s t =
    Sending
    (record { transfer = t; start = s.start; next = s.due; last = s.last; gap = s.count; misses = s.misses })

abbrev pub waiting_from : FlatSender → Transfer → Phase
waiting_from s t =
    Waiting (record { transfer = t; start = s.start; last = s.last; wait = s.wait; misses = s.misses })

abbrev pub short_from : FlatSender → Transfer → Phase
short_from s t = Short (record { transfer = t; wait = s.wait })

-- 1 Opening, 2 Sending, 3 Waiting, 4 Short; every other number is read as Idle
abbrev pub phase_from : FlatSender → Phase
phase_from s =
    pick (eqb s.phase 1) (opening_from s (transfer_from s))
    (pick (eqb s.phase 2) (sending_from s (transfer_from s))
    (pick (eqb s.phase 3) (waiting_from s (transfer_from s))
    (pick (eqb s.phase 4) (short_from s (transfer_from s)) Idle)))

abbrev pub sender_from : FlatSender → Sender
sender_from s =
    record { settings = record { gap = s.gap; timeout = s.timeout; limit = s.limit }; phase = phase_from s }

-- ---- writing

abbrev pub window : ℕ → ℕ → ℕ → ℕ → Window
window start due last count = record { start = start; due = due; last = last; count = count }

-- what a phase has not is 0
abbrev pub no_transfer : Transfer
no_transfer = record { length = 0; frames = 0; first = 0; age = 0; emitted = 0 }

abbrev pub no_window : Window
no_window = window 0 0 0 0

abbrev pub flat_of : Settings → ℕ → Transfer → Window → ℕ → ℕ → FlatSender
flat_of settings phase t w wait misses =
    record {
      gap = settings.gap;
      timeout = settings.timeout;
      limit = settings.limit;
      phase = phase;
      length = t.length;
      frames = t.frames;
      first = t.first;
      age = t.age;
      emitted = t.emitted;
      wait = wait;
      misses = misses;
      start = w.start;
      due = w.due;
      last = w.last;
      count = w.count;
    }

-- 0 Idle, 1 Opening, 2 Sending, 3 Waiting, 4 Short
abbrev pub flat_phase : Settings → Phase → FlatSender
flat_phase settings Idle = flat_of settings 0 no_transfer no_window 0 0
flat_phase settings (Opening x) = flat_of settings 1 x.transfer no_window x.wait x.misses
flat_phase settings (Sending x) =
    flat_of settings 2 x.transfer (window x.start x.next x.last x.gap) 0 x.misses
flat_phase settings (Waiting x) =
    flat_of settings 3 x.transfer (window x.start 0 x.last 0) x.wait x.misses
flat_phase settings (Short x) = flat_of settings 4 x.transfer no_window x.wait 0

abbrev pub flat_sender : Sender → FlatSender
flat_sender s = flat_phase s.settings s.phase

-- The flat senders that writing makes: a known phase number, and 0 in what the phase has not.
abbrev pub window_from : FlatSender → Window
window_from s = window s.start s.due s.last s.count

pub data Written (s : FlatSender) : Type 0 where
  idle : s.phase ≡ 0 → transfer_from s ≡ no_transfer → window_from s ≡ no_window → s.wait ≡ 0 → s.misses ≡ 0 → Written s
  opening : s.phase ≡ 1 → window_from s ≡ no_window → Written s
  sending : s.phase ≡ 2 → s.wait ≡ 0 → Written s
  waiting : s.phase ≡ 3 → s.due ≡ 0 → s.count ≡ 0 → Written s
  short : s.phase ≡ 4 → window_from s ≡ no_window → s.misses ≡ 0 → Written s

-- ---- answers

abbrev pub report : ℕ → ℕ → ℕ → ℕ → ℕ → Report
report outcome refusal cause ticks frames =
    record { outcome = outcome; refusal = refusal; cause = cause; ticks = ticks; frames = frames }

-- 0 quiet, 1 refused with its number, 3 failed with its cause, 5 sent; a report's ticks and frames; 0 for what is not there
abbrev pub flat_outcome : Outcome → Report
flat_outcome quiet = report 0 0 0 0 0
flat_outcome (refused number) = report 1 number 0 0 0
flat_outcome (sent ticks frames) = report 5 0 0 ticks frames
flat_outcome (failed cause ticks frames) = report 3 0 cause ticks frames

abbrev pub answer_of : FlatSender → Told → Report → FlatSenderAnswer
answer_of next t r =
    record {
      next = next;
      emits = t.emits;
      frame = flat_frame t.frame;
      outcome = r.outcome;
      refusal = r.refusal;
      cause = r.cause;
      ticks = r.ticks;
      frames = r.frames;
    }

abbrev pub flat_answer : Told → FlatSenderAnswer
flat_answer t = answer_of (flat_sender t.next) t (flat_outcome t.outcome)

-- all zeros, where no sender was made
abbrev pub no_sender : FlatSender
no_sender = flat_of (record { gap = 0; timeout = 0; limit = 0 }) 0 no_transfer no_window 0 0

abbrev pub flat_made : Result Sender → FlatSenderMade
flat_made m = record { refusal = refusal_of m; sender = value_of flat_sender no_sender m }

-- ---- what a caller reads off an answer

unfoldable pub outcome_from : Report → Outcome
outcome_from r =
    pick (eqb r.outcome 1) (refused r.refusal)
    (pick (eqb r.outcome 3) (failed r.cause r.ticks r.frames)
    (pick (eqb r.outcome 5) (sent r.ticks r.frames) quiet))

abbrev pub report_from : FlatSenderAnswer → Report
report_from a = report a.outcome a.refusal a.cause a.ticks a.frames

unfoldable pub answer_from : FlatSenderAnswer → Told
answer_from a =
    record {
      next = sender_from a.next;
      emits = a.emits;
      frame = frame_from a.frame;
      outcome = outcome_from (report_from a);
    }

abbrev pub made_from : FlatSenderMade → Result Sender
made_from m = result_from sender_from m.refusal m.sender

-- Theorem: nothing is lost. A caller reads off every state, every answer and every making what document 01 has there.
abbrev pub SenderWhole : Type 0
SenderWhole =
    ((s : Sender) → sender_from (flat_sender s) ≡ s)
    × ((t : Told) → answer_from (flat_answer t) ≡ t)
    × ((gap timeout limit : ℕ) → made_from (flat_made (make_of gap timeout limit)) ≡ make_of gap timeout limit)
