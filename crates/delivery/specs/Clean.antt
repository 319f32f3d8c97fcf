-- Document 02, E1: a clean long transfer and its figures, as one claim about every list of clean calls. The calls, what they
-- do and what is seen of them are demand 3's.
--   one        at every moment the sender has reported nothing, or sent with N × G ticks and N + 1 frames, and once
--   early      it has reported nothing before its tick N × G
--   there      it has reported once that tick is over and every frame has been heard
--   delivered  by then the receiver has delivered the message, once
--   CleanCalls  what is asked of the calls; `Fits` what is asked of the settings and the message
use Rattle.std.specs.Prelude.{ℕ, ◌≤◌, ◌<◌, Bool, true, false, List, [], ◌∷◌, ◌++◌, ◌≡◌, length}
use Rattle.clean.specs.Figures.{figures_for}
use Rattle.clean.specs.declared.Figures.{Figures}
use Rattle.frame.specs.Result.{accepted}
use Rattle.receiver.specs.Make as receiver-making
use Rattle.receiver.specs.declared.Receiver.{Receiver}
use Rattle.sender.specs.Make as sender-making
use Rattle.sender.specs.Told as sender
use Rattle.sender.specs.declared.Sender.{Sender}
use Rattle.delivery.specs.Demand3.{Condition}
use Rattle.delivery.specs.Run.{Line, Past, fresh, next, run_of}
use Rattle.delivery.specs.Seen.{taken, Begun, begun_in, listened, Sort, begins, ticks_sender, ticks_receiver, holds_receiver, other, sort_of}
use Rattle.transport.specs.Capped.{capped_step}
use Rattle.transport.specs.Step.{was_refused, step_of}
use Rattle.transport.specs.World.{World, Call, Event}
use Rattle.transport.specs.World.{begin, sender_tick, receiver_tick, hold, resume}
use Rattle.transport.specs.World.{hear_forward, repeat_forward, lose_forward, hear_back, repeat_back, lose_back}

-- ---- whose tick is next

-- E1, "alternately": either end may tick first, then the one that did not tick last
pub data Turn : Type 0 where
  anyone : Turn
  senders : Turn
  receivers : Turn

-- by the sort of call, and whether the sender took it: a refused tick is none
abbrev pub turn_by : Sort → Bool → Turn → Turn
turn_by (begins message) any turn = turn
turn_by ticks_sender true turn = receivers
turn_by ticks_sender false turn = turn
turn_by ticks_receiver any turn = senders
turn_by holds_receiver any turn = turn
turn_by other any turn = turn

-- before the first tick, anyone's
unfoldable pub turn_in : List Event → Turn
turn_in [] = anyone
turn_in (e ∷ past) = turn_by (sort_of e.call) (taken e.sender) (turn_in past)

abbrev pub SenderMayTick : Turn → Type 0
SenderMayTick anyone = Unit
SenderMayTick senders = Unit
SenderMayTick receivers = ⊥

abbrev pub ReceiverMayTick : Turn → Type 0
ReceiverMayTick anyone = Unit
ReceiverMayTick senders = ⊥
ReceiverMayTick receivers = Unit

-- ---- clean calls

-- E1, "heard before the next tick": no frame is on its way
abbrev pub Empty : World → Type 0
Empty w = (w.forward ≡ []) × (w.back ≡ [])

-- What is asked of a call after the begin, besides what demand 3 asks of it. A tick finds the line empty and its end's turn
-- come. No frame is lost: not by lose, and not to a hearing that is refused. None is repeated to an end that hears it. On an
-- empty list all of these do nothing and may be called. Calls that are refused may be among them; a begin must be, so
-- that the transfer is the only one, and a hold (document 02, E2: E1 speaks of transfers without one); then every resume
-- is refused.
abbrev pub CleanCall : Past → Call → Event → Type 0
CleanCall p (begin m) e = taken e.sender ≡ false
CleanCall p (sender_tick m) e = taken e.sender ≡ true → Empty p.world × SenderMayTick (turn_in p.events)
CleanCall p receiver_tick e = Empty p.world × ReceiverMayTick (turn_in p.events)
CleanCall p hold e = was_refused e.receiver ≡ true
CleanCall p resume e = Unit
CleanCall p (hear_forward b) e = was_refused e.receiver ≡ false
CleanCall p (repeat_forward b) e = listened e.given e.receiver ≡ false
CleanCall p lose_forward e = p.world.forward ≡ []
CleanCall p hear_back e = Unit
CleanCall p repeat_back e = p.world.back ≡ []
CleanCall p lose_back e = p.world.back ≡ []

-- along the whole list, on a line: what demand 3 asks of each call, and what is asked besides
abbrev pub CallsMeet : (Past → Call → Event → Type 0) → Line → Past → List Call → Type 0
CallsMeet Asked line p [] = Unit
CallsMeet Asked line p (c ∷ calls) =
    Condition p c (line p.world c).event
    × Asked p c (line p.world c).event
    × CallsMeet Asked line (next line p c) calls

abbrev pub CleanCalls : Line → Past → List Call → Type 0
CleanCalls = CallsMeet CleanCall

-- E1's conditions on the settings and the message; limit is M, patience the receiver's T, capacity K
pub record Fits (gap timeout limit patience capacity : ℕ) (message : List ℕ) : Type 0 where
  -- both T are above G
  pub senders_timeout : gap < timeout
  pub receivers_timeout : gap < patience
  -- M is above N × G
  pub sending_time : (figures_for (length message) gap).ticks < limit
  -- there is space for L
  pub space : length message ≤ capacity
  -- the transfer is a long one
  pub long : 8 < length message

-- ---- the promise

-- the report that E1 promises
abbrev pub sent_with : Figures → sender.Outcome
sent_with f = sender.sent f.ticks f.frames

-- the sender's reports in an event, none or one, as they are
abbrev pub reports_of : sender.Outcome → List sender.Outcome
reports_of sender.quiet = []
reports_of (sender.refused number) = []
reports_of (sender.sent ticks frames) = sender.sent ticks frames ∷ []
reports_of (sender.failed cause ticks frames) = sender.failed cause ticks frames ∷ []

-- all of them, the newest first
unfoldable pub reports_in : List Event → List sender.Outcome
reports_in [] = []
reports_in (e ∷ past) = reports_of e.sender ++ reports_in past

-- the sender's ticks since the begin, and what was delivered since
abbrev pub ticks_since : Begun → ℕ
ticks_since Begun.never = 0
ticks_since (Begun.since message ticks reports deliveries) = ticks

abbrev pub delivered_since : Begun → List (List ℕ)
delivered_since Begun.never = []
delivered_since (Begun.since message ticks reports deliveries) = deliveries

-- a report, not yet or once, among the reports so far
pub data AtMostOnce (report : sender.Outcome) : List sender.Outcome → Type 0 where
  not_yet : AtMostOnce report []
  once : AtMostOnce report (report ∷ [])

-- what holds after every list of clean calls: f are the figures of this message and gap
pub record CleanPromise (f : Figures) (message : List ℕ) (p : Past) : Type 0 where
  -- E1, the report: sent, with these ticks and frames, and the sender makes no other
  pub one : AtMostOnce (sent_with f) (reports_in p.events)
  -- E1, its tick: not before it, and not after it, since the next tick finds the line empty
  pub early : ticks_since (begun_in p.events) < f.ticks → reports_in p.events ≡ []
  pub there : f.ticks ≤ ticks_since (begun_in p.events) → Empty p.world → reports_in p.events ≡ sent_with f ∷ []
  -- demand 3, of the report sent: the deliveries since the begin
  pub delivered : reports_in p.events ≡ sent_with f ∷ [] → delivered_since (begun_in p.events) ≡ message ∷ []

-- ---- the claim

-- E1, a transfer of fresh ends. On a line, for the ends that making answers, every buffer of 1785 bytes, every message that
-- fits the settings, and every list of calls after its begin that meets what is asked: what is said of the figures, of the
-- message, and of where the calls lead.
abbrev pub Cleanly :
    Line
    → (ℕ → ℕ → ℕ → ℕ → ℕ → List ℕ → Type 0)
    → (Past → Call → Event → Type 0)
    → (Figures → List ℕ → Past → Type 0)
    → Type 0
Cleanly line Fitting Asked Says =
    (gap timeout limit : ℕ) (s : Sender)
    → sender-making.make_of gap timeout limit ≡ accepted s
    → (patience window capacity : ℕ) (r : Receiver)
    → receiver-making.make_of patience window capacity ≡ accepted r
    → (buffer : List ℕ)
    → length buffer ≡ 1785
    → (message : List ℕ)
    → Fitting gap timeout limit patience capacity message
    → (calls : List Call)
    → CallsMeet Asked line (next line (fresh s r buffer) (begin message)) calls
    → Says (figures_for (length message) gap) message (run_of line (fresh s r buffer) (begin message ∷ calls))

abbrev pub Clean : Type 0
Clean = Cleanly step_of Fits CleanCall CleanPromise

-- it holds at a line of 64 too
abbrev pub CappedClean : Type 0
CappedClean = Cleanly capped_step Fits CleanCall CleanPromise

-- ---- the conditions can be met

-- clean calls that go on from here, until the report is there (of which message does not matter)
pub record GoesOn (f : Figures) (message : List ℕ) (p : Past) : Type 0 where
  pub calls : List Call
  pub clean : CleanCalls step_of p calls
  pub reported : reports_in (run_of step_of p calls).events ≡ sent_with f ∷ []

-- every list of clean calls can be carried on to the report
abbrev pub CleanGoesOn : Type 0
CleanGoesOn = Cleanly step_of Fits CleanCall GoesOn
