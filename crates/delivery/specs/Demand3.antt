-- Demand 3, as one claim about every list of calls; document 01, The line, has the meaning of its words.
--   sent       where the sender says sent, its message is what was delivered since the begin, and nothing else was: a long
--              one once, a short one, filled up to eight bytes, once or oftener
--   reported   an accepted begin is reported once, at the sender's tick M after it at the latest
--   again      so before the next accepted begin
--   finished   a connection of N frames is reported once, at the receiver's tick 4 × T × N + 21 × T after its opening at the
--              latest (document 02, E4)
--   unheld     a connection in which no hold was accepted is reported by its tick 4 × T × N
--   Demand3    this after any calls whatever, refused ones among them, by ends just made and over a line that starts empty
--   step_of     the line gives frames in the order and shape in which they were emitted, and no others
--   Conditions what is asked of whoever makes the calls: to begin only where nothing of an earlier transfer is under way,
--              and to lend one message and one buffer
use Rattle.std.specs.Prelude.{ℕ, ◌+◌, ◌≤◌, ◌<◌, ◌*◌, Bool, true, false, List, [], ◌∷◌, ◌≡◌, length}
use Rattle.frame.specs.Result.{accepted}
use Rattle.frame.specs.Frames.{fill_to}
use Rattle.receiver.specs.Make as receiver-making
use Rattle.receiver.specs.declared.Receiver.{Receiver}
use Rattle.sender.specs.Make as sender-making
use Rattle.sender.specs.Told as sender
use Rattle.sender.specs.declared.Sender.{Sender}
use Rattle.delivery.specs.Run.{Line, Past, fresh, next, run_of}
use Rattle.delivery.specs.Seen.{taken, Begun, Opened, begun_in, opened_in, idle, listened, Sort, begins, ticks_sender, ticks_receiver, holds_receiver, other, sort_of}
use Rattle.transport.specs.Step.{step_of}
use Rattle.transport.specs.World.{Call, Event}
use Rattle.transport.specs.World.{begin, sender_tick, receiver_tick, hold, resume}
use Rattle.transport.specs.World.{hear_forward, repeat_forward, lose_forward, hear_back, repeat_back, lose_back}

-- ---- the conditions

-- while the last begin has no report, a message that is lent is the begun one
abbrev pub LentMessage : Begun → List ℕ → Type 0
LentMessage Begun.never m = Unit
LentMessage (Begun.since message ticks reports deliveries) m = reports ≡ 0 → m ≡ message

-- What is asked of one call, by what was seen before it and what is seen of it. A refused call may be lent anything. An
-- accepted begin finds no connection open and both lists empty; a hearing is lent the buffer as the calls have left it.
abbrev pub Condition : Past → Call → Event → Type 0
Condition p (begin m) e =
    taken e.sender ≡ true
    → (idle (opened_in p.events) ≡ true) × (p.world.forward ≡ []) × (p.world.back ≡ [])
Condition p (sender_tick m) e = taken e.sender ≡ true → LentMessage (begun_in p.events) m
Condition p receiver_tick e = Unit
Condition p hold e = Unit
Condition p resume e = Unit
Condition p (hear_forward b) e = listened e.given e.receiver ≡ true → b ≡ p.world.buffer
Condition p (repeat_forward b) e = listened e.given e.receiver ≡ true → b ≡ p.world.buffer
Condition p lose_forward e = Unit
Condition p hear_back e = Unit
Condition p repeat_back e = Unit
Condition p lose_back e = Unit

-- along the whole list, on a line
abbrev pub Conditions : Line → Past → List Call → Type 0
Conditions line p [] = Unit
Conditions line p (c ∷ calls) = Condition p c (line p.world c).event × Conditions line (next line p c) calls

-- ---- the promise

-- every one of the deliveries is these bytes
abbrev pub Copies : List ℕ → List (List ℕ) → Type 0
Copies bytes [] = Unit
Copies bytes (d ∷ deliveries) = (d ≡ bytes) × Copies bytes deliveries

-- the deliveries since a begin, the newest first, are its message and nothing else
pub record Exactly (message : List ℕ) (deliveries : List (List ℕ)) : Type 0 where
  pub long : 8 < length message → deliveries ≡ message ∷ []
  pub short : length message ≤ 8 → (1 ≤ length deliveries) × Copies (fill_to 8 message) deliveries

-- the newest event reports sent: there was a begin, and since then its message has been delivered
abbrev pub SentMeans : sender.Outcome → Begun → Type 0
SentMeans sender.quiet b = Unit
SentMeans (sender.refused number) b = Unit
SentMeans (sender.sent ticks frames) Begun.never = ⊥
SentMeans (sender.sent ticks frames) (Begun.since message n reports deliveries) = Exactly message deliveries
SentMeans (sender.failed cause ticks frames) b = Unit

-- the last accepted begin has at most one report, and exactly one once M ticks have passed
abbrev pub Reported : ℕ → Begun → Type 0
Reported limit Begun.never = Unit
Reported limit (Begun.since message ticks reports deliveries) = (reports ≤ 1) × (limit ≤ ticks → reports ≡ 1)

-- the begin, if any, has had its one report
abbrev pub HadReport : Begun → Type 0
HadReport Begun.never = Unit
HadReport (Begun.since message ticks reports deliveries) = reports ≡ 1

-- where the newest event is an accepted begin, the begin before it has had its one report
abbrev pub AgainAfter : Sort → Bool → Begun → Type 0
AgainAfter (begins message) true b = HadReport b
AgainAfter (begins message) false b = Unit
AgainAfter ticks_sender any b = Unit
AgainAfter ticks_receiver any b = Unit
AgainAfter holds_receiver any b = Unit
AgainAfter other any b = Unit

-- the last connection has at most one report, and exactly one once 4 × T × N + 21 × T ticks have passed
abbrev pub Finished : ℕ → Opened → Type 0
Finished timeout Opened.never = Unit
Finished timeout (Opened.since frames ticks reports pauses) =
    (reports ≤ 1) × (4 * timeout * frames + 21 * timeout ≤ ticks → reports ≡ 1)

-- no hold was accepted since the last opening
abbrev pub NeverHeld : Opened → Type 0
NeverHeld Opened.never = Unit
NeverHeld (Opened.since frames ticks reports pauses) = pauses ≡ 0

-- where no hold was accepted, it has its report once 4 × T × N ticks have passed
abbrev pub Unheld : ℕ → Opened → Type 0
Unheld timeout Opened.never = Unit
Unheld timeout (Opened.since frames ticks reports pauses) =
    pauses ≡ 0 → 4 * timeout * frames ≤ ticks → reports ≡ 1

-- the two clauses that speak of the newest event
abbrev pub Sent : List Event → Type 0
Sent [] = Unit
Sent (e ∷ past) = SentMeans e.sender (begun_in (e ∷ past))

abbrev pub Again : List Event → Type 0
Again [] = Unit
Again (e ∷ past) = AgainAfter (sort_of e.call) (taken e.sender) (begun_in past)

-- what holds of the events of every list of calls; limit is M, timeout the receiver's T
pub record Promise (limit timeout : ℕ) (events : List Event) : Type 0 where
  pub sent : Sent events
  pub reported : Reported limit (begun_in events)
  pub again : Again events
  pub finished : Finished timeout (opened_in events)
  pub unheld : Unheld timeout (opened_in events)

-- ---- the claim

-- on a line, for the ends that making answers, from whatever settings it takes, for every buffer of 1785 bytes and every
-- list of calls that meets some conditions
abbrev pub Promised : Line → (Past → List Call → Type 0) → Type 0
Promised line conditions =
    (gap timeout limit : ℕ) (s : Sender)
    → sender-making.make_of gap timeout limit ≡ accepted s
    → (timeout' window capacity : ℕ) (r : Receiver)
    → receiver-making.make_of timeout' window capacity ≡ accepted r
    → (buffer : List ℕ)
    → length buffer ≡ 1785
    → (calls : List Call)
    → conditions (fresh s r buffer) calls
    → Promise limit timeout' (run_of line (fresh s r buffer) calls).events

-- under the conditions above
abbrev pub Demand3On : Line → Type 0
Demand3On line = Promised line (Conditions line)

-- on the line that keeps every frame until it is heard or lost
abbrev pub Demand3 : Type 0
Demand3 = Demand3On step_of
