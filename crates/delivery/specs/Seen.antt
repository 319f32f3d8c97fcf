-- What a list of events shows: the words that document 01, The line, gives for demand 3, and the holds of document 02, E2.
-- Nothing here looks at an end's state.
use Rattle.std.specs.Prelude.{ℕ, ◌+◌, Bool, true, false, not, ◌&&◌, List, [], ◌∷◌, ◌++◌, eqb, take}
use Rattle.frame.specs.Choice.{pick}
use Rattle.frame.specs.Frames.{byte_of}
use Rattle.frame.specs.declared.Frame.{Frame}
use Rattle.receiver.specs.Told as receiver
use Rattle.sender.specs.Told as sender
use Rattle.transport.specs.Step.{sender_refused, was_refused}
use Rattle.transport.specs.World.{Call, Given, nobody, to_sender, to_receiver, Event}
use Rattle.transport.specs.World.{begin, sender_tick, receiver_tick, hold, resume}
use Rattle.transport.specs.World.{hear_forward, repeat_forward, lose_forward, hear_back, repeat_back, lose_back}

-- ---- the calls, by what the words below ask of them

pub data Sort : Type 0 where
  begins : (message : List ℕ) → Sort
  ticks_sender : Sort
  ticks_receiver : Sort
  holds_receiver : Sort
  other : Sort

abbrev pub sort_of : Call → Sort
sort_of (begin message) = begins message
sort_of (sender_tick message) = ticks_sender
sort_of receiver_tick = ticks_receiver
sort_of hold = holds_receiver
sort_of resume = other
sort_of (hear_forward buffer) = other
sort_of (repeat_forward buffer) = other
sort_of lose_forward = other
sort_of hear_back = other
sort_of repeat_back = other
sort_of lose_back = other

-- ---- the sender's side

-- a begin or a tick of the sender counts unless it was refused
abbrev pub taken : sender.Outcome → Bool
taken o = not (sender_refused o)

-- one where the test passes, else none
abbrev pub one : Bool → ℕ
one true = 1
one false = 0

-- the sender's ticks in an event, none or one: a refused tick is none
abbrev pub sender_ticks_by : Sort → Bool → ℕ
sender_ticks_by (begins message) accepted = 0
sender_ticks_by ticks_sender accepted = one accepted
sender_ticks_by ticks_receiver accepted = 0
sender_ticks_by holds_receiver accepted = 0
sender_ticks_by other accepted = 0

-- the sender's reports in an event, none or one
abbrev pub sender_reports : sender.Outcome → ℕ
sender_reports sender.quiet = 0
sender_reports (sender.refused number) = 0
sender_reports (sender.sent ticks frames) = 1
sender_reports (sender.failed cause ticks frames) = 1

-- The deliveries in an event, none or one. A long one is read from the lent buffer once the hearing has ended, as far as the
-- length that is reported; a short one stands in the answer.
abbrev pub deliveries_by : receiver.Outcome → List ℕ → List ℕ → List (List ℕ)
deliveries_by receiver.quiet bytes lent = []
deliveries_by (receiver.refused number) bytes lent = []
deliveries_by (receiver.delivered length) bytes lent = take length lent ∷ []
deliveries_by (receiver.failed cause) bytes lent = []
deliveries_by receiver.short bytes lent = bytes ∷ []

-- What has been seen since the last accepted begin: its message, the sender's ticks, its reports, the deliveries of both
-- kinds, the newest first. Before the first accepted begin, nothing.
pub data Begun : Type 0 where
  never : Begun
  since : (message : List ℕ) (ticks reports : ℕ) (deliveries : List (List ℕ)) → Begun

abbrev pub further : Begun → ℕ → ℕ → List (List ℕ) → Begun
further never ticks reports deliveries = never
further (since message ticks₀ reports₀ deliveries₀) ticks reports deliveries =
    since message (ticks₀ + ticks) (reports₀ + reports) (deliveries ++ deliveries₀)

-- by the sort of call, whether the sender took it, and what is counted of it
abbrev pub begun_by : Sort → Bool → Begun → Begun
begun_by (begins message) true counted = since message 0 0 []
begun_by (begins message) false counted = counted
begun_by ticks_sender accepted counted = counted
begun_by ticks_receiver accepted counted = counted
begun_by holds_receiver accepted counted = counted
begun_by other accepted counted = counted

unfoldable pub begun_after : Event → Begun → Begun
begun_after e b =
    let sort = sort_of e.call in
    let accepted = taken e.sender in
    let deliveries = deliveries_by e.receiver e.bytes e.lent in
    begun_by sort accepted (further b (sender_ticks_by sort accepted) (sender_reports e.sender) deliveries)

unfoldable pub begun_in : List Event → Begun
begun_in [] = never
begun_in (e ∷ past) = begun_after e (begun_in past)

-- ---- the receiver's side

-- the receiver's ticks in an event, none or one; none is ever refused
abbrev pub receiver_ticks_by : Sort → ℕ
receiver_ticks_by (begins message) = 0
receiver_ticks_by ticks_sender = 0
receiver_ticks_by ticks_receiver = 1
receiver_ticks_by holds_receiver = 0
receiver_ticks_by other = 0

-- the accepted holds in an event, none or one: a refused one is none
abbrev pub pauses_by : Sort → receiver.Outcome → ℕ
pauses_by (begins message) o = 0
pauses_by ticks_sender o = 0
pauses_by ticks_receiver o = 0
pauses_by holds_receiver o = one (not (was_refused o))
pauses_by other o = 0

-- a connection's report: delivered, or failed; a short delivery is none
abbrev pub receiver_reports : receiver.Outcome → ℕ
receiver_reports receiver.quiet = 0
receiver_reports (receiver.refused number) = 0
receiver_reports (receiver.delivered length) = 1
receiver_reports (receiver.failed cause) = 1
receiver_reports receiver.short = 0

-- What has been seen since the last opening of a connection: its N, the receiver's ticks, its reports, the accepted holds.
pub data Opened : Type 0 where
  never : Opened
  since : (frames ticks reports pauses : ℕ) → Opened

-- no connection is open: none has been opened, or the last one has had its report
abbrev pub idle : Opened → Bool
idle never = true
idle (since frames ticks reports pauses) = not (eqb reports 0)

-- the answer to an announcement that is taken: LM_ACK with start 1
abbrev pub first_ack : List Frame → Bool
first_ack [] = false
first_ack (f ∷ more) = eqb f.kind 2 && eqb (byte_of f 0) 1

-- the receiver heard an announcement, frame 0
abbrev pub announces : Given → Bool
announces nobody = false
announces (to_sender f) = false
announces (to_receiver f) = eqb f.kind 1 && eqb (byte_of f 0) 0

-- the number of frames that it announced
abbrev pub announced : Given → ℕ
announced nobody = 0
announced (to_sender f) = 0
announced (to_receiver f) = byte_of f 1

abbrev pub later : Opened → ℕ → ℕ → ℕ → Opened
later never ticks reports pauses = never
later (since frames ticks₀ reports₀ pauses₀) ticks reports pauses =
    since frames (ticks₀ + ticks) (reports₀ + reports) (pauses₀ + pauses)

-- A frame 0 that is answered with LM_ACK 1 opens a connection, unless one is open; all else counts for the one before.
unfoldable pub opened_after : Event → Opened → Opened
opened_after e o =
    let sort = sort_of e.call in
    pick (announces e.given && first_ack e.emitted && idle o) (since (announced e.given) 0 0 0)
    (later o (receiver_ticks_by sort) (receiver_reports e.receiver) (pauses_by sort e.receiver))

unfoldable pub opened_in : List Event → Opened
opened_in [] = never
opened_in (e ∷ past) = opened_after e (opened_in past)

-- ---- what the conditions ask

-- the receiver heard a frame, and the hearing was not refused
abbrev pub listened : Given → receiver.Outcome → Bool
listened nobody o = false
listened (to_sender f) o = false
listened (to_receiver f) o = not (was_refused o)
