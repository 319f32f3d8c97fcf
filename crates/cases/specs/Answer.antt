-- What the ends answer to a question, in numbers, by their definitions.
use Rattle.std.specs.Prelude.{ℕ, zero, suc, ◌*◌, Bool, List, [], ◌∷◌, ◌++◌, eqb, length, set, replicate}
use Rattle.frame.specs.Result.{Result, accepted, refused}
use Rattle.frame.specs.Choice.{pick}
use Rattle.frame.specs.Count.{frame_count_of}
use Rattle.frame.specs.Frames.{byte_of, announcement_of, lm_ack_of}
use Rattle.frame.specs.declared.Frame.{Frame}
use Rattle.sender.specs.Begin as sender-begin
use Rattle.sender.specs.Hear as sender-hear
use Rattle.sender.specs.Make as sender-make
use Rattle.sender.specs.Tick as sender-tick
use Rattle.sender.specs.Told as sender
use Rattle.sender.specs.declared.Sender.{Sender}
use Rattle.receiver.specs.Hear as receiver-hear
use Rattle.receiver.specs.Make as receiver-making
use Rattle.receiver.specs.State.{opened, moved, in_phase}
use Rattle.receiver.specs.Tick as receiver-tick
use Rattle.receiver.specs.Told as receiver
use Rattle.receiver.specs.declared.Misses.TheVariants.{NoneAfterFrame}
use Rattle.receiver.specs.declared.Phase.{Phase}
use Rattle.receiver.specs.declared.Phase.TheVariants.{Open}
use Rattle.receiver.specs.declared.Receiver.{Receiver}
use Rattle.identifier.specs.Answer as parts
use Rattle.cases.specs.Row.{Question, begun, acknowledged, sender_silence, receiver_silence, joined, last_frame, last_frame_with, refusal, identifier, short, announces, at}

-- a frame by its kind and its d0: an information frame's number, LM_ACK's start, LM_NACK's cause
abbrev pub brief : Frame → List ℕ
brief f = f.kind ∷ byte_of f 0 ∷ []

-- a begin's frame: SM_RM shows that the message goes short, an information frame its d0 to d3
unfoldable pub begin_frame : Frame → List ℕ
begin_frame f =
    pick (eqb f.kind 5) short
    (pick (eqb f.kind 1) (announces (byte_of f 0) (byte_of f 1) (byte_of f 2) (byte_of f 3)) (brief f))

-- the frame of a call's answer, if one goes out
abbrev pub if_emitted : Bool → List ℕ → List ℕ
if_emitted emits shown = pick emits shown []

-- the number of a refusal, else what the call shows
unfoldable pub unless_refused : sender.Outcome → List ℕ → List ℕ
unless_refused sender.quiet shown = shown
unless_refused (sender.refused number) shown = refusal number
unless_refused (sender.sent ticks frames) shown = shown
unless_refused (sender.failed cause ticks frames) shown = shown

-- what a begin shows: a refusal, a short message, an announcement
abbrev pub shown_begin : sender.Told → List ℕ
shown_begin t = unless_refused t.outcome (if_emitted t.emits (begin_frame t.frame))

-- what a hearing of the sender shows: a refusal, or its frame
abbrev pub shown_hearing : sender.Told → List ℕ
shown_hearing t = unless_refused t.outcome (if_emitted t.emits (brief t.frame))

-- what a sender shows at ticks in silence, counted from this tick on, so many of them: each frame with the tick at which
-- it goes out. Every tick is lent the message.
unfoldable pub sender_ticks : Sender → List ℕ → ℕ → ℕ → List ℕ
sender_ticks s message tick zero = []
sender_ticks s message tick (suc ticks) =
    if_emitted (sender-tick.tick_of s message).emits (at tick (brief (sender-tick.tick_of s message).frame))
    ++ sender_ticks (sender-tick.tick_of s message).next message (suc tick) ticks

-- a sender begins a message, at tick 0, and then hears nothing
unfoldable pub sender_in_silence : Sender → List ℕ → ℕ → List ℕ
sender_in_silence s message ticks =
    if_emitted (sender-begin.begin_of s message).emits (at 0 (brief (sender-begin.begin_of s message).frame))
    ++ sender_ticks (sender-begin.begin_of s message).next message 1 ticks

-- what a receiver shows at ticks in silence, counted from this tick on, so many of them
unfoldable pub receiver_ticks : Receiver → ℕ → ℕ → List ℕ
receiver_ticks r tick zero = []
receiver_ticks r tick (suc ticks) =
    if_emitted (receiver-tick.tick_of r).emits (at tick (brief (receiver-tick.tick_of r).frame))
    ++ receiver_ticks (receiver-tick.tick_of r).next (suc tick) ticks

-- a receiver hears the announcement of N and L, lent a buffer, and then nothing
unfoldable pub receiver_in_silence : Receiver → ℕ → ℕ → List ℕ → ℕ → List ℕ
receiver_in_silence r frames length buffer ticks =
    receiver_ticks (receiver-hear.hear_of r (announcement_of frames length) buffer).told.next 1 ticks

-- what the end that making answers shows; the number of the refusal, where the settings are refused
unfoldable pub of_sender : Result Sender → (Sender → List ℕ) → List ℕ
of_sender (accepted s) shows = shows s
of_sender (refused number) shows = refusal number

unfoldable pub of_receiver : Result Receiver → (Receiver → List ℕ) → List ℕ
of_receiver (accepted r) shows = shows r
of_receiver (refused number) shows = refusal number

-- what joining parts shows: the identifier, or the number of the refusal
unfoldable pub shown_joined : Result ℕ → List ℕ
shown_joined (accepted number) = identifier number
shown_joined (refused number) = refusal number

-- the number of a refusal, else what the call shows, and behind it the length of a long delivery
unfoldable pub with_report : receiver.Outcome → List ℕ → List ℕ
with_report receiver.quiet shown = shown
with_report (receiver.refused number) shown = refusal number
with_report (receiver.delivered length) shown = shown ++ length ∷ []
with_report (receiver.failed cause) shown = shown
with_report receiver.short shown = shown

-- what a hearing of the receiver shows: a refusal, or its frame and a delivery
abbrev pub shown_heard : receiver.Told → List ℕ
shown_heard t = with_report t.outcome (if_emitted t.emits (brief t.frame))

-- a message's last frame, as the sender writes it
abbrev pub last_of : List ℕ → Frame
last_of message = sender-tick.information_at (frame_count_of (length message)) message

-- a frame with another byte at this place, counted from d0
abbrev pub with_byte : Frame → ℕ → ℕ → Frame
with_byte f place byte = record { kind = f.kind; bytes = set f.bytes place byte }

-- a connection of this length as the hearings of all frames but the last leave it, where one window holds them all
abbrev pub before_last : ℕ → Phase
before_last length = let frames = frame_count_of length in Open (moved (opened frames length frames) frames frames 0 NoneAfterFrame)

-- and what a receiver shows with it at a frame, lent a buffer
abbrev pub shown_before_last : Receiver → ℕ → Frame → List ℕ → List ℕ
shown_before_last r length f buffer = shown_heard (receiver-hear.hear_of (in_phase r (before_last length)) f buffer).told

-- a message or a buffer of this length: zeros
abbrev pub zeros : ℕ → List ℕ
zeros length = replicate length 0

-- The answer to a question, computed with one end and one message. What the question leaves open is here: G 1, T 10 and
-- M 100 at the sender, T 10, C 255 and K 1785 at the receiver, L 9 or, where N is asked for, 7 N, every byte 0, and 1 for
-- the one that is replaced.
-- `Claim` says the same of all that a question leaves open; proofs/General.antt shows that it makes no difference.
unfoldable pub answer_of : Question → List ℕ
answer_of (begun length) =
    of_sender (sender-make.make_of 1 10 100) (λ s. shown_begin (sender-begin.begin_of s (zeros length)))
answer_of (acknowledged frames start count) =
    of_sender (sender-make.make_of 1 10 100)
    (λ s. shown_hearing (sender-hear.hear_of (sender-begin.begin_of s (zeros (7 * frames))).next (lm_ack_of start count)))
answer_of (sender_silence timeout limit ticks) =
    of_sender (sender-make.make_of 1 timeout limit) (λ s. sender_in_silence s (zeros 9) ticks)
answer_of (receiver_silence timeout frames ticks) =
    of_receiver (receiver-making.make_of timeout 255 1785) (λ r. receiver_in_silence r frames (7 * frames) (zeros 1785) ticks)
answer_of (joined p pf ps sa) =
    shown_joined (parts.join_of (record { p = p; edp = 0; dp = 0; pf = pf; ps = ps; sa = sa }))
answer_of (last_frame length) =
    of_receiver (receiver-making.make_of 10 255 1785)
    (λ r. shown_before_last r length (last_of (zeros length)) (zeros 1785))
answer_of (last_frame_with length place) =
    of_receiver (receiver-making.make_of 10 255 1785)
    (λ r. shown_before_last r length (with_byte (last_of (zeros length)) place 1) (zeros 1785))
