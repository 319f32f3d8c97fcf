-- Document 02, E6: a list of calls from a fresh sender, and what is seen of it.
use Rattle.std.specs.Prelude.{ℕ, ◌+◌, Bool, true, false, not, ◌&&◌, List, [], ◌∷◌, ◌++◌, ◌≡◌, eqb, leb, length}
use Rattle.frame.specs.Choice.{pick}
use Rattle.frame.specs.Frames.{byte_of}
use Rattle.frame.specs.declared.Frame.{Frame}
use Rattle.sender.specs.Call.{Call, begin, tick, hear, post}
use Rattle.sender.specs.Told.{Outcome, quiet, refused, sent, failed, is_refused, Told}
use Rattle.sender.specs.declared.Sender.{Sender}
use Rattle.summary.specs.Calls.{Kept, kept_of}
use Rattle.summary.specs.Counts.{cleared}

-- ---- calls

-- a call, and the bytes that it is lent for the counts
pub record Lending : Type 0 where
  pub call : Call
  pub lent : List ℕ

-- what a call showed: the frame that went out, if one did, and what was reported
pub record Event : Type 0 where
  pub call : Call
  pub emitted : List Frame
  pub outcome : Outcome

abbrev pub emitted_by : Told → List Frame
emitted_by t = pick t.emits (t.frame ∷ []) []

abbrev pub event_of : Call → Told → Event
event_of call t = record { call = call; emitted = emitted_by t; outcome = t.outcome }

-- the sender, the bytes of its counts, and the events that led there, newest first
pub record Past : Type 0 where
  pub sender : Sender
  pub counts : List ℕ
  pub events : List Event

-- E6, "a fresh sender": nothing has been called, and every count is 0
abbrev pub fresh_with : Sender → Past
fresh_with s = record { sender = s; counts = cleared; events = [] }

-- after a call: one that is refused leaves the bytes of the counts, whatever it was lent in their place
abbrev pub leaving : Past → Call → Kept → Past
leaving p call k =
    record {
      sender = k.told.next;
      counts = pick (is_refused k.told.outcome) p.counts k.counts;
      events = event_of call k.told ∷ p.events;
    }

-- what a call answers, lent these bytes, and what it leaves
abbrev pub answered : Past → Lending → Kept
answered p l = kept_of p.sender l.call l.lent

unfoldable pub next : Past → Lending → Past
next p l = leaving p l.call (answered p l)

-- a list of calls, each made where the one before it left off
unfoldable pub run_of : Past → List Lending → Past
run_of p [] = p
run_of p (l ∷ calls) = run_of (next p l) calls

-- What is asked of the calls: one that is not refused is lent the bytes of the counts, as the call before left them. One that
-- is refused may be lent anything (document 01, The line, on refused calls)
abbrev pub LentOwn : Past → List Lending → Type 0
LentOwn p [] = Unit
LentOwn p (l ∷ calls) =
    (is_refused (answered p l).told.outcome ≡ false → l.lent ≡ p.counts) × LentOwn (next p l) calls

-- ---- what is read off the events

-- whether a call is a begin, or a post
abbrev pub is_begin : Call → Bool
is_begin (begin message) = true
is_begin (tick message) = false
is_begin (hear f) = false
is_begin (post message) = false

abbrev pub is_post : Call → Bool
is_post (begin message) = false
is_post (tick message) = false
is_post (hear f) = false
is_post (post message) = true

-- Document 01, Frames, Lengths: a begin of 9 bytes or more is long
abbrev pub is_long : Call → Bool
is_long (begin message) = leb 9 (length message)
is_long (tick message) = false
is_long (hear f) = false
is_long (post message) = false

-- an accepted begin
abbrev pub begins : Event → Bool
begins e = is_begin e.call && not (is_refused e.outcome)

-- the frames that went out since the last accepted begin, its own with them, by the calls that pass a test; newest first.
-- Before any begin they are all that went out
unfoldable pub frames_since : (Call → Bool) → List Event → List Frame
frames_since among [] = []
frames_since among (e ∷ events) =
    pick (begins e) e.emitted (pick (among e.call) e.emitted [] ++ frames_since among events)

-- E6, "the history of emitted frames" since begin
abbrev pub history : List Event → List Frame
history events = frames_since (λ call. true) events

-- E6, "its frames": those that a report counts. Document 01, The sender, Post: a post is none of them
abbrev pub reported : List Event → List Frame
reported events = frames_since (λ call. not (is_post call)) events

-- the last accepted begin was of a long message; false before any
unfoldable pub long_in : List Event → Bool
long_in [] = false
long_in (e ∷ events) = pick (begins e) (is_long e.call) (long_in events)

-- Document 01, Frames, kind 1: an information frame, and one with a number
abbrev pub is_information : Frame → Bool
is_information f = eqb f.kind 1

abbrev pub is_numbered : ℕ → Frame → Bool
is_numbered number f = is_information f && eqb (byte_of f 0) number

-- how many frames of a list pass a test
unfoldable pub count_if : (Frame → Bool) → List Frame → ℕ
count_if test [] = 0
count_if test (f ∷ frames) = pick (test f) 1 0 + count_if test frames

-- a report of so many frames
abbrev pub Reports : Outcome → ℕ → Type 0
Reports quiet frames = ⊥
Reports (refused number) frames = ⊥
Reports (sent ticks counted) frames = counted ≡ frames
Reports (failed cause ticks counted) frames = counted ≡ frames

-- the newest call reported so many frames, and emitted so many itself
abbrev pub JustReported : List Event → ℕ → Type 0
JustReported [] frames = ⊥
JustReported (e ∷ events) frames = Reports e.outcome frames

abbrev pub just_emitted : List Event → ℕ
just_emitted [] = 0
just_emitted (e ∷ events) = length e.emitted
