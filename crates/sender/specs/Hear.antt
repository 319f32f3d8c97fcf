-- Document 01, The sender: Hearing; document 02, E2, for the LM_ACK of a hold.
use Rattle.std.specs.Prelude.{ℕ, ◌+◌, ◌-◌, min, Bool, ◌&&◌, ◌||◌, eqb, ltb}
use Rattle.frame.specs.Choice.{pick}
use Rattle.frame.specs.Frames.{byte_of, word_at}
use Rattle.frame.specs.Reading.{longest, read_of}
use Rattle.frame.specs.Result.{Result, accepted, refused}
use Rattle.frame.specs.declared.Parsed.{Parsed}
use Rattle.frame.specs.declared.Frame.{Frame}
use Rattle.sender.specs.State.{in_phase}
use Rattle.sender.specs.Told.{Told, refusing, silently, failing_with, failing, finishing}
use Rattle.sender.specs.declared.Phase.{Phase}
use Rattle.sender.specs.declared.Phase.TheVariants.{Idle, Opening, Sending, Waiting, Short}
use Rattle.sender.specs.declared.Sender.{Sender}
use Rattle.sender.specs.declared.Transfer.{Transfer}

-- Hearing, LM_ACK: the last number of the window of count frames from start on, N where the window would go past it
abbrev pub window_last : ℕ → ℕ → ℕ → ℕ
window_last start count frames = min (start + count - 1) frames

-- Hearing, LM_ACK: Sending that window, its first frame next and the gap from 0, with the last start taken and the misses
abbrev pub sending_from : Transfer → ℕ → ℕ → ℕ → ℕ → Phase
sending_from t taken first last misses =
    Sending (record { transfer = t; start = taken; next = first; last = last; gap = 0; misses = misses })

-- Hearing, LM_ACK, taken: the window that it asks for is sent, and its start is the last one taken
unfoldable pub taking : Sender → Transfer → ℕ → ℕ → ℕ → Told
taking s t start count misses =
    silently (in_phase s (sending_from t start start (window_last start count t.frames) misses))

-- Hearing, LM_ACK: a start or a count of 0 asks for nothing
abbrev pub is_void : ℕ → ℕ → Bool
is_void start count = eqb start 0 || eqb count 0

-- Hearing, LM_ACK, first in every phase: one that asks for nothing is ignored, one that starts above N fails the transfer
-- with NACK 4; then comes what the phase does
abbrev pub unless_bad : Sender → Transfer → ℕ → ℕ → Told → Told
unless_bad s t start count otherwise =
    pick (is_void start count) (silently s)
    (pick (ltb t.frames start) (failing_with s t 4) otherwise)

-- Hearing, LM_ACK, Opening: a window from 1 on is taken, any other ignored. No start was taken before it: the misses are 0
unfoldable pub ack_opening : Sender → Transfer → ℕ → ℕ → Told
ack_opening s t start count =
    unless_bad s t start count (pick (eqb start 1) (taking s t start count 0) (silently s))

-- Hearing, LM_ACK: a start that was not the last one taken clears the misses; the same start again keeps them
abbrev pub misses_at : ℕ → ℕ → ℕ → ℕ
misses_at start taken misses = pick (eqb start taken) misses 0

-- Document 02, E2: the LM_ACK of a hold asks for one frame, the one before the last start taken (that it is not frame 0
-- has been tested by then)
abbrev pub asks_to_hold : ℕ → ℕ → ℕ → Bool
asks_to_hold taken start count = eqb (start + 1) taken && eqb count 1

-- E2: that frame alone is sent, from a gap count of 0; the last start taken stays, and the misses are 0
unfoldable pub taking_hold : Sender → Transfer → ℕ → ℕ → Told
taking_hold s t taken start = silently (in_phase s (sending_from t taken start start 0))

-- Hearing, LM_ACK, Sending and Waiting: a window that starts before the last one taken is old and is ignored, unless it is
-- a hold's
unfoldable pub ack_below : Sender → Transfer → ℕ → ℕ → ℕ → Told
ack_below s t taken start count =
    pick (asks_to_hold taken start count) (taking_hold s t taken start) (silently s)

-- Hearing, LM_ACK, Sending and Waiting: by the last start taken
unfoldable pub ack_window : Sender → Transfer → ℕ → ℕ → ℕ → ℕ → Told
ack_window s t taken misses start count =
    unless_bad s t start count
    (pick (ltb start taken) (ack_below s t taken start count)
    (taking s t start count (misses_at start taken misses)))

-- Hearing, LM_ACK, by the phase: start and count were heard; outside a long transfer it is ignored
unfoldable pub hear_ack : Sender → Phase → ℕ → ℕ → Told
hear_ack s Idle start count = silently s
hear_ack s (Opening x) start count = ack_opening s x.transfer start count
hear_ack s (Sending x) start count = ack_window s x.transfer x.start x.misses start count
hear_ack s (Waiting x) start count = ack_window s x.transfer x.start x.misses start count
hear_ack s (Short x) start count = silently s

-- Hearing, LM_NACK: it ends a long transfer and is reported as cause 1, whatever cause it names; a short one ignores it
unfoldable pub hear_nack : Sender → Phase → Told
hear_nack s Idle = silently s
hear_nack s (Opening x) = failing s x.transfer 1
hear_nack s (Sending x) = failing s x.transfer 1
hear_nack s (Waiting x) = failing s x.transfer 1
hear_nack s (Short x) = silently s

-- Hearing, EndofACK: it names the N and the L of the transfer
abbrev pub is_whole : Transfer → ℕ → ℕ → Bool
is_whole t frames length = eqb frames t.frames && eqb length t.length

-- Hearing, EndofACK: then the message is sent; another is ignored
unfoldable pub if_whole : Sender → Transfer → ℕ → ℕ → Told
if_whole s t frames length = pick (is_whole t frames length) (finishing s t) (silently s)

-- Hearing, EndofACK, by the phase: N and L were heard; Opening ignores it, since no frame of the message has gone out
unfoldable pub hear_end : Sender → Phase → ℕ → ℕ → Told
hear_end s Idle frames length = silently s
hear_end s (Opening x) frames length = silently s
hear_end s (Sending x) frames length = if_whole s x.transfer frames length
hear_end s (Waiting x) frames length = if_whole s x.transfer frames length
hear_end s (Short x) frames length = silently s

-- Hearing, SM_ACK: it names the first byte of the message, and the message is sent; another is ignored
unfoldable pub if_first : Sender → Transfer → ℕ → Told
if_first s t first = pick (eqb first t.first) (finishing s t) (silently s)

-- Hearing, SM_ACK, by the phase: its byte was heard; only Short awaits it
unfoldable pub hear_short_ack : Sender → Phase → ℕ → Told
hear_short_ack s Idle first = silently s
hear_short_ack s (Opening x) first = silently s
hear_short_ack s (Sending x) first = silently s
hear_short_ack s (Waiting x) first = silently s
hear_short_ack s (Short x) first = if_first s x.transfer first

-- Hearing, by the kind that was read. Refusals, hearing, number 7: a kind that only a receiver takes
unfoldable pub hear_kind : Sender → Frame → Parsed → Told
hear_kind s f parsed =
    pick (eqb parsed.kind 2) (hear_ack s s.phase (byte_of f 0) (byte_of f 1))
    (pick (eqb parsed.kind 3) (hear_nack s s.phase)
    (pick (eqb parsed.kind 4) (hear_end s s.phase (byte_of f 0) (word_at f 1 2))
    (pick (eqb parsed.kind 6) (hear_short_ack s s.phase (byte_of f 0)) (refusing s 7))))

-- Refusals, hearing: a frame that cannot be read (6) is refused before its kind is looked at (7)
unfoldable pub hear_read : Sender → Frame → Result Parsed → Told
hear_read s f (accepted parsed) = hear_kind s f parsed
hear_read s f (refused number) = refusing s number

-- a hearing of a frame; a sender takes no information frame, so that it awaits no message
unfoldable pub hear_of : Sender → Frame → Told
hear_of s f = hear_read s f (read_of f longest)
