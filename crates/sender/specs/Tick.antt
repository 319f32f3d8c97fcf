-- Document 01, The sender: Tick.
use Rattle.std.specs.Prelude.{ℕ, ◌+◌, Bool, true, List, eqb, leb, length}
use Rattle.frame.specs.Choice.{pick}
use Rattle.frame.specs.Count.{increment_of}
use Rattle.frame.specs.Frames.{announcement_of, information_of, part_from, sm_rm_of}
use Rattle.frame.specs.declared.Frame.{Frame}
use Rattle.sender.specs.State.{aged, counted, opening_with, sending_with, waiting_with, short_with, in_phase}
use Rattle.sender.specs.Told.{Told, refusing, silently, emitting, failing_with, failing}
use Rattle.sender.specs.declared.Announced.{Announced}
use Rattle.sender.specs.declared.Awaited.{Awaited}
use Rattle.sender.specs.declared.Phase.{Phase}
use Rattle.sender.specs.declared.Phase.TheVariants.{Idle, Opening, Sending, Waiting, Short}
use Rattle.sender.specs.declared.Sender.{Sender}
use Rattle.sender.specs.declared.Single.{Single}
use Rattle.sender.specs.declared.Streamed.{Streamed}
use Rattle.sender.specs.declared.Transfer.{Transfer}

-- A state that no calls make may be past M, T, G or the third miss; it does what is due there.

-- Tick, age: a transfer that comes to M has failed with cause 3; a younger one goes on as its phase says. A long transfer
-- fails with a NACK and a short one without: each phase says how.
unfoldable pub unless_over : Sender → Transfer → (Transfer → ℕ → Told) → Told → Told
unless_over s t fails otherwise =
    pick (leb s.settings.limit (increment_of t.age)) (fails (aged t) 3) otherwise

-- a count that grows by one: what is due at its limit, and what goes on short of it
unfoldable pub at_limit : ℕ → ℕ → Told → Told → Told
at_limit limit count due on = pick (leb limit (increment_of count)) due on

-- Tick, Opening and Waiting: a miss. The third ends the transfer with NACK 2; at an earlier one a frame goes out again
unfoldable pub unless_third : Sender → Transfer → ℕ → Told → Told
unless_third s t misses again = pick (leb 3 (increment_of misses)) (failing_with s (aged t) 2) again

-- Tick, Opening and Waiting: the wait that comes to T is a miss
abbrev pub at_timeout : Sender → Transfer → ℕ → ℕ → Told → Told → Told
at_timeout s t wait misses again on =
    at_limit s.settings.timeout wait (unless_third s t misses again) on

-- ---- Opening

-- short of T: a tick more was waited
abbrev pub opening_on : Sender → Announced → Told
opening_on s x =
    silently (in_phase s (opening_with (aged x.transfer) (increment_of x.wait) x.misses))

-- at T, before the third miss: the announcement again; one more miss, and the wait from 0
abbrev pub opening_again : Sender → Announced → Told
opening_again s x =
    emitting (in_phase s (opening_with (counted (aged x.transfer)) 0 (increment_of x.misses)))
    (announcement_of x.transfer.frames x.transfer.length)

-- Tick, Opening
unfoldable pub tick_opening : Sender → Announced → Told
tick_opening s x =
    unless_over s x.transfer (failing_with s)
    (at_timeout s x.transfer x.wait x.misses (opening_again s x) (opening_on s x))

-- ---- Sending

-- Frames, information: the frame of this number of the lent message
abbrev pub information_at : ℕ → List ℕ → Frame
information_at number message = information_of number (part_from number message)

-- the window has gone out: Waiting, with nothing waited
abbrev pub waiting_after : Streamed → Transfer → Phase
waiting_after x t =
    Waiting (record { transfer = t; start = x.start; last = x.last; wait = 0; misses = x.misses })

-- the phase after a frame of the window: Waiting after its last, else the frame after it is next, the gap from 0
unfoldable pub after_frame : Streamed → Phase
after_frame x =
    pick (leb x.last x.next) (waiting_after x (counted (aged x.transfer)))
    (sending_with x (counted (aged x.transfer)) (x.next + 1) 0)

-- at G: the window's next frame
abbrev pub sending_next : Sender → Streamed → List ℕ → Told
sending_next s x message = emitting (in_phase s (after_frame x)) (information_at x.next message)

-- short of G: the gap is a tick longer
abbrev pub sending_on : Sender → Streamed → Told
sending_on s x =
    silently (in_phase s (sending_with x (aged x.transfer) x.next (increment_of x.gap)))

-- Tick, Sending
unfoldable pub tick_sending : Sender → Streamed → List ℕ → Told
tick_sending s x message =
    unless_over s x.transfer (failing_with s)
    (at_limit s.settings.gap x.gap (sending_next s x message) (sending_on s x))

-- ---- Waiting

-- short of T: a tick more was waited
abbrev pub waiting_on : Sender → Awaited → Told
waiting_on s x =
    silently (in_phase s (waiting_with x (aged x.transfer) (increment_of x.wait) x.misses))

-- at T, before the third miss: the last frame of the window again; one more miss, and the wait from 0
abbrev pub waiting_again : Sender → Awaited → List ℕ → Told
waiting_again s x message =
    emitting (in_phase s (waiting_with x (counted (aged x.transfer)) 0 (increment_of x.misses)))
    (information_at x.last message)

-- Tick, Waiting
unfoldable pub tick_waiting : Sender → Awaited → List ℕ → Told
tick_waiting s x message =
    unless_over s x.transfer (failing_with s)
    (at_timeout s x.transfer x.wait x.misses (waiting_again s x message) (waiting_on s x))

-- ---- Short

-- short of T: a tick more was waited
abbrev pub short_on : Sender → Single → Told
short_on s x = silently (in_phase s (short_with (aged x.transfer) (increment_of x.wait)))

-- at T: SM_RM again, and the wait from 0. No miss is counted: it goes on so until M
abbrev pub short_again : Sender → Single → List ℕ → Told
short_again s x message =
    emitting (in_phase s (short_with (counted (aged x.transfer)) 0)) (sm_rm_of message)

-- Tick, Short
unfoldable pub tick_short : Sender → Single → List ℕ → Told
tick_short s x message =
    unless_over s x.transfer (failing s)
    (at_limit s.settings.timeout x.wait (short_again s x message) (short_on s x))

-- ---- a tick

-- Tick, by the phase; an Idle sender does nothing
unfoldable pub tick_phase : Sender → Phase → List ℕ → Told
tick_phase s Idle message = silently s
tick_phase s (Opening x) message = tick_opening s x
tick_phase s (Sending x) message = tick_sending s x message
tick_phase s (Waiting x) message = tick_waiting s x message
tick_phase s (Short x) message = tick_short s x message

-- Refusals, sender tick, number 4: what is lent has the begun length, except where no transfer is going on
unfoldable pub lent_to : Phase → List ℕ → Bool
lent_to Idle message = true
lent_to (Opening x) message = eqb (length message) x.transfer.length
lent_to (Sending x) message = eqb (length message) x.transfer.length
lent_to (Waiting x) message = eqb (length message) x.transfer.length
lent_to (Short x) message = eqb (length message) x.transfer.length

-- a tick, lent a message
unfoldable pub tick_of : Sender → List ℕ → Told
tick_of s message = pick (lent_to s.phase message) (tick_phase s s.phase message) (refusing s 4)
