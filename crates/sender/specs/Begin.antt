-- Document 01, The sender: Begin and Post.
use Rattle.std.specs.Prelude.{ℕ, Bool, List, leb, length, get_or}
use Rattle.frame.specs.Choice.{pick}
use Rattle.frame.specs.Count.{frame_count_of, within}
use Rattle.frame.specs.Frames.{announcement_of, sm_rm_of, sm_urm_of}
use Rattle.sender.specs.State.{opening_with, short_with, in_phase}
use Rattle.sender.specs.Told.{Told, refusing, emitting}
use Rattle.sender.specs.declared.Phase.{Phase}
use Rattle.sender.specs.declared.Phase.TheVariants.{Idle, Opening, Sending, Waiting, Short}
use Rattle.sender.specs.declared.Sender.{Sender}
use Rattle.sender.specs.declared.Transfer.{Transfer}

-- Refusals, begin and post, number 2: a message has a byte at least, and at most as many as go (1785 at begin, 8 at post)
abbrev pub length_fits : List ℕ → ℕ → Bool
length_fits message most = within 1 (length message) most

-- Begin: what is known of a message that goes in so many frames. No tick has passed, and the frame that the begin itself
-- emits is counted
abbrev pub begun_with : List ℕ → ℕ → Transfer
begun_with message frames =
    record { length = length message; frames = frames; first = get_or message 0 0; age = 0; emitted = 1 }

-- Begin, long: the announcement goes out. The transfer is Opening, so no LM_ACK has been taken; nothing waited or missed
unfoldable pub begin_long : Sender → List ℕ → Told
begin_long s message =
    emitting (in_phase s (opening_with (begun_with message (frame_count_of (length message))) 0 0))
    (announcement_of (frame_count_of (length message)) (length message))

-- Begin, short: SM_RM goes out, and the transfer is Short with nothing waited; the message goes in one frame
unfoldable pub begin_short : Sender → List ℕ → Told
begin_short s message = emitting (in_phase s (short_with (begun_with message 1) 0)) (sm_rm_of message)

-- Frames, Lengths: up to 8 bytes go short, more go long
unfoldable pub begin_idle : Sender → List ℕ → Told
begin_idle s message =
    pick (length_fits message 1785)
    (pick (leb (length message) 8) (begin_short s message) (begin_long s message))
    (refusing s 2)

-- Refusals, begin: a transfer that is going on (3) is looked at before the length (2)
unfoldable pub begin_phase : Sender → Phase → List ℕ → Told
begin_phase s Idle message = begin_idle s message
begin_phase s (Opening x) message = refusing s 3
begin_phase s (Sending x) message = refusing s 3
begin_phase s (Waiting x) message = refusing s 3
begin_phase s (Short x) message = refusing s 3

-- a begin, lent a message
unfoldable pub begin_of : Sender → List ℕ → Told
begin_of s message = begin_phase s s.phase message

-- Post: one SM_URM in every phase; neither the state nor the frames counted change
unfoldable pub post_of : Sender → List ℕ → Told
post_of s message = pick (length_fits message 8) (emitting s (sm_urm_of message)) (refusing s 2)
