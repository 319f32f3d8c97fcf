-- What the receiver does at each frame heard. Places are items of document 01, The receiver, unless another part is named.
use Rattle.std.specs.Prelude.{ℕ, ◌+◌, ◌-◌, ◌*◌, Bool, false, not, ◌&&◌, List, eqb, leb, ltb, length, drop}
use Rattle.std.proofs.Math.Seq.{paste}
use Rattle.frame.specs.Choice.{pick}
use Rattle.frame.specs.Count.{frame_count_of, within}
use Rattle.frame.specs.Frames.{byte_of, word_at, carried, lm_ack_of, lm_nack_of, end_of_ack_of, sm_ack_of}
use Rattle.frame.specs.Reading.{longest, read_of}
use Rattle.frame.specs.Result.{Result, accepted, refused}
use Rattle.frame.specs.declared.Frame.{Frame}
use Rattle.frame.specs.declared.Parsed.{Parsed}
use Rattle.receiver.specs.State.{opened, moved, in_phase}
use Rattle.receiver.specs.Told.{Told, Heard, heard, refusing, silently, emitting, delivering, failing_with, failing, short_with, short_only}
use Rattle.receiver.specs.Window.{window_of, asking}
use Rattle.receiver.specs.declared.Connection.{Connection}
use Rattle.receiver.specs.declared.Delivery.{Delivery}
use Rattle.receiver.specs.declared.Misses.TheVariants.{NoneAfterAck, NoneAfterFrame}
use Rattle.receiver.specs.declared.Phase.{Phase}
use Rattle.receiver.specs.declared.Phase.TheVariants.{Idle, Done, Open}
use Rattle.receiver.specs.declared.Receiver.{Receiver}

-- ---- frame 0

-- "Frame 0, Idle", its first condition: the length is one of a long message, and the number of frames is that of this length
abbrev pub announces_well : ℕ → ℕ → Bool
announces_well frames length = within 9 length 1785 && eqb frames (frame_count_of length)

-- "Frame 0, Idle", where nothing speaks against it: a new connection, whose first window has as many frames as C and N both
-- allow, and the LM_ACK that asks for it. It takes the place of the delivery that was remembered.
abbrev pub opening : Receiver → ℕ → ℕ → Told
opening r frames length =
    let last = window_of r.settings 1 frames in
    emitting (in_phase r (Open (opened frames length last))) (lm_ack_of 1 last)

-- "Frame 0, Idle": a bad announcement draws NACK 5, a good one that is over the capacity NACK 1; neither changes the state
unfoldable pub announce_idle : Receiver → ℕ → ℕ → Told
announce_idle r frames length =
    pick (announces_well frames length)
    (pick (leb length r.settings.capacity) (opening r frames length) (emitting r (lm_nack_of 1)))
    (emitting r (lm_nack_of 5))

-- "Frame 0, Open", its condition: the announcement of this connection, and no frame of it has been taken
abbrev pub announced_again : Connection → ℕ → ℕ → Bool
announced_again x frames length =
    eqb frames x.frames && eqb length x.length && eqb x.expected 1

-- the answer to that: the first window is asked for once more, and the connection stays as it is
abbrev pub opening_again : Receiver → Connection → Told
opening_again r x = emitting r (lm_ack_of 1 x.last)

-- "Frame 0, Open": that announcement is answered, every other is ignored, a malformed one too
unfoldable pub announce_open : Receiver → Connection → ℕ → ℕ → Told
announce_open r x frames length =
    pick (announced_again x frames length) (opening_again r x) (silently r)

-- frame 0 by the state; both kinds of Idle do the same
unfoldable pub hear_announcement : Receiver → Phase → ℕ → ℕ → Told
hear_announcement r Idle frames length = announce_idle r frames length
hear_announcement r (Done x) frames length = announce_idle r frames length
hear_announcement r (Open x) frames length = announce_open r x frames length

-- ---- frame i from 1

-- "At N": the message is whole and delivered, EndofACK says so, and N and L are remembered
abbrev pub ending : Receiver → Connection → Told
ending r x =
    let delivery : Delivery = record { frames = x.frames; length = x.length } in
    delivering (in_phase r (Done delivery)) (end_of_ack_of x.frames x.length) x.length

-- "At w": the next window is asked for from the next frame on; an accepted frame clears misses, and asking clears wait. Of
-- frame and LM_ACK the LM_ACK is the later (document 02, E4).
abbrev pub asking_next : Receiver → Connection → Told
asking_next r x = asking r x (x.expected + 1) NoneAfterAck

-- "Else": the next frame of the window is expected; an accepted frame clears wait and misses, and draws no LM_ACK, so that the
-- wait is now one after a frame (E4)
abbrev pub expecting_next : Receiver → Connection → Told
expecting_next r x = silently (in_phase r (Open (moved x (x.expected + 1) x.last 0 NoneAfterFrame)))

-- what follows once the frame expected is in the buffer: the message's last, the window's last, or another
unfoldable pub stored : Receiver → Connection → Told
stored r x =
    pick (eqb x.expected x.frames) (ending r x)
    (pick (eqb x.expected x.last) (asking_next r x) (expecting_next r x))

-- where the bytes go that frame i carries: it starts at place 7(i − 1) of the buffer; what stands before and after them is
-- left alone
unfoldable pub storing : List ℕ → ℕ → ℕ → List ℕ → List ℕ
storing buffer number length bytes =
    paste buffer (7 * (number - 1)) bytes (carried number length)

-- Document 02, E3: frame N, and something else than filler behind the message in it
abbrev pub is_unclean : Connection → Parsed → Bool
is_unclean x parsed = eqb parsed.number x.frames && not parsed.clean

-- the frame expected: such a frame N is refused 14 and changes nothing, every other is stored
unfoldable pub information_expected : Receiver → Connection → Parsed → List ℕ → List ℕ → Heard
information_expected r x parsed bytes buffer =
    pick (is_unclean x parsed) (heard (refusing r 14) buffer)
    (heard (stored r x) (storing buffer parsed.number x.length bytes))

-- "Frame i, Open": a number that the message does not have fails the connection with NACK 4; the frame expected is taken or
-- refused; any other is ignored
unfoldable pub information_open : Receiver → Connection → Parsed → List ℕ → List ℕ → Heard
information_open r x parsed bytes buffer =
    pick (ltb x.frames parsed.number) (heard (failing_with r 4) buffer)
    (pick (eqb parsed.number x.expected) (information_expected r x parsed bytes buffer)
    (heard (silently r) buffer))

-- what was delivered is acknowledged once more
abbrev pub ending_again : Receiver → Delivery → Told
ending_again r x = emitting r (end_of_ack_of x.frames x.length)

-- "Frame i from 1, Idle", with a delivery remembered: its last frame draws EndofACK, any other is ignored
unfoldable pub information_done : Receiver → Delivery → ℕ → Told
information_done r x number = pick (eqb number x.frames) (ending_again r x) (silently r)

-- a frame from number 1 on by the state; where no delivery is remembered it is ignored
unfoldable pub hear_information : Receiver → Phase → Parsed → List ℕ → List ℕ → Heard
hear_information r Idle parsed bytes buffer = heard (silently r) buffer
hear_information r (Done x) parsed bytes buffer = heard (information_done r x parsed.number) buffer
hear_information r (Open x) parsed bytes buffer = information_open r x parsed bytes buffer

-- ---- every frame

-- "LM_NACK, Open": the connection fails with cause 1; "Tick or LM_NACK, Idle": it is ignored
unfoldable pub hear_nack : Receiver → Phase → Told
hear_nack r Idle = silently r
hear_nack r (Done x) = silently r
hear_nack r (Open x) = failing r 1

-- Frames, kind 1: number 0 announces N and L, a number from 1 on carries message bytes in d1 to d7
unfoldable pub hear_numbered : Receiver → Frame → Parsed → List ℕ → Heard
hear_numbered r f parsed buffer =
    pick (eqb parsed.number 0)
    (heard (hear_announcement r r.phase (byte_of f 1) (word_at f 2 3)) buffer)
    (hear_information r r.phase parsed (drop 1 f.bytes) buffer)

-- Document 02, E2: a hold stands. A close leaves no connection, and so no mark.
abbrev pub is_held : Phase → Bool
is_held Idle = false
is_held (Done x) = false
is_held (Open x) = x.held

-- E2, "While held": a frame of kind 1 is ignored, whatever its number; else it does what its number says
unfoldable pub hear_unless_held : Receiver → Frame → Parsed → List ℕ → Heard
hear_unless_held r f parsed buffer =
    pick (is_held r.phase) (heard (silently r) buffer) (hear_numbered r f parsed buffer)

-- by the kind that was read. "SM_RM": its bytes are a short delivery, and it is acknowledged by its first; SM_URM is
-- delivered and not acknowledged; neither touches state or buffer. Refusals, hearing: 7 for the sender's kinds.
unfoldable pub hear_kind : Receiver → Frame → Parsed → List ℕ → Heard
hear_kind r f parsed buffer =
    pick (eqb parsed.kind 1) (hear_unless_held r f parsed buffer)
    (pick (eqb parsed.kind 3) (heard (hear_nack r r.phase) buffer)
    (pick (eqb parsed.kind 5) (heard (short_with r (sm_ack_of (byte_of f 0)) f.bytes) buffer)
    (pick (eqb parsed.kind 7) (heard (short_only r f.bytes) buffer)
    (heard (refusing r 7) buffer))))

-- Refusals, hearing: what cannot be read is refused 6, before its kind is looked at
unfoldable pub hear_read : Receiver → Frame → List ℕ → Result Parsed → Heard
hear_read r f buffer (accepted parsed) = hear_kind r f parsed buffer
hear_read r f buffer (refused number) = heard (refusing r number) buffer

-- Document 02, E3: the length that a frame is read for, that of the open connection; elsewhere no message is awaited
abbrev pub awaited : Phase → ℕ
awaited Idle = longest
awaited (Done x) = longest
awaited (Open x) = x.length

-- Refusals, hearing: 5, before all else, where the buffer lent is not one of 1785 bytes
unfoldable pub hear_of : Receiver → Frame → List ℕ → Heard
hear_of r f buffer =
    pick (eqb (length buffer) 1785) (hear_read r f buffer (read_of f (awaited r.phase))) (heard (refusing r 5) buffer)
