-- Document 01, Refusals, hearing, number 6: frames that cannot be read. Document 02, E3: whether the filler behind a message
-- of a given length is clean.
use Rattle.std.specs.Prelude.{ℕ, ◌+◌, Bool, true, ◌&&◌, List, [], ◌∷◌, eqb, leb, drop}
use Rattle.frame.specs.Choice.{pick}
use Rattle.frame.specs.Count.{within}
use Rattle.frame.specs.Frames.{byte_of, carried}
use Rattle.frame.specs.declared.Frame.{Frame}
use Rattle.frame.specs.Result.{Result, accepted, refused}
use Rattle.frame.specs.declared.Parsed.{Parsed}

-- How many bytes of a frame are named, from d0 on, by its kind and its d0; the bytes after them are filler. Frames, each
-- kind's line: an announcement names d0 to d3, an information frame from number 1 all eight (6 does not judge what
-- fills the last one), LM_ACK d0 d1, LM_NACK and SM_ACK d0, LM_EndofACK d0 to d2, SM_RM and SM_URM all eight.
unfoldable pub named_of : ℕ → ℕ → ℕ
named_of kind number =
    pick (eqb kind 1) (pick (eqb number 0) 4 8)
    (pick (eqb kind 2) 2 (pick (eqb kind 3) 1 (pick (eqb kind 4) 3 (pick (eqb kind 6) 1 8))))

-- every byte is 0xFF
unfoldable pub all_filler : List ℕ → Bool
all_filler [] = true
all_filler (b ∷ bytes) = eqb b 255 && all_filler bytes

-- an information frame from number 1 on: its d1 to d7 are for message bytes
abbrev pub has_part : Frame → Bool
has_part f = eqb f.kind 1 && leb 1 (byte_of f 0)

-- Document 02, E3: for a message of this length, whatever an information frame has behind the message's last byte is filler.
-- A frame that is full of the message has nothing there; number 0 and the other kinds have no part of a long message.
unfoldable pub clean_for : Frame → ℕ → Bool
clean_for f length = pick (has_part f) (all_filler (drop (carried (byte_of f 0) length) (drop 1 f.bytes))) true

-- Frames, Lengths: that of the longest message. A frame is read for it where no message is awaited: no number goes past it,
-- so that every frame is clean.
abbrev pub longest : ℕ
longest = 1785

-- How many bytes of a frame are not filler, from d0 on: those that its kind names; of an information frame from number 1 on its
-- number and what it carries of a message of this length. `read_of` does not need it: the code judges the bytes behind these
-- once, and has by that what 6 and `clean` ask.
unfoldable pub used_of : Frame → ℕ → ℕ
used_of f length =
    pick (has_part f) (1 + carried (byte_of f 0) length) (named_of f.kind (byte_of f 0))

-- what reading tells of a frame: its kind; d0, which is the number of an information frame; and whether it is clean
abbrev pub parsed_of : Frame → ℕ → Parsed
parsed_of f length = record { kind = f.kind; number = byte_of f 0; clean = clean_for f length }

-- Refusals, hearing, number 6: a kind that no frame has, or a byte where filler belongs that is not filler. What fills the
-- last information frame is told, by E3, for the length that is given, and is no reason to refuse it here.
unfoldable pub read_of : Frame → ℕ → Result Parsed
read_of f length =
    pick (within 1 f.kind 7)
    (pick (all_filler (drop (named_of f.kind (byte_of f 0)) f.bytes)) (accepted (parsed_of f length)) (refused 6))
    (refused 6)
