-- Document 01, Frames: the bytes of every frame.
use Rattle.std.specs.Prelude.{ℕ, zero, suc, ◌-◌, ◌*◌, min, List, [], ◌∷◌, get_or, drop, Some, None}
use Rattle.std.specs.declared.option.Option.{Option}
use Rattle.frame.specs.Count.{low_byte, high_byte, word_of}
use Rattle.frame.specs.declared.Frame.{Frame}

-- Frames: byte dn of a frame
abbrev pub byte_of : Frame → ℕ → ℕ
byte_of f n = get_or f.bytes n 0

-- the word in two bytes of a frame, its low byte and its high byte
abbrev pub word_at : Frame → ℕ → ℕ → ℕ
word_at f low high = word_of (byte_of f low) (byte_of f high)

-- Frames, filler: n bytes, those that are given and 0xFF after them
unfoldable pub fill_to : ℕ → List ℕ → List ℕ
fill_to zero given = []
fill_to (suc n) [] = 255 ∷ fill_to n []
fill_to (suc n) (b ∷ given) = b ∷ fill_to n given

-- what stands where no frame goes out: kind 0, which no frame has, and eight zeros
unfoldable pub blank_of : Frame
blank_of = record { kind = 0; bytes = 0 ∷ 0 ∷ 0 ∷ 0 ∷ 0 ∷ 0 ∷ 0 ∷ 0 ∷ [] }

-- the frame that goes out, the blank one where none does
abbrev pub frame_or_blank : Option Frame → Frame
frame_or_blank None = blank_of
frame_or_blank (Some f) = f

-- Frames, kind 1, number 0: the announcement of a long message, N in d1 and L in d2 and d3
unfoldable pub announcement_of : ℕ → ℕ → Frame
announcement_of frames length =
    record { kind = 1; bytes = 0 ∷ frames ∷ low_byte length ∷ high_byte length ∷ 255 ∷ 255 ∷ 255 ∷ 255 ∷ [] }

-- Frames, kind 1, from number 1 on: d0 has the number; the first seven bytes of a part of the message follow, and filler
-- where the part has fewer
unfoldable pub information_of : ℕ → List ℕ → Frame
information_of number part = record { kind = 1; bytes = number ∷ fill_to 7 part }

-- Frames, kind 1: frames carry seven bytes each, so the part of frame i starts where those before it end
abbrev pub part_from : ℕ → List ℕ → List ℕ
part_from number message = drop (7 * (number - 1)) message

-- Frames, kind 1: how many bytes of a message of this length frame i carries: seven, in the last frame what is left of the
-- length, past it none
abbrev pub carried : ℕ → ℕ → ℕ
carried number length = min 7 (length - 7 * (number - 1))

-- Frames, kind 2, LM_ACK: the start in d0 and the count in d1
unfoldable pub lm_ack_of : ℕ → ℕ → Frame
lm_ack_of start count = record { kind = 2; bytes = start ∷ count ∷ 255 ∷ 255 ∷ 255 ∷ 255 ∷ 255 ∷ 255 ∷ [] }

-- Frames, kind 3, LM_NACK: the cause in d0
unfoldable pub lm_nack_of : ℕ → Frame
lm_nack_of cause = record { kind = 3; bytes = cause ∷ 255 ∷ 255 ∷ 255 ∷ 255 ∷ 255 ∷ 255 ∷ 255 ∷ [] }

-- Frames, kind 4, LM_EndofACK: N in d0, L in d1 and d2
unfoldable pub end_of_ack_of : ℕ → ℕ → Frame
end_of_ack_of frames length =
    record { kind = 4; bytes = frames ∷ low_byte length ∷ high_byte length ∷ 255 ∷ 255 ∷ 255 ∷ 255 ∷ 255 ∷ [] }

-- Frames, kinds 5 and 7, SM_RM and SM_URM: the short message itself, with filler after it
unfoldable pub sm_rm_of : List ℕ → Frame
sm_rm_of message = record { kind = 5; bytes = fill_to 8 message }

unfoldable pub sm_urm_of : List ℕ → Frame
sm_urm_of message = record { kind = 7; bytes = fill_to 8 message }

-- Frames, kind 6, SM_ACK: the first byte of the short message that it answers, in d0
unfoldable pub sm_ack_of : ℕ → Frame
sm_ack_of first = record { kind = 6; bytes = first ∷ 255 ∷ 255 ∷ 255 ∷ 255 ∷ 255 ∷ 255 ∷ 255 ∷ [] }
