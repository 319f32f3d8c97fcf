-- Document 01, Edge cases: the cases marked *, in its order. Then document 02, E3: what is filler in a last frame, for lengths
-- that are a multiple of seven, one less and one more. An announcement's d1 is N, and its d2 d3 are L. Silence is watched for
-- 20 ticks, so that the rows also say that nothing goes out after the last frame that they name.
use Rattle.std.specs.Prelude.{ℕ, List, [], ◌∷◌, ◌++◌, get_or}
use Rattle.cases.specs.Row.{Row, Question, begun, acknowledged, sender_silence, receiver_silence, joined, last_frame, last_frame_with, refusal, identifier, short, announces, frame0, lm_ack, nack, delivered, at}

abbrev pub row : Question → List ℕ → Row
row question answer = record { question = question; answer = answer }

unfoldable pub table : List Row
table =
    -- the longest message that goes short
    row (begun 8) short
    -- the shortest that goes long
    ∷ row (begun 9) (announces 0 2 9 0)
    -- two frames, both full
    ∷ row (begun 14) (announces 0 2 14 0)
    -- a third frame for one byte
    ∷ row (begun 15) (announces 0 3 15 0)
    -- the longest message
    ∷ row (begun 1785) (announces 0x00 0xFF 0xF9 0x06)
    -- no byte at all, and one too many
    ∷ row (begun 0) (refusal 2)
    ∷ row (begun 1786) (refusal 2)
    -- an LM_ACK that starts above N
    ∷ row (acknowledged 2 3 2) (nack 4)
    -- a sender that nobody answers: the third miss comes before M
    ∷ row (sender_silence 3 10 20) (at 0 frame0 ++ at 3 frame0 ++ at 6 frame0 ++ at 9 (nack 2))
    -- the same where M comes with the third miss: M goes first
    ∷ row (sender_silence 3 9 20) (at 0 frame0 ++ at 3 frame0 ++ at 6 frame0 ++ at 9 (nack 3))
    -- a receiver whose connection opened and that hears no more
    ∷ row (receiver_silence 3 2 20) (at 3 lm_ack ++ at 6 lm_ack ++ at 9 (nack 2))
    -- the parts of an identifier
    ∷ row (joined 3 0x38 0xF4 0x56) (identifier 0x0C38F456)
    -- a last frame with one byte of the message, and filler behind it
    ∷ row (last_frame 15) (delivered 3 15)
    -- the message ends in d6: the byte there is its last, the byte behind it is judged
    ∷ row (last_frame_with 13 6) (delivered 2 13)
    ∷ row (last_frame_with 13 7) (refusal 14)
    -- in d7: nothing is behind it
    ∷ row (last_frame_with 14 7) (delivered 2 14)
    -- in d1: the first and the last byte of the filler are judged
    ∷ row (last_frame_with 15 1) (delivered 3 15)
    ∷ row (last_frame_with 15 2) (refusal 14)
    ∷ row (last_frame_with 15 7) (refusal 14)
    -- the same in frame 255: the longest message but one ends in d6, the longest in d7
    ∷ row (last_frame_with 1784 6) (delivered 255 1784)
    ∷ row (last_frame_with 1784 7) (refusal 14)
    ∷ row (last_frame_with 1785 7) (delivered 255 1785)
    ∷ []

-- the row at a place of the table, counted from 0; the first row stands past its end
abbrev pub row_at : ℕ → Row
row_at k = get_or table k (row (begun 8) short)
