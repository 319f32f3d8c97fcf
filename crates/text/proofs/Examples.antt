-- Document 01, The player: the seven lines of its example, by computation.
-- Assumes nothing.
use Prim.Native.Nat.{ℕ}
use mathlib.Core.Path.{◌≡◌, refl}
use mathlib.Core.Bool.{false}
use mathlib.Core.List.{List, [], ◌∷◌, ◌++◌}
use Rattle.frame.specs.Choice.{pick}
use Rattle.frame.specs.Frames.{fill_to, blank_of, announcement_of, information_of, lm_ack_of, end_of_ack_of}
use Rattle.receiver.specs.Told as receiver_told
use Rattle.receiver.specs.declared.Receiver.{Receiver}
use Rattle.sender.specs.Told as sender_told
use Rattle.sender.specs.declared.Sender.{Sender}
use Rattle.text.specs.Text.{digits_in, decimal, hex_glyph, spaced, hexes, head_of, frame_line, emitted_text, sent_line, delivered_line, sender_report, receiver_report, letter_s, letter_r}

-- texts, one after the other
abbrev joined : List (List ℕ) → List ℕ
joined [] = []
joined (text ∷ texts) = text ++ joined texts

abbrev of_sender : ℕ → sender_told.Told → List ℕ
of_sender number t = emitted_text number letter_s t.emits t.frame ++ sender_report number t.outcome

abbrev of_receiver : ℕ → receiver_told.Told → List ℕ
of_receiver number t = emitted_text number letter_r t.emits t.frame ++ receiver_report number t.outcome t.bytes

-- what each event's answer prints, in order
abbrev answers : Sender → Receiver → List (List ℕ)
answers s r =
    of_sender 0 (sender_told.emitting s (announcement_of 2 9))
    ∷ of_receiver 1 (receiver_told.emitting r (lm_ack_of 1 2))
    ∷ of_sender 3 (sender_told.emitting s (information_of 1 (1 ∷ 2 ∷ 3 ∷ 4 ∷ 5 ∷ 6 ∷ 7 ∷ [])))
    ∷ of_sender 5 (sender_told.emitting s (information_of 2 (8 ∷ 9 ∷ [])))
    ∷ of_receiver 6 (receiver_told.delivering r (end_of_ack_of 2 9) 9)
    ∷ of_sender 7 (record { next = s; emits = false; frame = blank_of; outcome = sender_told.sent 2 3 })
    ∷ []

-- the seven lines, as they stand in document 01
abbrev pub example : List ℕ
example =
    -- 0 S 1 00 02 09 00 FF FF FF FF
    48 ∷ 32 ∷ 83 ∷ 32 ∷ 49 ∷ 32 ∷ 48 ∷ 48 ∷ 32 ∷ 48 ∷ 50 ∷ 32 ∷ 48 ∷ 57 ∷ 32 ∷ 48 ∷ 48 ∷ 32 ∷ 70 ∷ 70 ∷ 32 ∷ 70 ∷ 70 ∷ 32 ∷ 70 ∷ 70 ∷ 32 ∷ 70 ∷ 70 ∷ 10
    -- 1 R 2 01 02 FF FF FF FF FF FF
    ∷ 49 ∷ 32 ∷ 82 ∷ 32 ∷ 50 ∷ 32 ∷ 48 ∷ 49 ∷ 32 ∷ 48 ∷ 50 ∷ 32 ∷ 70 ∷ 70 ∷ 32 ∷ 70 ∷ 70 ∷ 32 ∷ 70 ∷ 70 ∷ 32 ∷ 70 ∷ 70 ∷ 32 ∷ 70 ∷ 70 ∷ 32 ∷ 70 ∷ 70 ∷ 10
    -- 3 S 1 01 01 02 03 04 05 06 07
    ∷ 51 ∷ 32 ∷ 83 ∷ 32 ∷ 49 ∷ 32 ∷ 48 ∷ 49 ∷ 32 ∷ 48 ∷ 49 ∷ 32 ∷ 48 ∷ 50 ∷ 32 ∷ 48 ∷ 51 ∷ 32 ∷ 48 ∷ 52 ∷ 32 ∷ 48 ∷ 53 ∷ 32 ∷ 48 ∷ 54 ∷ 32 ∷ 48 ∷ 55 ∷ 10
    -- 5 S 1 02 08 09 FF FF FF FF FF
    ∷ 53 ∷ 32 ∷ 83 ∷ 32 ∷ 49 ∷ 32 ∷ 48 ∷ 50 ∷ 32 ∷ 48 ∷ 56 ∷ 32 ∷ 48 ∷ 57 ∷ 32 ∷ 70 ∷ 70 ∷ 32 ∷ 70 ∷ 70 ∷ 32 ∷ 70 ∷ 70 ∷ 32 ∷ 70 ∷ 70 ∷ 32 ∷ 70 ∷ 70 ∷ 10
    -- 6 R 4 02 09 00 FF FF FF FF FF
    ∷ 54 ∷ 32 ∷ 82 ∷ 32 ∷ 52 ∷ 32 ∷ 48 ∷ 50 ∷ 32 ∷ 48 ∷ 57 ∷ 32 ∷ 48 ∷ 48 ∷ 32 ∷ 70 ∷ 70 ∷ 32 ∷ 70 ∷ 70 ∷ 32 ∷ 70 ∷ 70 ∷ 32 ∷ 70 ∷ 70 ∷ 32 ∷ 70 ∷ 70 ∷ 10
    -- 6 R delivered 9
    ∷ 54 ∷ 32 ∷ 82 ∷ 32 ∷ 100 ∷ 101 ∷ 108 ∷ 105 ∷ 118 ∷ 101 ∷ 114 ∷ 101 ∷ 100 ∷ 32 ∷ 57 ∷ 10
    -- 7 S sent 2 3
    ∷ 55 ∷ 32 ∷ 83 ∷ 32 ∷ 115 ∷ 101 ∷ 110 ∷ 116 ∷ 32 ∷ 50 ∷ 32 ∷ 51 ∷ 10
    ∷ []

pub printed : (s : Sender) (r : Receiver) → joined (answers s r) ≡ example
unfolding pick fill_to blank_of announcement_of information_of lm_ack_of end_of_ack_of digits_in decimal hex_glyph spaced hexes head_of frame_line emitted_text sent_line delivered_line sender_report receiver_report
printed s r = refl
