-- Document 01, The player: the lines that it prints, as ASCII numbers. Each line ends in a newline.
use Rattle.std.specs.Prelude.{ℕ, zero, suc, ◌+◌, ◌/◌, ◌%◌, Bool, true, false, List, [], ◌∷◌, ◌++◌, ltb}
use Rattle.frame.specs.Choice.{pick}
use Rattle.frame.specs.declared.Frame.{Frame}
use Rattle.receiver.specs.Told as receiver_told
use Rattle.sender.specs.Told as sender_told

-- ---- numbers: decimal, but for a frame's bytes and those of a short delivery, which are two hexadecimal digits each

-- the digit of a number below 10
abbrev pub glyph : ℕ → ℕ
glyph n = 48 + n

-- the last digits of a number, at most so many; a number with no more digits than that has no zeros in front
unfoldable pub digits_in : ℕ → ℕ → List ℕ
digits_in zero n = []
digits_in (suc places) n = pick (ltb n 10) (glyph n ∷ []) (digits_in places (n / 10) ++ (glyph (n % 10) ∷ []))

-- a number of at most 65535, which has at most five digits
unfoldable pub decimal : ℕ → List ℕ
decimal n = digits_in 5 n

-- the digit of a number below 16: 0 to 9, A to F
unfoldable pub hex_glyph : ℕ → ℕ
hex_glyph n = pick (ltb n 10) (48 + n) (55 + n)

abbrev pub space : ℕ
space = 32

abbrev pub newline : ℕ
newline = 10

-- a number after a space
unfoldable pub spaced : ℕ → List ℕ
spaced n = space ∷ decimal n

-- bytes as two digits each, every one after a space
unfoldable pub hexes : List ℕ → List ℕ
hexes [] = []
hexes (b ∷ bytes) = space ∷ hex_glyph (b / 16) ∷ hex_glyph (b % 16) ∷ hexes bytes

-- ---- words

-- the ends: S, R
abbrev pub letter_s : ℕ
letter_s = 83

abbrev pub letter_r : ℕ
letter_r = 82

-- " sent"
abbrev pub sent_word : List ℕ
sent_word = 32 ∷ 115 ∷ 101 ∷ 110 ∷ 116 ∷ []

-- " failed"
abbrev pub failed_word : List ℕ
failed_word = 32 ∷ 102 ∷ 97 ∷ 105 ∷ 108 ∷ 101 ∷ 100 ∷ []

-- " delivered"
abbrev pub delivered_word : List ℕ
delivered_word = 32 ∷ 100 ∷ 101 ∷ 108 ∷ 105 ∷ 118 ∷ 101 ∷ 114 ∷ 101 ∷ 100 ∷ []

-- " short"
abbrev pub short_word : List ℕ
short_word = 32 ∷ 115 ∷ 104 ∷ 111 ∷ 114 ∷ 116 ∷ []

-- "refused"
abbrev pub refused_word : List ℕ
refused_word = 114 ∷ 101 ∷ 102 ∷ 117 ∷ 115 ∷ 101 ∷ 100 ∷ []

-- ---- lines

-- how every line but a refusal's begins: the event's number and the end's letter
unfoldable pub head_of : ℕ → ℕ → List ℕ
head_of number letter = decimal number ++ (space ∷ letter ∷ [])

-- "per frame": behind number and letter the kind and the eight bytes
unfoldable pub frame_line : ℕ → ℕ → Frame → List ℕ
frame_line number letter f = head_of number letter ++ (spaced f.kind ++ (hexes f.bytes ++ (newline ∷ [])))

-- the line of the frame, if one is emitted
unfoldable pub emitted_text : ℕ → ℕ → Bool → Frame → List ℕ
emitted_text number letter true f = frame_line number letter f
emitted_text number letter false f = []

-- the sender's `sent`, with ticks and frames
unfoldable pub sent_line : ℕ → ℕ → ℕ → List ℕ
sent_line number ticks frames =
    head_of number letter_s ++ (sent_word ++ (spaced ticks ++ (spaced frames ++ (newline ∷ []))))

-- the sender's `failed`, with cause, ticks and frames
unfoldable pub failed_line : ℕ → ℕ → ℕ → ℕ → List ℕ
failed_line number cause ticks frames =
    head_of number letter_s ++ (failed_word ++ (spaced cause ++ (spaced ticks ++ (spaced frames ++ (newline ∷ [])))))

-- the receiver's `delivered`, with the length
unfoldable pub delivered_line : ℕ → ℕ → List ℕ
delivered_line number length = head_of number letter_r ++ (delivered_word ++ (spaced length ++ (newline ∷ [])))

-- the receiver's `failed`, with the cause alone
unfoldable pub closed_line : ℕ → ℕ → List ℕ
closed_line number cause = head_of number letter_r ++ (failed_word ++ (spaced cause ++ (newline ∷ [])))

-- the receiver's `short`, with the eight bytes
unfoldable pub short_line : ℕ → List ℕ → List ℕ
short_line number bytes = head_of number letter_r ++ (short_word ++ (hexes bytes ++ (newline ∷ [])))

-- "then any report": the line of what an end reported; quiet or refused it reported nothing
unfoldable pub sender_report : ℕ → sender_told.Outcome → List ℕ
sender_report number sender_told.quiet = []
sender_report number (sender_told.refused n) = []
sender_report number (sender_told.sent ticks frames) = sent_line number ticks frames
sender_report number (sender_told.failed cause ticks frames) = failed_line number cause ticks frames

unfoldable pub receiver_report : ℕ → receiver_told.Outcome → List ℕ → List ℕ
receiver_report number receiver_told.quiet bytes = []
receiver_report number (receiver_told.refused n) bytes = []
receiver_report number (receiver_told.delivered length) bytes = delivered_line number length
receiver_report number (receiver_told.failed cause) bytes = closed_line number cause
receiver_report number receiver_told.short bytes = short_line number bytes

-- the one line of a refused pack
unfoldable pub refused_text : ℕ → List ℕ
refused_text number = refused_word ++ (spaced number ++ (newline ∷ []))

-- whether there is a report to print: of a refused call there is none
abbrev pub has_sender_report : sender_told.Outcome → Bool
has_sender_report sender_told.quiet = false
has_sender_report (sender_told.refused number) = false
has_sender_report (sender_told.sent ticks frames) = true
has_sender_report (sender_told.failed cause ticks frames) = true

abbrev pub has_receiver_report : receiver_told.Outcome → Bool
has_receiver_report receiver_told.quiet = false
has_receiver_report (receiver_told.refused number) = false
has_receiver_report (receiver_told.delivered length) = true
has_receiver_report (receiver_told.failed cause) = true
has_receiver_report receiver_told.short = true
