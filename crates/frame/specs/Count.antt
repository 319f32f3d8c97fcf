-- Numbers that both ends count with.
use Rattle.std.specs.Prelude.{ℕ, ◌+◌, ◌*◌, ◌/◌, ◌%◌, min, Bool, ◌&&◌, leb}

-- Frames, N: the frames of seven bytes that a message of this length takes
unfoldable pub frame_count_of : ℕ → ℕ
frame_count_of length = (length + 6) / 7

-- the count after one more. It is held at 65535, so that it has a meaning for every count that a state can hold; no count of
-- an end that was made and called comes near that.
unfoldable pub increment_of : ℕ → ℕ
increment_of count = min (count + 1) 65535

-- the first paragraph, Words: the low byte of a word goes first; the two bytes of a word, and the word of two bytes
abbrev pub low_byte : ℕ → ℕ
low_byte word = word % 256

abbrev pub high_byte : ℕ → ℕ
high_byte word = word / 256 % 256

abbrev pub word_of : ℕ → ℕ → ℕ
word_of low high = low + 256 * high

-- x is low to high, both included
abbrev pub within : ℕ → ℕ → ℕ → Bool
within low x high = leb low x && leb x high
