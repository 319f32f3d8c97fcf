-- Document 02, E6: the counts. They lie in 512 lent bytes, a word for each number 0 to 255, its low byte first.
use Rattle.std.specs.Prelude.{ℕ, zero, suc, ◌+◌, ◌*◌, Bool, List, eqb, length, get_or, replicate, set}
use Rattle.frame.specs.Choice.{pick}
use Rattle.frame.specs.Count.{increment_of, low_byte, high_byte, word_of}
use Rattle.frame.specs.Frames.{byte_of}
use Rattle.frame.specs.declared.Frame.{Frame}

-- what is lent has these 512 bytes
abbrev pub is_lent : List ℕ → Bool
is_lent counts = eqb (length counts) 512

-- the count of a number
unfoldable pub count_at : List ℕ → ℕ → ℕ
count_at counts number = word_of (get_or counts (2 * number) 0) (get_or counts (2 * number + 1) 0)

-- every count 0: so they are at first, and an accepted begin starts from there
unfoldable pub cleared : List ℕ
cleared = replicate 512 0

-- the counts with another count of a number
unfoldable pub with_count : List ℕ → ℕ → ℕ → List ℕ
with_count counts number count =
    set (set counts (2 * number) (low_byte count)) (2 * number + 1) (high_byte count)

-- one information frame more with this number
unfoldable pub adding : List ℕ → ℕ → List ℕ
adding counts number = with_count counts number (increment_of (count_at counts number))

-- a frame that goes out (document 01, Frames, kind 1: an information frame has its number in d0). No other kind is counted,
-- nor is the blank frame, kind 0, which stands where none goes out
unfoldable pub counting : List ℕ → Frame → List ℕ
counting counts f = pick (eqb f.kind 1) (adding counts (byte_of f 0)) counts

-- E6, "their sum", of the counts of the numbers below a number, and of all
unfoldable pub sum_below : List ℕ → ℕ → ℕ
sum_below counts zero = 0
sum_below counts (suc number) = sum_below counts number + count_at counts number

abbrev pub sum_of : List ℕ → ℕ
sum_of counts = sum_below counts 256
