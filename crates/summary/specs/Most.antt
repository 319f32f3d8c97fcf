-- Document 02, E6: the number that was sent most often.
use Rattle.std.specs.Prelude.{ℕ, zero, suc, Bool, List, ltb}
use Rattle.frame.specs.Choice.{pick}
use Rattle.frame.specs.Result.{Result, accepted, refused}
use Rattle.summary.specs.Counts.{is_lent, count_at}
use Rattle.summary.specs.declared.Count.{Count}

-- E6, which of two numbers is named: whether a later number takes the place of the one named so far, by their counts. It has
-- to have been sent more often, so that of equals the lowest stays
unfoldable pub overtakes : ℕ → ℕ → Bool
overtakes named later = ltb named later

-- that one of the two
unfoldable pub of_two : List ℕ → ℕ → ℕ → ℕ
of_two counts named later = pick (overtakes (count_at counts named) (count_at counts later)) later named

-- the number that is named of those from 0 to this one
unfoldable pub most_to : List ℕ → ℕ → ℕ
most_to counts zero = 0
most_to counts (suc last) = of_two counts (most_to counts last) (suc last)

-- a number with its count
unfoldable pub count_for : List ℕ → ℕ → Count
count_for counts number = record { number = number; count = count_at counts number }

-- the count of a number. Refused 5 where the counts are not lent
unfoldable pub count_of : ℕ → List ℕ → Result Count
count_of number counts = pick (is_lent counts) (accepted (count_for counts number)) (refused 5)

-- E6, "names": of all numbers. Refused 5 likewise
unfoldable pub most_of : List ℕ → Result Count
most_of counts = pick (is_lent counts) (accepted (count_for counts (most_to counts 255))) (refused 5)
