-- Runs that are computed, and what they come to: worked by hand from document 01, The sender, and document 02, E6. Proved in
-- `proofs/Example.antt`.
use Rattle.std.specs.Prelude.{ℕ, List, [], ◌∷◌, ◌++◌, ◌≡◌, replicate}
use Rattle.frame.specs.Frames.{lm_ack_of, end_of_ack_of}
use Rattle.frame.specs.Result.{Result, accepted}
use Rattle.sender.specs.Call.{Call, begin, tick, hear, post}
use Rattle.sender.specs.Make.{idle_with}
use Rattle.sender.specs.Told.{Outcome, quiet, refused, sent, failed}
use Rattle.summary.specs.Counts.{count_at, sum_of}
use Rattle.summary.specs.Most.{most_of}
use Rattle.summary.specs.Seen.{Lending, Event, Past, fresh_with, next, run_of, LentOwn}
use Rattle.summary.specs.declared.Count.{Count}

-- calls that are lent the counts
unfoldable pub lendings : Past → List Call → List Lending
lendings p [] = []
lendings p (call ∷ calls) = let l : Lending = record { call = call; lent = p.counts } in l ∷ lendings (next p l) calls

-- a sender with gap 1, timeout 3 and sending time 100
abbrev pub at_first : Past
at_first = fresh_with (idle_with 1 3 100)

-- what such calls of it leave
abbrev pub past_of : List Call → Past
past_of calls = run_of at_first (lendings at_first calls)

-- what is looked at there: the counts of 0, 1 and 2; the sum of all; the number that is named, with its count; what the last
-- call reported
pub record Ending : Type 0 where
  pub counts : List ℕ
  pub sum : ℕ
  pub most : Result Count
  pub outcome : Outcome

-- the outcome of the last call
abbrev pub newest : List Event → Outcome
newest [] = quiet
newest (e ∷ events) = e.outcome

unfoldable pub ending_of : Past → Ending
ending_of p =
    record {
      counts = count_at p.counts 0 ∷ count_at p.counts 1 ∷ count_at p.counts 2 ∷ [];
      sum = sum_of p.counts;
      most = most_of p.counts;
      outcome = newest p.events;
    }

-- the same in numbers
abbrev pub ending : ℕ → ℕ → ℕ → ℕ → ℕ → ℕ → Outcome → Ending
ending first second third sum number count outcome =
    record {
      counts = first ∷ second ∷ third ∷ [];
      sum = sum;
      most = accepted (record { number = number; count = count });
      outcome = outcome;
    }

-- nine bytes, which take two frames; one byte, which goes short
abbrev pub nine : List ℕ
nine = 1 ∷ 2 ∷ 3 ∷ 4 ∷ 5 ∷ 6 ∷ 7 ∷ 8 ∷ 9 ∷ []

abbrev pub single : List ℕ
single = 1 ∷ []

-- the announcement again at tick 3; both frames, at ticks 4 and 5
abbrev pub announced_twice_calls : List Call
announced_twice_calls = begin nine ∷ replicate 3 (tick nine) ++ hear (lm_ack_of 1 2) ∷ tick nine ∷ tick nine ∷ []

-- then frame 1 again, so that 0 and 1 went out as often as each other
abbrev pub as_often_calls : List Call
as_often_calls = announced_twice_calls ++ hear (lm_ack_of 1 1) ∷ tick nine ∷ []

-- or frame 2 again, twice, and the end
abbrev pub last_thrice_calls : List Call
last_thrice_calls =
    announced_twice_calls
    ++ hear (lm_ack_of 2 1) ∷ tick nine ∷ hear (lm_ack_of 2 1) ∷ tick nine ∷ hear (end_of_ack_of 2 9) ∷ []

-- silence: the announcement again at ticks 3 and 6, NACK 2 at tick 9
abbrev pub silence_calls : List Call
silence_calls = begin nine ∷ replicate 9 (tick nine)

-- a post, a begin that is refused, and a frame that is refused, in the middle of a transfer
abbrev pub between_calls : List Call
between_calls = announced_twice_calls ++ post single ∷ begin single ∷ hear (record { kind = 9; bytes = [] }) ∷ []

-- a call that is lent too few bytes
abbrev pub short_lending : Call → Lending
short_lending call = record { call = call; lent = replicate 511 0 }

pub record Examples : Type 0 where
  -- calls that are lent the counts meet what is asked of them, whatever they are
  pub own : (p : Past) (calls : List Call) → LentOwn p (lendings p calls)
  pub as_often : ending_of (past_of as_often_calls) ≡ ending 2 2 1 5 0 2 quiet
  pub last_thrice : ending_of (past_of last_thrice_calls) ≡ ending 2 1 3 6 2 3 (sent 7 6)
  pub silence : ending_of (past_of silence_calls) ≡ ending 3 0 0 3 0 3 (failed 2 9 4)
  pub between : ending_of (past_of between_calls) ≡ ending 2 1 1 4 0 2 (refused 6)
  -- lent 511 bytes at the first call, and at a second: both are refused 5, and the third is lent the counts
  pub unlent : ending_of (run_of at_first (short_lending (begin nine) ∷ short_lending (tick nine) ∷ lendings at_first (begin nine ∷ [])))
      ≡ ending 1 0 0 1 0 1 quiet
  -- a short transfer after the long one: it clears the counts, and its SM_RM, sent again at its tick 3, is not counted
  pub short : ending_of (past_of (last_thrice_calls ++ begin single ∷ replicate 3 (tick single))) ≡ ending 0 0 0 0 0 0 quiet
  -- and a long one after that
  pub again : ending_of (past_of (silence_calls ++ begin single ∷ replicate 100 (tick single) ++ begin nine ∷ []))
      ≡ ending 1 0 0 1 0 1 quiet
