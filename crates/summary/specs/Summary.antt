-- Document 02, E6: what is claimed of every list of calls, of the number that is named, and of each call. Proved in `proofs/`:
-- `Summary.antt`, `Named.antt`, `EachCall.antt`.
use Rattle.std.specs.Prelude.{ℕ, ◌+◌, ◌≤◌, ◌<◌, true, false, List, ◌≡◌, length}
use Rattle.frame.specs.Count.{increment_of}
use Rattle.frame.specs.Result.{accepted}
use Rattle.frame.specs.declared.Frame.{Frame}
use Rattle.sender.specs.Call.{Call, hear, post, answer_of}
use Rattle.sender.specs.Demand1.{Unchanged}
use Rattle.sender.specs.Make.{make_of}
use Rattle.sender.specs.Told.{refused, refusing}
use Rattle.sender.specs.declared.Sender.{Sender}
use Rattle.summary.specs.Calls.{kept, kept_of}
use Rattle.summary.specs.Counts.{count_at, cleared, sum_of}
use Rattle.summary.specs.Most.{most_to, count_of, most_of}
use Rattle.summary.specs.Seen.{Lending, Past, fresh_with, run_of, LentOwn, history, reported, long_in, is_information, is_numbered, count_if, JustReported, just_emitted}

-- What holds after a list of calls of a sender with this M.
pub record Promise (limit : ℕ) (p : Past) : Type 0 where
  -- "each count equals that in the history": what is read of a number is how often it went out since the last accepted begin
  pub counts : (number : ℕ) → number < 256
      → count_of number p.counts
      ≡ accepted (record { number = number; count = count_if (is_numbered number) (history p.events) })
  -- "at a report": the frames that it reports are those of the transfer, and the sum is the information frames among them
  pub sum : (frames : ℕ) → JustReported p.events frames
      → (length (reported p.events) ≡ frames)
      × (sum_of p.counts ≡ count_if is_information (reported p.events))
  -- more than E6 asks: a long transfer's report is of information frames alone, but for the NACK of the call that reports
  pub closing : (frames : ℕ) → JustReported p.events frames → long_in p.events ≡ true
      → sum_of p.counts + just_emitted p.events ≡ frames
  -- "Before any long begin", and after a short one, which clears and adds nothing: all counts are 0, and 0 is named
  pub none : long_in p.events ≡ false
      → (p.counts ≡ cleared) × (most_of p.counts ≡ accepted (record { number = 0; count = 0 }))
  -- M bounds the sum and each of the counts, so that none is cut as it grows
  pub bounded : sum_of p.counts ≤ limit
  pub uncut : (number : ℕ) → number < 256
      → (count_at p.counts number ≤ limit)
      × (increment_of (count_at p.counts number) ≡ count_at p.counts number + 1)

-- the claim: of every list of calls, refused ones included, from a sender that making answered
abbrev pub Summary : Type 0
Summary =
    (gap timeout limit : ℕ) (s : Sender) (calls : List Lending)
    → make_of gap timeout limit ≡ accepted s
    → LentOwn (fresh_with s) calls
    → Promise limit (run_of (fresh_with s) calls)

-- E6, "sent most often; of equals, the lowest"
pub record MostOften (counts : List ℕ) (number : ℕ) : Type 0 where
  pub inside : number < 256
  pub most : (other : ℕ) → other < 256 → count_at counts other ≤ count_at counts number
  pub lowest : (other : ℕ) → other < 256 → count_at counts other ≡ count_at counts number → number ≤ other

-- There is such a number, of all bytes, and it is the one that is named, with its count.
pub record Names : Type 0 where
  pub some : (counts : List ℕ) → MostOften counts (most_to counts 255)
  pub named : (counts : List ℕ) (number : ℕ) → length counts ≡ 512 → MostOften counts number
      → most_of counts ≡ accepted (record { number = number; count = count_at counts number })

-- Of every sender and all lent bytes, reachable or not.
pub record EachCall : Type 0 where
  -- lent 512 bytes a call answers as the sender's own does; lent another length it is refused 5, whatever else is wrong
  pub answers : (s : Sender) (call : Call) (counts : List ℕ) → length counts ≡ 512
      → (kept_of s call counts).told ≡ answer_of s call
  pub unlent : (s : Sender) (call : Call) (counts : List ℕ) → (length counts ≡ 512 → ⊥)
      → kept_of s call counts ≡ kept (refusing s 5) counts
  -- Document 01, Refusals, by place, its last line: a refused call leaves the sender and the lent bytes as they were
  pub refuses : (s : Sender) (call : Call) (counts : List ℕ) (number : ℕ)
      → (kept_of s call counts).told.outcome ≡ refused number
      → Unchanged s (kept_of s call counts).told × ((kept_of s call counts).counts ≡ counts)
  -- post adds nothing, and nor does a hearing, which emits a NACK at most
  pub posts : (s : Sender) (message counts : List ℕ) → (kept_of s (post message) counts).counts ≡ counts
  pub hears : (s : Sender) (f : Frame) (counts : List ℕ) → (kept_of s (hear f) counts).counts ≡ counts
