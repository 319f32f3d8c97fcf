-- The counts as words: what is written to a number's two bytes is read there and nowhere else. So one more of a number makes
-- the sum one more, and each count is at most the sum.
-- Assumes nothing.
use Prim.Native.Nat.{ℕ, zero, suc, ◌+◌, ◌*◌, ◌≤◌, ◌<◌}
use mathlib.Core.Logic.{◌⊎◌, inl, inr}
use mathlib.Core.Path.{◌≡◌, refl, ◌∙◌}
use mathlib.Core.Bool.{Bool, true, false}
use mathlib.Core.List.{List}
use native.Mathlib.Omega.{arith}
use borrow.Author.Tests.{eqb-true, eqb-false}
use lib.Dec.{eqb}
use lib.ListN.{length, set, length-set, get_or-replicate, length-replicate}
use lib.Seq.{get_or-set_same, get_or-set_other}
use Rattle.frame.proofs.Laws.{increment_is, word_whole}
use Rattle.frame.specs.Count.{increment_of, low_byte, high_byte}
use Rattle.summary.specs.Counts.{count_at, cleared, with_count, adding, sum_below, sum_of}

-- ---- a count that is written

pub length_with : (counts : List ℕ) (number count : ℕ) → length (with_count counts number count) ≡ length counts
unfolding with_count
length_with counts number count = length-set (set counts (2 * number) (low_byte count)) (2 * number + 1) (high_byte count) ∙ length-set counts (2 * number) (low_byte count)

-- it is read there
pub at_written : (counts : List ℕ) (number count : ℕ) → length counts ≡ 512 → number < 256 → count < 65536
    → count_at (with_count counts number count) number ≡ count
unfolding count_at with_count
at_written counts number count full inside fits =
    let one = set counts (2 * number) (low_byte count) in
    let long : length one ≡ 512 = length-set counts (2 * number) (low_byte count) ∙ full in
    let low =
    get_or-set_other one (2 * number + 1) (2 * number) (high_byte count) 0 (λ e. omega (arith, e))
    ∙ get_or-set_same counts (2 * number) (low_byte count) 0 (omega arith) in
    let high = get_or-set_same one (2 * number + 1) (high_byte count) 0 (omega arith) in
    rw (low, high) (word_whole count fits)

-- and nowhere else
pub at_other : (counts : List ℕ) (number other count : ℕ) → (other ≡ number → ⊥)
    → count_at (with_count counts number count) other ≡ count_at counts other
unfolding count_at with_count
at_other counts number other count apart =
    let one = set counts (2 * number) (low_byte count) in
    let low =
    get_or-set_other one (2 * number + 1) (2 * other) (high_byte count) 0 (λ e. omega (arith, e))
    ∙ get_or-set_other counts (2 * number) (2 * other) (low_byte count) 0 (λ e. apart (omega (arith, e))) in
    let high =
    get_or-set_other one (2 * number + 1) (2 * other + 1) (high_byte count) 0 (λ e. apart (omega (arith, e)))
    ∙ get_or-set_other counts (2 * number) (2 * other + 1) (low_byte count) 0 (λ e. omega (arith, e)) in
    rw (low, high)

-- ---- one more of a number

pub last_or_before : (n end : ℕ) → n < suc end → (n ≡ end) ⊎ (n < end)
last_or_before n end low = by (eqb n end) refl
  where
    by : (same : Bool) → eqb n end ≡ same → (n ≡ end) ⊎ (n < end)
    by true e = inl (eqb-true _ _ e)
    by false e = inr (omega (arith, eqb-false n end e))

module _ (counts : List ℕ) (number : ℕ) (full : length counts ≡ 512) (inside : number < 256)
    (below : count_at counts number < 65535) where
  pub length_adding : length (adding counts number) ≡ 512
  unfolding adding
  length_adding = length_with counts number (increment_of (count_at counts number)) ∙ full

  pub at_added : count_at (adding counts number) number ≡ count_at counts number + 1
  unfolding adding
  at_added =
      let one = increment_is (count_at counts number) below in
      rw one (at_written counts number (count_at counts number + 1) full inside (omega arith))

  pub at_others : (other : ℕ) → (other ≡ number → ⊥) → count_at (adding counts number) other ≡ count_at counts other
  unfolding adding
  at_others other apart = at_other counts number other (increment_of (count_at counts number)) apart

  -- the sum of the counts below a number that is not above the added one stays
  sum_before : (end : ℕ) → end ≤ number → sum_below (adding counts number) end ≡ sum_below counts end
  unfolding sum_below
  sum_before zero low = refl
  sum_before (suc end) low = rw (sum_before end (omega arith), at_others end (λ e. omega (arith, e)))

  -- and of those above it is one more
  sum_after : (end : ℕ) → number < end → sum_below (adding counts number) end ≡ sum_below counts end + 1
  unfolding sum_below
  sum_after zero high = absurd (omega arith)
  sum_after (suc end) high = by (last_or_before number end high) (sum_after end)
    where
      by : (number ≡ end) ⊎ (number < end)
          → (number < end → sum_below (adding counts number) end ≡ sum_below counts end + 1)
          → sum_below (adding counts number) (suc end) ≡ sum_below counts (suc end) + 1
      by (inl here) more =
          let first = sum_before end (omega arith) in
          let last : count_at (adding counts number) end ≡ count_at counts end + 1 = rw (← here) at_added in
          omega (arith, first, last)
      by (inr high) more = omega (arith, more high, at_others end (λ e. omega (arith, e)))

  pub sum_adding : sum_of (adding counts number) ≡ sum_of counts + 1
  sum_adding = sum_after 256 inside

-- each count is one of those that are summed
pub at_most_sum : (counts : List ℕ) (number end : ℕ) → number < end → count_at counts number ≤ sum_below counts end
unfolding sum_below
at_most_sum counts number zero low = absurd (omega arith)
at_most_sum counts number (suc end) low = by (last_or_before number end low) (at_most_sum counts number end)
  where
    by : (number ≡ end) ⊎ (number < end) → (number < end → count_at counts number ≤ sum_below counts end)
        → count_at counts number ≤ sum_below counts (suc end)
    by (inl here) more = rw here (omega arith)
    by (inr before) more = omega (arith, more before)

-- ---- every count 0

pub length_cleared : length cleared ≡ 512
unfolding cleared
length_cleared = length-replicate {A = ℕ} 512 0

pub at_cleared : (number : ℕ) → number < 256 → count_at cleared number ≡ 0
unfolding count_at cleared
at_cleared number inside =
    rw (get_or-replicate {A = ℕ} 512 (2 * number) 0 0 (omega arith), get_or-replicate {A = ℕ} 512 (2 * number + 1) 0 0 (omega arith))

sum_none : (end : ℕ) → end ≤ 256 → sum_below cleared end ≡ 0
unfolding sum_below
sum_none zero low = refl
sum_none (suc end) low = rw (sum_none end (omega arith), at_cleared end (omega arith))

pub sum_cleared : sum_of cleared ≡ 0
sum_cleared = sum_none 256 (omega arith)
