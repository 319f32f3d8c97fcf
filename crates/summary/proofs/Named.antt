-- The number that is named was sent most often, and of equals it is the lowest: by the numbers that have been looked at, each
-- of which takes the place of the one named so far or leaves it there.
-- Assumes nothing.
use Prim.Native.Nat.{ℕ, zero, suc, ◌≤◌, ◌<◌}
use mathlib.Core.Logic.{◌⊎◌, inl, inr}
use mathlib.Core.Path.{◌≡◌, refl, sym, ap, ◌∙◌}
use mathlib.Core.List.{List}
use native.Mathlib.Omega.{arith}
use borrow.Author.Tests.{eq-eqb, ltb-true, ltb-false}
use lib.ListN.{length}
use Rattle.frame.proofs.Choice.{pick_true, pick_elim}
use Rattle.frame.specs.Result.{accepted}
use Rattle.summary.proofs.Laws.{counted_is}
use Rattle.summary.proofs.Words.{last_or_before, at_cleared, length_cleared}
use Rattle.summary.specs.Counts.{count_at, cleared}
use Rattle.summary.specs.Most.{overtakes, of_two, most_to, count_for, most_of}
use Rattle.summary.specs.Summary.{MostOften, Names}

-- the law of the rule: what holds of a later number that was sent more often, and of the one named so far where the later
-- one was not, holds of the number that is named
pub two_elim : (P : ℕ → Type 0) (counts : List ℕ) (named later : ℕ)
    → (count_at counts named < count_at counts later → P later)
    → (count_at counts later ≤ count_at counts named → P named)
    → P (of_two counts named later)
unfolding of_two overtakes
two_elim P counts named later more rest = pick_elim P _ (λ e. more (ltb-true _ _ e)) (λ e. rest (ltb-false _ _ e))

-- of the numbers from 0 to this one
record MostTo (counts : List ℕ) (end number : ℕ) : Type 0 where
  inside : number ≤ end
  most : (other : ℕ) → other ≤ end → count_at counts other ≤ count_at counts number
  lowest : (other : ℕ) → other ≤ end → count_at counts other ≡ count_at counts number → number ≤ other

module _ (counts : List ℕ) where
  -- a later number, sent more often than the one named so far
  overtaken : (end number : ℕ) → MostTo counts end number → count_at counts number < count_at counts (suc end)
      → MostTo counts (suc end) (suc end)
  overtaken end number h more =
      record {
        inside = omega arith;
        most = λ other low. at_most other (last_or_before other (suc end) (omega arith));
        lowest = λ other low e. no_lower other e (last_or_before other (suc end) (omega arith));
      }
    where
      at_most : (other : ℕ) → (other ≡ suc end) ⊎ (other < suc end) → count_at counts other ≤ count_at counts (suc end)
      at_most other (inl e) = rw e (omega arith)
      at_most other (inr low) = omega (arith, h.most other (omega arith))

      no_lower : (other : ℕ) → count_at counts other ≡ count_at counts (suc end) → (other ≡ suc end) ⊎ (other < suc end)
          → suc end ≤ other
      no_lower other same (inl e) = omega arith
      no_lower other same (inr low) = absurd (omega (arith, h.most other (omega arith)))

  -- one that was not
  stays : (end number : ℕ) → MostTo counts end number → count_at counts (suc end) ≤ count_at counts number
      → MostTo counts (suc end) number
  stays end number h rest =
      record {
        inside = omega (arith, h.inside);
        most = λ other low. at_most other (last_or_before other (suc end) (omega arith));
        lowest = λ other low e. no_lower other e (last_or_before other (suc end) (omega arith));
      }
    where
      at_most : (other : ℕ) → (other ≡ suc end) ⊎ (other < suc end) → count_at counts other ≤ count_at counts number
      at_most other (inl e) = rw e rest
      at_most other (inr low) = h.most other (omega arith)

      no_lower : (other : ℕ) → count_at counts other ≡ count_at counts number → (other ≡ suc end) ⊎ (other < suc end)
          → number ≤ other
      no_lower other same (inl e) = omega (arith, h.inside)
      no_lower other same (inr low) = h.lowest other (omega arith) same

  most_to_lem : (end : ℕ) → MostTo counts end (most_to counts end)
  unfolding most_to
  most_to_lem zero =
      record {
        inside = omega arith;
        most = λ other low. let none : other ≡ 0 = omega arith in rw none (omega arith);
        lowest = λ other low e. omega arith;
      }
  most_to_lem (suc end) =
      let h = most_to_lem end in
      two_elim (MostTo counts (suc end)) counts _ _ (overtaken end (most_to counts end) h) (stays end (most_to counts end) h)

pub most_often : (counts : List ℕ) → MostOften counts (most_to counts 255)
most_often counts =
    let h = most_to_lem counts 255 in
    record {
      inside = omega (arith, h.inside);
      most = λ other low. h.most other (omega arith);
      lowest = λ other low e. h.lowest other (omega arith) e;
    }

-- two numbers that were sent most often, each the lowest of its equals, are one
pub only_one : (counts : List ℕ) (a b : ℕ) → MostOften counts a → MostOften counts b → a ≡ b
only_one counts a b p q =
    let ab = p.most b q.inside in
    let ba = q.most a p.inside in
    let same : count_at counts a ≡ count_at counts b = omega (arith, ab, ba) in
    let low = p.lowest b q.inside (sym same) in
    let high = q.lowest a p.inside same in
    omega (arith, low, high)

pub names : Names
unfolding most_of
names =
    record {
      some = most_often;
      named = λ counts number full h. is_named counts number full (only_one counts _ number (most_often counts) h);
    }
  where
    is_named : (counts : List ℕ) (number : ℕ) → length counts ≡ 512 → most_to counts 255 ≡ number
        → most_of counts ≡ accepted (record { number = number; count = count_at counts number })
    is_named counts number full same =
        sym (pick_true _ (eq-eqb _ _ full) (ap accepted (counted_is counts number _ refl ∙ ap (count_for counts) (sym same))))

-- with every count 0 it is 0
pub names_none : most_of cleared ≡ accepted (record { number = 0; count = 0 })
names_none =
    let none = at_cleared 0 (omega arith) in
    let least : MostOften cleared 0 =
    record {
      inside = omega arith;
      most = λ other low. rw (at_cleared other low, none) (omega arith);
      lowest = λ other low e. omega arith;
    } in
    names.named cleared 0 length_cleared least ∙ ap (λ n. accepted (record { number = 0; count = n })) none
