-- Laws on the definitions of specs/ that several proofs cite.
-- Assumes nothing.
use Prim.Native.Nat.{ℕ, suc, ◌-◌, ◌≤◌}
use mathlib.Core.Path.{◌≡◌, refl, sym, ap, subst, ◌∙◌}
use mathlib.Core.Bool.{Bool, true, false}
use mathlib.Core.List.{List}
use native.Mathlib.Omega.{arith}
use borrow.Author.Tests.{eq-eqb, ne_eqb}
use lib.ListN.{length, replicate}
use Rattle.frame.proofs.Choice.{pick_true, pick_false}
use Rattle.frame.specs.Frames.{byte_of, blank_of}
use Rattle.frame.specs.declared.Frame.{Frame}
use Rattle.sender.specs.Told.{is_refused, Told, refusing}
use Rattle.std.specs.Array.{IsWholeChunk}
use Rattle.sender.specs.declared.Sender.{Sender}
use Rattle.summary.specs.Calls.{Kept, kept, if_lent, keeping, begun}
use Rattle.summary.specs.Counts.{count_at, cleared, adding, counting}
use Rattle.summary.specs.Most.{overtakes, of_two, most_to, count_for}
use Rattle.summary.specs.declared.Count.{Count}

-- ---- a frame that goes out

pub counts_information : (counts after : List ℕ) (f : Frame) (number : ℕ) → f.kind ≡ 1 → number ≡ byte_of f 0
    → after ≡ adding counts number
    → after ≡ counting counts f
unfolding counting
counts_information counts after f number one same e = pick_true counts (eq-eqb _ _ one) (rw (← same) e)

pub counts_no_other : (counts : List ℕ) (f : Frame) → (f.kind ≡ 1 → ⊥) → counts ≡ counting counts f
unfolding counting
counts_no_other counts f other = pick_false _ (ne_eqb _ _ other) refl

-- nor is the blank frame
pub counts_none : (counts : List ℕ) → counts ≡ counting counts blank_of
unfolding blank_of
counts_none counts = counts_no_other counts blank_of (λ e. omega (arith, e))

-- ---- the calls

pub not_lent : (s : Sender) (counts : List ℕ) (t : Told) (k : Kept) → (length counts ≡ 512 → ⊥) → t ≡ refusing s 5
    → kept t counts ≡ if_lent s counts k
unfolding if_lent
not_lent s counts t k other e = pick_false k (ne_eqb _ _ other) (rw e)

-- what is lent has 512 bytes
pub lent_keeps : (s : Sender) (counts : List ℕ) (a k : Kept) → length counts ≡ 512 → a ≡ k → a ≡ if_lent s counts k
unfolding if_lent
lent_keeps s counts a k full e = pick_true _ (eq-eqb _ _ full) e

-- a begin that is accepted: the counts are taken whole and cleared
pub keeps_begun : (s : Sender) (counts words : List ℕ) {a t : Told} {denied : Bool} {empty : List ℕ} {k : Kept}
    → IsWholeChunk counts words 512 → a ≡ t → denied ≡ is_refused a.outcome → denied ≡ false
    → empty ≡ replicate (length words) 0 → k ≡ keeping a empty
    → k ≡ if_lent s counts (begun t counts)
unfolding begun cleared
keeps_begun s counts words {a} whole same asked accepts zeros counted =
    let full : length words ≡ 512 = ap length whole.same ∙ whole.long in
    lent_keeps s counts _ _ whole.long
    (rw (← same) (pick_false _ (sym asked ∙ accepts) (counted ∙ ap (keeping a) (rw full at zeros))))

-- ---- reading the counts

pub counted_is : (counts : List ℕ) (number count : ℕ) → count ≡ count_at counts number
    → record { number = number; count = count } ≡ count_for counts number
unfolding count_for
counted_is counts number count e = rw e

-- at first 0 is named
pub most_first : (counts : List ℕ) (count : ℕ) → count ≡ count_at counts 0
    → record { number = 0; count = count } ≡ count_for counts (most_to counts 0)
unfolding most_to
most_first counts count e = counted_is counts 0 count e

-- a later number is named in the place of the one named so far, or is not
module _ (counts : List ℕ) (number later : ℕ) (named : Count) {takes : Bool} {last : ℕ} (from : 1 ≤ number) (upto : last ≡ number)
    (is : named ≡ count_for counts (most_to counts (number - 1))) (reads : later ≡ count_at counts number)
    (test : takes ≡ overtakes named.count later) where
  next : suc (number - 1) ≡ number
  next = omega arith

  by_test : overtakes (count_at counts (most_to counts (number - 1))) (count_at counts (suc (number - 1))) ≡ takes
  unfolding count_for
  by_test = rw (test, is, reads, next)

  picked_later : takes ≡ true → most_to counts number ≡ number
  unfolding most_to of_two
  picked_later holds = rw (← next) (sym (pick_true _ (by_test ∙ holds) refl))

  picked_named : takes ≡ false → most_to counts number ≡ most_to counts (number - 1)
  unfolding most_to of_two
  picked_named fails = subst (λ n. most_to counts n ≡ most_to counts (number - 1)) next (sym (pick_false _ (by_test ∙ fails) refl))

  pub most_later : takes ≡ true → record { number = number; count = later } ≡ count_for counts (most_to counts last)
  most_later holds = rw (upto, picked_later holds) (counted_is counts number later reads)

  pub most_stays : takes ≡ false → named ≡ count_for counts (most_to counts last)
  most_stays fails = rw (upto, picked_named fails) is

pub ruleset naming = (most_later, most_stays)
