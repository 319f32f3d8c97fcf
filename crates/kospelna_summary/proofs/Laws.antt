-- A tick that is refused or emits nothing, over the face; what is written flat is read back, and the other way round.
-- Assumes nothing.
use Prim.Native.Nat.{ℕ}
use mathlib.Core.Path.{◌≡◌, refl, sym, ap, ◌∙◌}
use mathlib.Core.Bool.{Bool, true, false}
use mathlib.Core.List.{List}
use native.Mathlib.Omega.{arith}
use lib.ListN.{length}
use Rattle.frame.proofs.Choice.{pick_elim}
use Rattle.frame.specs.Result.{Result}
use Rattle.sender.specs.Call.{tick}
use Rattle.sender.specs.SilentTicks.{silent_in, silent_tick_in}
use Rattle.sender.specs.Tick.{lent_to}
use Rattle.sender.specs.Told.{Told, refusing}
use Rattle.sender.specs.declared.Sender.{Sender}
use Rattle.summary.proofs.EachCall.{unlent_is}
use Rattle.summary.proofs.Uncounted.{refused_tick, silent_tick}
use Rattle.summary.specs.Calls.{Kept, kept, kept_of}
use Rattle.summary.specs.Most.{count_of, most_of}
use Rattle.summary.specs.declared.Count.{Count}
use Rattle.kospelna.specs.Send.{flat_answer}
use Rattle.kospelna.specs.Refusals.{Numbered}
use Rattle.kospelna_summary.specs.Summary.{flat_with, flat_kept, kept_from, count_in, no_count, count_out, counted_in, CountMade, SummaryWhole}
use Rattle.kospelna.proofs.Refusals.{result_back, result_made, number_again, value_again}
use Rattle.kospelna.proofs.SendInverse.{answer_back}
use Rattle.kospelna.specs.declared.send.FlatSenderAnswer.{FlatSenderAnswer}
use Rattle.kospelna_summary.specs.declared.FlatCount.{FlatCount}

-- ---- a tick that is refused or emits nothing: the flat sender is read anew for each question

module _ (a : FlatSenderAnswer) (t : Told) (s : Sender) (m counts : List ℕ) (answered : a ≡ flat_answer t) where
  uncounted : kept_of s (tick m) counts ≡ kept t counts → flat_with a counts ≡ flat_kept (kept_of s (tick m) counts)
  uncounted e = rw (answered, e)

  pub ticked_unlent : (r : Sender) (number : ℕ) → r ≡ s → (length counts ≡ 512 → ⊥) → number ≡ 5 → t ≡ refusing r number
      → flat_with a counts ≡ flat_kept (kept_of s (tick m) counts)
  ticked_unlent r number read other five e = uncounted (unlent_is s (tick m) counts other ∙ rw (e, read, five))

  module _ (q r : Sender) (lent : Bool) (asked : q ≡ s) (read : r ≡ s) (full : length counts ≡ 512)
      (test : lent ≡ lent_to q.phase m) where
    pub ticked_refused : (number : ℕ) → lent ≡ false → number ≡ 4 → t ≡ refusing r number
        → flat_with a counts ≡ flat_kept (kept_of s (tick m) counts)
    ticked_refused number fails four e =
        uncounted (refused_tick s m counts full (rw (← asked) (sym test ∙ fails)) ∙ rw (e, read, four))

    pub ticked_silently : (u : Sender) (silent : Bool) → u ≡ s → lent ≡ true → silent ≡ silent_in u u.phase
        → silent ≡ true → t ≡ silent_tick_in r r.phase → flat_with a counts ≡ flat_kept (kept_of s (tick m) counts)
    ticked_silently u silent known holds mute passes e =
        uncounted
        (silent_tick s m counts full (rw (← asked) (sym test ∙ holds)) (rw (← known) (sym mute ∙ passes)) ∙ rw (e, read))

-- ---- back and forth

-- every value comes back; a flat answer that writing makes comes back; and writing makes no others
pub count_back : (r : Result Count) → Numbered r → counted_in (count_out r) ≡ r
count_back = result_back (λ (x : Count). x) (λ (x : Count). x) no_count (λ x. refl)

pub count_made : (r : Result Count) → Numbered r → CountMade (count_out r)
count_made = result_made (λ (x : Count). x) no_count (λ (x : Count). Unit) (λ x. tt)

pub count_written : (f : FlatCount) → CountMade f → count_out (counted_in f) ≡ f
count_written f made =
    rw (
      number_again (λ (x : Count). x) f.refusal (count_in f),
      value_again (λ (x : Count). x) (λ (x : Count). x) no_count (λ (x : Count). Unit) (λ x h. refl)
          f.refusal (count_in f) made,
    )

-- no refusal is numbered 0
count_numbered : (number : ℕ) (counts : List ℕ) → Numbered (count_of number counts)
unfolding count_of
count_numbered number counts = pick_elim Numbered _ (λ e. tt) (λ e. omega arith)

most_numbered : (counts : List ℕ) → Numbered (most_of counts)
unfolding most_of
most_numbered counts = pick_elim Numbered _ (λ e. tt) (λ e. omega arith)

kept_back : (k : Kept) → kept_from (flat_kept k) ≡ k
kept_back k = ap (λ (t : Told). kept t k.counts) (answer_back k.told)

pub summary_whole : SummaryWhole
summary_whole = (
  kept_back,
  λ number counts. count_back (count_of number counts) (count_numbered number counts),
  λ counts. count_back (most_of counts) (most_numbered counts),
)
