-- The flat structs of the summary: what they stand for, in both directions. Document 02, E6.
use Rattle.std.specs.Prelude.{ℕ, ◌≡◌, List}
use Rattle.frame.specs.Result.{Result, refusal_of}
use Rattle.summary.specs.Calls.{Kept, kept}
use Rattle.summary.specs.Most.{count_of, most_of}
use Rattle.summary.specs.declared.Count.{Count}
use Rattle.kospelna.specs.Refusals.{value_of, result_from, Made}
use Rattle.kospelna.specs.Send.{flat_answer, answer_from}
use Rattle.kospelna.specs.declared.send.FlatSenderAnswer.{FlatSenderAnswer}
use Rattle.kospelna_summary.specs.declared.FlatCount.{FlatCount}

-- ---- a call

-- its answer, and the lent counts as it leaves them
pub record FlatKept : Type 0 where
  pub answer : FlatSenderAnswer
  pub counts : List ℕ

abbrev pub flat_with : FlatSenderAnswer → List ℕ → FlatKept
flat_with a counts = record { answer = a; counts = counts }

abbrev pub flat_kept : Kept → FlatKept
flat_kept k = flat_with (flat_answer k.told) k.counts

-- what a caller reads off it
abbrev pub kept_from : FlatKept → Kept
kept_from f = kept (answer_from f.answer) f.counts

-- ---- a number and its count

-- with the refusal's number beside them
abbrev pub flat_count : ℕ → Count → FlatCount
flat_count refusal x = record { refusal = refusal; number = x.number; count = x.count }

abbrev pub count_in : FlatCount → Count
count_in f = record { number = f.number; count = f.count }

-- what is answered: the refusal's number, 0 where there is none, and the number with its count, zeros where refused
abbrev pub no_count : Count
no_count = record { number = 0; count = 0 }

abbrev pub count_out : Result Count → FlatCount
count_out r = flat_count (refusal_of r) (value_of (λ (x : Count). x) no_count r)

-- what a caller reads off it
abbrev pub counted_in : FlatCount → Result Count
counted_in f = result_from (λ (x : Count). x) f.refusal (count_in f)

-- the flat answers that writing makes
abbrev pub CountMade : FlatCount → Type 0
CountMade f = Made (λ (x : Count). Unit) no_count f.refusal (count_in f)

-- Theorem: nothing is lost. A caller reads off each answer what the definition has there.
abbrev pub SummaryWhole : Type 0
SummaryWhole =
    ((k : Kept) → kept_from (flat_kept k) ≡ k)
    × ((number : ℕ) (counts : List ℕ) → counted_in (count_out (count_of number counts)) ≡ count_of number counts)
    × ((counts : List ℕ) → counted_in (count_out (most_of counts)) ≡ most_of counts)
