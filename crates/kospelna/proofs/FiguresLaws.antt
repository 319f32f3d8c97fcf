-- What is written flat of a clean transfer's figures is read back, and the other way round.
-- Assumes nothing.
use Prim.Native.Nat.{ℕ}
use mathlib.Core.Path.{◌≡◌, refl}
use native.Mathlib.Omega.{arith}
use Rattle.frame.proofs.Choice.{pick_elim}
use Rattle.frame.specs.Result.{Result}
use Rattle.clean.specs.Figures.{figures_of}
use Rattle.clean.specs.declared.Figures.{Figures}
use Rattle.kospelna.specs.Figures.{figures_in, no_figures, clean_out, clean_in, CleanMade, CleanWhole}
use Rattle.kospelna.specs.Refusals.{Numbered}
use Rattle.kospelna.proofs.Refusals.{result_back, result_made, number_again, value_again}
use Rattle.kospelna.specs.declared.figures.FlatCleanFigures.{FlatCleanFigures}

-- every value comes back; a flat answer that writing makes comes back; and writing makes no others
pub clean_read : (r : Result Figures) → Numbered r → clean_in (clean_out r) ≡ r
clean_read = result_back (λ (x : Figures). x) (λ (x : Figures). x) no_figures (λ x. refl)

pub clean_made : (r : Result Figures) → Numbered r → CleanMade (clean_out r)
clean_made = result_made (λ (x : Figures). x) no_figures (λ (x : Figures). Unit) (λ x. tt)

pub clean_written : (f : FlatCleanFigures) → CleanMade f → clean_out (clean_in f) ≡ f
clean_written f made =
    rw (
      number_again (λ (x : Figures). x) f.refusal (figures_in f),
      value_again (λ (x : Figures). x) (λ (x : Figures). x) no_figures (λ (x : Figures). Unit) (λ x h. refl)
          f.refusal (figures_in f) made,
    )

-- no refusal is numbered 0
pub clean_numbered : (length gap : ℕ) → Numbered (figures_of length gap)
unfolding figures_of
clean_numbered length gap =
    pick_elim Numbered _ (λ e. pick_elim Numbered _ (λ e. tt) (λ e. omega arith)) (λ e. omega arith)

pub clean_whole : CleanWhole
clean_whole length gap = clean_read (figures_of length gap) (clean_numbered length gap)
