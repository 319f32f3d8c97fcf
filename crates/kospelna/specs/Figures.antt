-- The flat struct of a clean transfer's figures: what it stands for, in both directions. Document 02, E1.
use Rattle.std.specs.Prelude.{ℕ, ◌≡◌}
use Rattle.frame.specs.Result.{Result, refusal_of}
use Rattle.clean.specs.Figures.{figures_of}
use Rattle.clean.specs.declared.Figures.{Figures}
use Rattle.kospelna.specs.Refusals.{value_of, result_from, Made}
use Rattle.kospelna.specs.declared.figures.FlatCleanFigures.{FlatCleanFigures}

-- the refusal's number and the figures side by side
abbrev pub flat_figures : ℕ → Figures → FlatCleanFigures
flat_figures refusal x = record { refusal = refusal; ticks = x.ticks; frames = x.frames }

abbrev pub figures_in : FlatCleanFigures → Figures
figures_in f = record { ticks = f.ticks; frames = f.frames }

-- what is answered: the refusal's number, 0 where there is none, and the figures, zeros where refused
abbrev pub no_figures : Figures
no_figures = record { ticks = 0; frames = 0 }

abbrev pub clean_out : Result Figures → FlatCleanFigures
clean_out r = flat_figures (refusal_of r) (value_of (λ (x : Figures). x) no_figures r)

abbrev pub clean_in : FlatCleanFigures → Result Figures
clean_in f = result_from (λ (x : Figures). x) f.refusal (figures_in f)

-- the flat answers that writing makes
abbrev pub CleanMade : FlatCleanFigures → Type 0
CleanMade f = Made (λ (x : Figures). Unit) no_figures f.refusal (figures_in f)

-- Theorem: nothing is lost. A caller reads off each answer what the definition has there.
abbrev pub CleanWhole : Type 0
CleanWhole = (length gap : ℕ) → clean_in (clean_out (figures_of length gap)) ≡ figures_of length gap
