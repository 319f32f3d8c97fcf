-- `clean::figures_for` meets its contract. The count is N, at most 255; so neither number wraps.
-- Assumes nothing.
use borrow.Author.Rules.{rules}
use Rattle.clean.specs.Figures.{figures_for}
use Rattle.clean.proofs.Laws.{ticks_fit, frames_fit}
use Rattle.clean.proofs.figures_for.Goals as goal

pub overflow_mul-result : goal.overflow_mul-result
overflow_mul-result c = search (rules, ticks_fit)

pub overflow_add-result : goal.overflow_add-result
overflow_add-result c = search (rules, frames_fit)

pub returns : goal.returns
unfolding figures_for
returns c = cc
