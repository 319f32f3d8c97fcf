-- `line::Ring::rest` meets its contract. By the count: none or some.
-- Assumes nothing.
use mathlib.Core.Path.{sym}
use Rattle.line.proofs.Laws.{rest_empty, rest_some}
use Rattle.line.proofs.Ring.rest.Goals as goal

pub returns-then-is_empty : goal.returns-then-is_empty
returns-then-is_empty c = rest_empty _ (sym c.if-is_empty.ensures)

pub returns : goal.returns
returns c = rest_some _ _ (sym c.if-is_empty.ensures) c.min.ensures
