-- `line::store` meets its contract. The kind is stored at the place's first byte and the data bytes behind it.
-- Assumes nothing.
use borrow.Author.Rules.{rules}
use lib.Seq.{set-get_or}
use native.Mathlib.Omega.{arith}
use Rattle.line.proofs.Laws.{nine_stored}
use Rattle.line.proofs.store.Goals as goal

pub returns : goal.returns
returns c = simp c.from-at.ensures (nine_stored _ _ _ _ c.told-places c.requires (search rules) (grind (arith, set-get_or)))
