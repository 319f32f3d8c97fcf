-- `summary::most::most` meets its contract. The counts are read one after the other.
-- Assumes nothing.
use mathlib.Core.Path.{◌≡◌}
use native.Mathlib.Omega.{arith}
use Rattle.summary.proofs.Laws.{most_first, naming}
use Rattle.summary.proofs.most.most.Goals as goal
use Rattle.summary.proofs.most.most.Goals.{then-overtakes, else-overtakes}

pub loop-number-init : goal.loop-number-init
loop-number-init c = most_first _ _ c.count_at-count.ensures

pub loop-number-preserved : goal.loop-number-preserved
loop-number-preserved c =
    elim c.if-overtakes.branch [
      | then-overtakes w ↦ rw w.most-is (search (naming, arith))
      | else-overtakes w ↦ rw w.most-is (search (naming, arith))
    ]

pub returns-after-overtakes : goal.returns-after-overtakes
returns-after-overtakes c =
    let last : 255 ≡ c.loop-number.number = omega arith in
    elim c.if-overtakes.branch [
      | then-overtakes w ↦ rw w.most-is (search (naming, arith))
      | else-overtakes w ↦ rw w.most-is (search (naming, arith))
    ]
