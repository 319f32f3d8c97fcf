-- `summary::most::most` meets its contract. The invariant: the number named of those before the next one, and its count.
-- Assumes nothing.
use Prim.Native.Nat.{◌-◌}
use mathlib.Core.Path.{◌≡◌}
use Rattle.summary.specs.Most.{most_to, count_for}
use Rattle.summary.proofs.most.most.Given as goal

abbrev pub invariant-loop-number : goal.invariant-loop-number
invariant-loop-number l = l.most ≡ count_for l.counts (most_to l.counts (l.number - 1))
