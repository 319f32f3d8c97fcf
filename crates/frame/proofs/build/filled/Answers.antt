-- `frame::build::filled` meets its contract. Each call gives the byte at its place, filler past the end.
-- Assumes nothing.
use Rattle.std.proofs.Common.{rules, tests, get_or}
use Rattle.frame.proofs.Laws.{filled_each, made_each}
use Rattle.frame.proofs.build.filled.Goals as goal

pub returns : goal.returns
returns g c =
    filled_each _ _ _ c.from_fn.ensures.items.long
    (made_each (λ i. get_or c.args.given.now i 255) c.from_fn.ensures.items (λ i y q call. search (rules, tests)))
