-- `frame::read::all_filler` meets its contract. The chain tests every byte from the place on; the definition says the same byte by
-- byte. Assumes nothing.
use Rattle.std.proofs.Common.{◌∙◌, arith, take_all, rules, tests}
use Rattle.std.proofs.lemmas.Iterator.{YieldsList-from_slice}
use Rattle.std.proofs.lemmas.Iterator.Adapters.{YieldsList-from_skip}
use Rattle.std.proofs.lemmas.Iterator.Search.{all_from_yields_List}
use Rattle.std.specs.Prelude.{eqb}
use Rattle.frame.proofs.Laws.{filler_listed}
use Rattle.frame.proofs.read.all_filler.Goals as goal

pub returns : goal.returns
returns c =
    all_from_yields_List (λ b. eqb b 255) _ _ c.all.result c.all.ensures.ran
    (YieldsList-from_skip c.args.from (YieldsList-from_slice c.args.bytes.now (grind (arith, take_all))) cc)
    (λ x b q k. search (rules, tests))
    ∙ filler_listed _
