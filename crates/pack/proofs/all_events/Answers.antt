-- `pack::all_events` meets its contract. The chain judges every byte from the place on; the definition says the same byte by byte.
-- Assumes nothing.
use Rattle.std.proofs.Common.{◌∙◌, rules, tests}
use Rattle.std.proofs.lemmas.Iterator.{YieldsList-from_slice}
use Rattle.std.proofs.lemmas.Iterator.Adapters.{YieldsList-from_skip}
use Rattle.std.proofs.lemmas.Iterator.Search.{all_from_yields_List}
use Rattle.pack.specs.Pack.{is_event}
use Rattle.pack.proofs.Paths.{events_listed}
use Rattle.pack.proofs.all_events.Goals as goal

pub returns : goal.returns
returns c =
    all_from_yields_List is_event _ _ c.all.result c.all.ensures.ran
    (YieldsList-from_skip c.args.from (YieldsList-from_slice c.args.pack.now cc) cc)
    (λ x b q k. search (rules, tests))
    ∙ events_listed _
