-- `version::Versions::find_below` meets its contract. The chain finds the last place that holds a version below.
-- Assumes nothing.
use Rattle.std.proofs.Common.{◌∙◌, ap, rules, tests}
use Rattle.version.proofs.Laws.{as_number, place_back, slice_back}
use Rattle.version.specs.List.{place_below}
use Rattle.version.proofs.Versions.find_below.Goals as goal

pub returns : goal.returns
returns c =
    as_number _ _ c.map.ensures.cases (λ x y q. search (rules, tests))
    ∙ place_back _ _ c.args.version _ (slice_back c.iter.result) (λ x b q k. search (rules, tests)) c.rposition.result c.rposition.ensures.ran
    ∙ ap (λ s. place_below s c.args.version 0) (c.iter.ensures.rest ∙ c.standing.ensures)
