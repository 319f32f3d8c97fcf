-- `version::Versions::find` meets its contract. The chain finds the first place that holds the version.
-- Assumes nothing.
use Rattle.std.proofs.Common.{◌∙◌, eqb, rules, tests, take}
use Rattle.std.proofs.lemmas.Iterator.{YieldsList-from_slice}
use Rattle.std.proofs.lemmas.Iterator.Adapters.{position_from-zero}
use Rattle.std.proofs.lemmas.Iterator.Search.{position_from_yields_List}
use Rattle.version.proofs.Laws.{as_number, place_first}
use Rattle.version.proofs.Versions.find.Goals as goal

pub returns : goal.returns
returns c =
    as_number _ _ c.map.ensures.cases (λ x y q. search (rules, tests))
    ∙ position_from_yields_List (λ v. eqb v c.args.version) _ _ c.position.result c.position.ensures.ran
    (YieldsList-from_slice (take c.args.self.count c.args.self.numbers) cc)
    (λ x b q k. search (rules, tests))
    ∙ position_from-zero (λ v. eqb v c.args.version) _
    ∙ place_first _ _ _
