-- `version::Versions::rising` meets its contract. Each version that stands is tested against the next.
-- Assumes nothing.
use Rattle.std.proofs.Common.{◌∙◌, ap, arith, ltb, rules, take_all, tests}
use Rattle.std.proofs.lemmas.List.Sorted.{answers_always}
use Rattle.version.proofs.Laws.{rising_sorted}
use Rattle.version.specs.List.{rising}
use Rattle.version.proofs.Versions.rising.Goals as goal

pub returns : goal.returns
returns c =
    rising_sorted _ _
    (c.is_sorted_by.ensures.cases (λ v w. ltb v w) (answers_always _ _ _ (λ f a r h k. search (rules, tests))))
    ∙ ap rising (grind (arith, take_all))
