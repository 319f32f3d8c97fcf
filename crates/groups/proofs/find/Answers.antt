-- `groups::find` meets its contract. The code's table is the definition's.
-- Assumes nothing.
use Rattle.std.proofs.Common.{◌≡◌, ◌∙◌, sym, eqb, rules, tests}
use Rattle.std.specs.List.{find}
use Rattle.std.proofs.lemmas.Iterator.{YieldsList-from_slice}
use Rattle.std.proofs.lemmas.Iterator.Adapters.{option_map_id}
use Rattle.std.proofs.lemmas.Iterator.Consumers.{YieldsList-from_copied}
use Rattle.std.proofs.lemmas.Iterator.Search.{find_from_yields_List}
use Rattle.groups.specs.Table.{rows}
use Rattle.groups.specs.declared.Row.{Row}
use Rattle.groups.proofs.Tables.{row_found}
use Rattle.groups.proofs.find.Goals as goal

pub returns : goal.returns
unfolding rows
returns c =
    let found : c.find.result ≡ find (λ (x : Row). eqb x.code c.args.code) rows =
    sym (option_map_id _)
    ∙ find_from_yields_List (λ (x : Row). eqb x.code c.args.code) _ _ c.find.result c.find.ensures.ran
    (YieldsList-from_copied (YieldsList-from_slice rows cc)) (λ x b q k. search (rules, tests)) in
    rw (c.ok_or.ensures.value, found) (row_found c.args.code rows)
