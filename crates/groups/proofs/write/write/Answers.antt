-- `groups::write::write` meets its contract. By the length, the code's row and the values.
-- Assumes nothing.
use Rattle.std.proofs.Common.{◌≡◌, length, arith, rules}
use Rattle.groups.proofs.Laws.{row_sizes, row_numbered, found_or, write_fine}
use Rattle.groups.proofs.write.write.Goals as goal

pub store-requires : goal.store-requires
store-requires c = search (rules, row_sizes, row_numbered)

pub returns-then-row_allows : goal.returns-then-row_allows
returns-then-row_allows c =
    let eight : length c.args.bytes.now ≡ 8 = search rules in
    write_fine c.args.group c.args.bytes.now eight (grind (arith, found_or)) c.in_ok-row.was c.row_allows.ensures
    c.if-row_allows.true c.store.ensures
