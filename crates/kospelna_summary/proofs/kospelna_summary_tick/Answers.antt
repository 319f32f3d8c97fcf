-- `kospelna_summary::kospelna_summary_tick` meets its contract. The first three tests tell the ticks that are refused or emit
-- nothing; the others are the summary's.
-- Assumes nothing.
use Rattle.kospelna_summary.proofs.Laws.{ticked_unlent, ticked_refused, ticked_silently}
use Rattle.kospelna_summary.proofs.kospelna_summary_tick.Goals as goal

pub returns-then-counts-ne-SIZE : goal.returns-then-counts-ne-SIZE
returns-then-counts-ne-SIZE c = search ticked_unlent

pub returns-then-not-is_lent : goal.returns-then-not-is_lent
returns-then-not-is_lent c = ticked_refused _ _ _ _ _ c.into-then-not-is_lent-2.ensures _ _ _ c.from-2.ensures
    c.from-then-not-is_lent.ensures c.if-counts-ne-SIZE.false c.is_lent.ensures _
    c.if-not-is_lent.true c.into-then-not-is_lent.ensures c.refusing-then-not-is_lent.ensures

pub returns-then-is_silent : goal.returns-then-is_silent
returns-then-is_silent c = ticked_silently _ _ _ _ _ c.into-then-is_silent.ensures _ _ _ c.from-2.ensures
    c.from-then-is_silent.ensures c.if-counts-ne-SIZE.false c.is_lent.ensures _ _
    c.from-3.ensures c.if-not-is_lent.false c.is_silent.ensures
    c.if-is_silent.true c.tick_silently.ensures
