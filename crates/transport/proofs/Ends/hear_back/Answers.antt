use Rattle.transport.proofs.Calls.{neither_forward, neither_back, back_empty, hears_back, repeats_back}
use Rattle.transport.proofs.Ends.hear_back.Goals as goal

pub returns-in_default : goal.returns-in_default
returns-in_default c = neither_forward _ _ _ c.unheard.ensures _ _ c.in_default.ensures.cases

pub returns-in_default-as_array : goal.returns-in_default-as_array
returns-in_default-as_array c =
    simp c.in-Some.ensures.cases.same
    (neither_back _ _ _ c.unheard-in_default-as_array.ensures _ _ c.in_default-as_array.ensures.cases)

pub returns-then-is_empty : goal.returns-then-is_empty
returns-then-is_empty c =
    let far = c.in-Some.ensures.cases in
    let line = c.in-Some-as_array.ensures.cases in
    simp far.same
    (back_empty _ _ _ _ _ _ c.unheard-then-is_empty.ensures far.long line.long c.is_empty.ensures c.if-is_empty.true)

pub returns-then-takes : goal.returns-then-takes
returns-then-takes c =
    let far = c.in-Some.ensures.cases in
    let line = c.in-Some-as_array.ensures.cases in
    hears_back _ c.give_back-given.result _ _ _ far.long line.long _ _ c.if-takes.true
    (simp (line.same, far.same) at c.give_back-given.ensures) c.without_back.ensures

pub returns-else-takes : goal.returns-else-takes
returns-else-takes c =
    let far = c.in-Some.ensures.cases in
    let line = c.in-Some-as_array.ensures.cases in
    repeats_back _ c.give_back-given.result _ _ _ far.long line.long _ c.if-takes.false
    (simp (line.same, far.same) at c.give_back-given.ensures)
