use Rattle.transport.proofs.Calls.{neither_forward, neither_back, forward_empty, hears_forward, repeats_forward}
use Rattle.transport.proofs.Ends.hear_forward.Goals as goal

pub returns-in_default : goal.returns-in_default
returns-in_default c = neither_forward _ _ _ c.unheard.ensures _ _ c.in_default.ensures.cases _

pub returns-in_default-as_mut_array : goal.returns-in_default-as_mut_array
returns-in_default-as_mut_array c =
    neither_back _ _ _ c.unheard-in_default-as_mut_array.ensures _ _ c.in_default-as_mut_array.ensures.cases _

pub returns-then-is_empty : goal.returns-then-is_empty
returns-then-is_empty c =
    let line = c.in-Some.ensures.cases in
    let far = c.in-Some-as_mut_array.ensures.cases in
    simp far.same
    (forward_empty _ _ _ _ _ _ c.unheard-then-is_empty.ensures line.long far.long c.is_empty.ensures c.if-is_empty.true _)

pub returns-then-takes : goal.returns-then-takes
returns-then-takes c =
    let line = c.in-Some.ensures.cases in
    let far = c.in-Some-as_mut_array.ensures.cases in
    hears_forward _ c.give_forward-given.result _ _ _ line.long far.long _ _ _ _ c.if-takes.true
    (simp (line.same, far.same) at c.give_forward-given.ensures) c.without_forward.ensures

pub returns-else-takes : goal.returns-else-takes
returns-else-takes c =
    let line = c.in-Some.ensures.cases in
    let far = c.in-Some-as_mut_array.ensures.cases in
    repeats_forward _ c.give_forward-given.result _ _ _ line.long far.long _ _ _ c.if-takes.false
    (simp (line.same, far.same) at c.give_forward-given.ensures)
