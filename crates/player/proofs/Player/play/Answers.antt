-- `player::Player::play` meets its contract. By the lent lengths. The events that are lent to the run are the pack's
-- next ones.
-- Assumes nothing.
use borrow.Author.Rules.{rules}
use Rattle.player.proofs.Calls.{play_there, play_no_forward, play_no_back, play_no_page}
use Rattle.player.proofs.Player.play.Goals as goal

pub returns-in_default : goal.returns-in_default
returns-in_default c = play_no_forward _ _ _ _ _ _ _ c.unchanged.ensures c.in_default.ensures.cases

pub returns-in_default-as_mut_array : goal.returns-in_default-as_mut_array
returns-in_default-as_mut_array c =
    let line = c.in-Some.ensures.cases in
    simp line.same (play_no_back _ _ _ _ _ _ _ c.unchanged-in_default-as_mut_array.ensures line.long c.in_default-as_mut_array.ensures.cases)

pub returns-then-out-ne-PAGE : goal.returns-then-out-ne-PAGE
returns-then-out-ne-PAGE c =
    let line = c.in-Some.ensures.cases in
    let far = c.in-Some-as_mut_array.ensures.cases in
    simp (line.same, far.same) (play_no_page _ _ _ _ _ _ _ c.unchanged-then-out-ne-PAGE.ensures line.long far.long c.if-out-ne-PAGE.true)

pub returns : goal.returns
returns c = play_there _ _ _ _ _ _ _ _ _ _ _ _ _ _ _ _ _ _ _ c.in-Some.ensures.cases c.in-Some-as_mut_array.ensures.cases
    c.if-out-ne-PAGE.false c.message_in-message.ensures
    c.next_event.ensures c.most.ensures.2 c.part-events.ensures
    (search rules) c.after.ensures
