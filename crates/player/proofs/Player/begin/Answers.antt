-- `player::Player::begin` meets its contract. By the lent lengths.
-- Assumes nothing.
use borrow.Author.Rules.{rules}
use Rattle.player.proofs.Calls.{begin_there, begin_no_line, begin_no_page}
use Rattle.player.proofs.Turns.{begin_shown}
use Rattle.player.proofs.Player.begin.Goals as goal

pub returns-in_default : goal.returns-in_default
returns-in_default c = begin_no_line _ _ _ _ _ c.unchanged.ensures c.in_default.ensures.cases

pub returns-then-out-ne-PAGE : goal.returns-then-out-ne-PAGE
returns-then-out-ne-PAGE c =
    let line = c.in-Some.ensures.cases in
    simp line.same (begin_no_page _ _ _ _ _ c.unchanged-then-out-ne-PAGE.ensures line.long c.if-out-ne-PAGE.true)

pub returns : goal.returns
returns c =
    let line = c.in-Some.ensures.cases in
    begin_there _ _ _ _ _ _ _ _ _ _ _ line c.if-out-ne-PAGE.false c.message_in-message.ensures
    (begin_shown c.begin-a.result _ _ _ _ _ _ (search rules) c.begin-a.ensures c.lines-at.ensures) c.after.ensures
