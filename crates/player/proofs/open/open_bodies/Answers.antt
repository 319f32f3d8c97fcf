use Rattle.player.proofs.Calls.{no_ends, with_ends}
use Rattle.transport.proofs.Making.{handed_on}
use Rattle.player.proofs.open.open_bodies.Goals as goal

pub returns-in_err-ends : goal.returns-in_err-ends
returns-in_err-ends c =
    let made = simp (c.from.ensures, c.from-2.ensures) at c.in_err-ends.ensures in
    handed_on _ _ c.from_residual.ensures.1 (no_ends _ _ _ made)

pub returns : goal.returns
returns c =
    let made = simp (c.from.ensures, c.from-2.ensures) at c.in_ok-ends.ensures in
    with_ends _ _ _ _ _ made c.message_in-message.ensures c.try_begin.ensures
