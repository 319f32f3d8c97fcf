-- `player::Player::open` meets its contract. By what reading the pack answered.
-- Assumes nothing.
use Rattle.player.proofs.Calls.{with_bodies, no_bodies}
use Rattle.transport.proofs.Making.{handed_on}
use Rattle.player.proofs.Player.open.Goals as goal

pub returns-in_err-bodies : goal.returns-in_err-bodies
returns-in_err-bodies c = handed_on _ _ c.from_residual.ensures.1 (no_bodies _ _ c.in_err-bodies.ensures)

pub returns : goal.returns
returns c = with_bodies _ _ _ c.in_ok-bodies.ensures c.open_bodies.ensures
