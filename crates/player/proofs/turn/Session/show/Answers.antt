use Rattle.player.proofs.Turns.{shown_not}
use Rattle.player.proofs.turn.Session.show.Goals as goal

pub returns-else-says : goal.returns-else-says
returns-else-says c = shown_not _ _ _ _ _ c.says.ensures c.if-says.false
