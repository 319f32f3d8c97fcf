use mathlib.Core.Path.{refl}
use Rattle.player.proofs.Calls.{tried, tried_begin}
use Rattle.player.proofs.open.try_begin.Goals as goal

pub unless_refused-requires : goal.unless_refused-requires
unless_refused-requires c = tried_begin c.begin-begun.result _ _ _ _ _ c.begin-begun.ensures refl

pub returns : goal.returns
returns c = tried c.begin-begun.result _ _ _ _ _ _ _ c.begin-begun.ensures refl c.unless_refused.ensures
