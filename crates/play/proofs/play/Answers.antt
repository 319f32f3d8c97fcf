-- The calls joined print what is played.
use Rattle.std.proofs.Common.{refl}
use Rattle.player.specs.Whole.{begins}
use Rattle.play.proofs.Calls.{played_out}
use Rattle.play.proofs.play.Goals as goal

pub returns : goal.returns
returns g c = λ ready.
    played_out _ _ _ _ _ _ c.args.player _ ready
    (begins c.begin-begun.result _ _ _ _ _ refl c.begin-begun.auto.forward refl refl c.begin-begun.ensures)
    c.in_ok-show.ensures (c.play_events.ensures c.begin-begun.auto.out)
