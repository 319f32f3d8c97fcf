-- What was read is enough of the input.
use Rattle.play.proofs.Calls.{on_ok}
use Rattle.play.proofs.Input.{played_given}
use Rattle.play.proofs.run.Goals as goal

pub returns : goal.returns
returns g c = on_ok c.print_pack.result (played_given _ _ _ _ c.in_ok-given.ensures.bytes) c.print_pack.ensures
