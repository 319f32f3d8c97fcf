-- A refusal's line is all that is played of a pack that is refused.
use Rattle.std.proofs.Common.{ap, sym, ◌∙◌, subst, OnOk}
use Rattle.std.specs.Io.KnownBytes.{Appends}
use Rattle.play.proofs.print_pack.Goals as goal
use Rattle.frame.specs.Result.{told_result}
use Rattle.player.specs.Played.{played, played_opened}

pub returns-in-Err : goal.returns-in-Err
unfolding played played_opened
returns-in-Err g c =
    let told = ap told_result (sym c.in-Err.is) ∙ c.open.ensures in
    let shown = Appends (g.W.Write.contents c.args.out.now) (g.W.Write.contents c.refuse.new.out) in
    subst (λ l. OnOk c.refuse.result (shown l)) (ap (played_opened c.args.pack.now) told) c.refuse.ensures
