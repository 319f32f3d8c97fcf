-- A refusal's line fits its page.
use Rattle.std.proofs.Common.{take, arith, ap, subst, ◌∙◌, OnOk}
use Rattle.std.specs.Io.KnownBytes.{Appends}
use Rattle.frame.specs.Result.{number_of}
use Rattle.player.proofs.Steps.{page_shows}
use Rattle.text.proofs.Laws.{refused_text_length}
use Rattle.text.specs.Page.{Page}
use Rattle.text.specs.Text.{refused_text}
use Rattle.play.proofs.refuse.Goals as goal

pub returns : goal.returns
returns g c =
    let number = number_of c.args.refusal in
    let line =
    ap (λ (p : Page). take p.place p.bytes) (rw c.from.ensures at c.refused_line-written.ensures)
    ∙ page_shows _ (refused_text number) (omega (arith, refused_text_length number)) in
    let shown = Appends (g.W.Write.contents c.args.out.now) (g.W.Write.contents c.show.new.out) in
    subst (λ l. OnOk c.show.result (shown l)) line c.show.ensures
