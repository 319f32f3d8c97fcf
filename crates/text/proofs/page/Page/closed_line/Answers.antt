use Rattle.text.proofs.Paths.{puts_then}
use Rattle.text.specs.Text.{closed_line}
use Rattle.text.proofs.page.Page.closed_line.Goals as goal

pub returns : goal.returns
unfolding closed_line
returns c = puts_then (puts_then (puts_then c.put_byte.ensures (simp c.from.ensures at c.put_spaced.ensures)) c.put_text.ensures) c.put_head.ensures
