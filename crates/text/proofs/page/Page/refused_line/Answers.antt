use Rattle.text.proofs.Paths.{puts_then}
use Rattle.text.specs.Text.{refused_text}
use Rattle.text.proofs.page.Page.refused_line.Goals as goal

pub returns : goal.returns
unfolding refused_text
returns c = puts_then (puts_then c.put_byte.ensures (simp c.from.ensures at c.put_spaced.ensures)) c.put_text.ensures
