use Rattle.text.proofs.Paths.{puts_then}
use Rattle.text.specs.Text.{frame_line}
use Rattle.text.proofs.page.Page.frame_line.Goals as goal

pub returns : goal.returns
unfolding frame_line
returns c = puts_then (puts_then (puts_then c.put_byte.ensures c.put_hexes.ensures) (simp c.from.ensures at c.put_spaced.ensures)) c.put_head.ensures
