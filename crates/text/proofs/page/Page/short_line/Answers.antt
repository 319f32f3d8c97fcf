use Rattle.text.proofs.Paths.{puts_then}
use Rattle.text.specs.Text.{short_line}
use Rattle.text.proofs.page.Page.short_line.Goals as goal

pub returns : goal.returns
unfolding short_line
returns c = puts_then (puts_then (puts_then c.put_byte.ensures c.put_hexes.ensures) c.put_text.ensures) c.put_head.ensures
