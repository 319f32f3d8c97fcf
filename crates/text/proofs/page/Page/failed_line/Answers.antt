use Rattle.text.proofs.Paths.{puts_then}
use Rattle.text.specs.Text.{failed_line}
use Rattle.text.proofs.page.Page.failed_line.Goals as goal

pub returns : goal.returns
unfolding failed_line
returns c = puts_then (puts_then (puts_then (puts_then (puts_then c.put_byte.ensures c.put_spaced-3.ensures) c.put_spaced-2.ensures) (simp c.from.ensures at c.put_spaced.ensures)) c.put_text.ensures) c.put_head.ensures
