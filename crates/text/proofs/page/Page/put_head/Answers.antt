use Rattle.text.proofs.Paths.{puts_then}
use Rattle.text.specs.Text.{decimal, head_of}
use Rattle.text.proofs.page.Page.put_head.Goals as goal

pub returns : goal.returns
unfolding decimal head_of
returns c = puts_then (puts_then c.put_byte-2.ensures c.put_byte.ensures) c.put_digits.ensures
