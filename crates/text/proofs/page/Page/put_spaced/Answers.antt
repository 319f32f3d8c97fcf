use Rattle.text.proofs.Paths.{puts_then}
use Rattle.text.specs.Text.{decimal, spaced}
use Rattle.text.proofs.page.Page.put_spaced.Goals as goal

pub returns : goal.returns
unfolding decimal spaced
returns c = puts_then c.put_digits.ensures c.put_byte.ensures
