use Rattle.text.proofs.Paths.{puts_nothing}
use Rattle.text.specs.Text.{emitted_text}
use Rattle.text.proofs.page.Page.emitted_line.Goals as goal

pub returns-in-Some : goal.returns-in-Some
unfolding emitted_text
returns-in-Some c = rw c.in-Some.is c.frame_line.ensures

pub returns-in_default : goal.returns-in_default
unfolding emitted_text
returns-in_default c = rw c.in_default.is (puts_nothing _)
