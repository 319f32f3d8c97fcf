use Rattle.text.proofs.Paths.{puts_nothing}
use Rattle.text.specs.Text.{sender_report}
use Rattle.text.proofs.page.Page.sender_report.Goals as goal

pub returns-in-Quiet : goal.returns-in-Quiet
unfolding sender_report
returns-in-Quiet c = rw c.in-Quiet.is (puts_nothing _)

pub returns-in-Refused : goal.returns-in-Refused
unfolding sender_report
returns-in-Refused c = rw c.in-Refused.is (puts_nothing _)

pub returns-in-Sent : goal.returns-in-Sent
unfolding sender_report
returns-in-Sent c = rw c.in-Sent.is c.sent_line.ensures

pub returns-in-Failed : goal.returns-in-Failed
unfolding sender_report
returns-in-Failed c = rw c.in-Failed.is c.failed_line.ensures
