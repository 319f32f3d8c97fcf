use Rattle.text.proofs.Paths.{puts_nothing}
use Rattle.text.specs.Text.{receiver_report}
use Rattle.text.proofs.page.Page.receiver_report.Goals as goal

pub returns-in-Quiet : goal.returns-in-Quiet
unfolding receiver_report
returns-in-Quiet c = rw c.in-Quiet.is (puts_nothing _)

pub returns-in-Refused : goal.returns-in-Refused
unfolding receiver_report
returns-in-Refused c = rw c.in-Refused.is (puts_nothing _)

pub returns-in-Delivered : goal.returns-in-Delivered
unfolding receiver_report
returns-in-Delivered c = rw c.in-Delivered.is c.delivered_line.ensures

pub returns-in-Failed : goal.returns-in-Failed
unfolding receiver_report
returns-in-Failed c = rw c.in-Failed.is c.closed_line.ensures

pub returns-in-Short : goal.returns-in-Short
unfolding receiver_report
returns-in-Short c = rw c.in-Short.is c.short_line.ensures
