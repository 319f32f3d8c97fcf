-- `frame::read::read` meets its contract. The tests of the range are the definition's; one judgement of the filler, from behind
-- what `used` promises, tells of a frame with a part whether it is clean, and of every other whether it is refused.
-- Assumes nothing.
use Rattle.frame.proofs.Laws.{reads}
use Rattle.frame.proofs.read.read.Goals as goal

pub returns-then-clean-has_part : goal.returns-then-clean-has_part
returns-then-clean-has_part c = search reads

pub returns-else-clean-has_part : goal.returns-else-clean-has_part
returns-else-clean-has_part c = search reads

pub returns-in_default : goal.returns-in_default
returns-in_default c = search reads

pub returns-in_default-2 : goal.returns-in_default-2
returns-in_default-2 c = search reads
