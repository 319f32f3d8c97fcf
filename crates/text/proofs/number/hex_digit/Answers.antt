-- `text::number::hex_digit` meets its contract. By the test that the definition makes.
-- Assumes nothing.
use Rattle.text.proofs.Paths.{hex_low, hex_high}
use Rattle.text.proofs.number.hex_digit.Goals as goal

pub returns-then-n-lt10 : goal.returns-then-n-lt10
returns-then-n-lt10 c = hex_low _ c.if-n-lt10.true

pub returns-else-n-lt10 : goal.returns-else-n-lt10
returns-else-n-lt10 c = hex_high _ c.if-n-lt10.false
