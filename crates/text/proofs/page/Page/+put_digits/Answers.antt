-- `text::page::Page::put_digits` meets its contract. By the tests that the definition makes.
-- Assumes nothing.
use Rattle.text.proofs.Paths.{puts_nothing, puts_then, puts_as, no_digits, last_digit, more_digits}
use Rattle.text.proofs.page.Page.+put_digits.Goals as goal

pub returns-then-places-eq0 : goal.returns-then-places-eq0
returns-then-places-eq0 t c = puts_as (no_digits _ _ c.if-places-eq0.true) (puts_nothing _)

pub returns-then-n-lt10 : goal.returns-then-n-lt10
returns-then-n-lt10 t c =
    puts_as (last_digit _ _ c.digit.ensures c.if-places-eq0.false c.if-n-lt10.true) c.put_byte.ensures

pub returns : goal.returns
returns t c =
    puts_as (more_digits _ _ c.digit-2.ensures c.if-places-eq0.false c.if-n-lt10.false)
    (puts_then c.put_byte-2.ensures c.put_digits.ensures)
