-- `text::page::Page::put_digits` meets its contract. The measure is the number of places.
-- Assumes nothing.
use Rattle.text.proofs.page.Page.+put_digits.Given as goal

abbrev pub decreases-put_digits : goal.decreases-put_digits
decreases-put_digits l = l.places
