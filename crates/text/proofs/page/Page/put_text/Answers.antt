-- `text::page::Page::put_text` meets its contract. The bytes are put one after the other.
-- Assumes nothing.
use borrow.Author.Rules.{rules}
use mathlib.Core.Path.{refl, sym}
use Rattle.text.proofs.Paths.{puts_nothing, puts_lent, text_more, text_ends}
use Rattle.text.proofs.page.Page.put_text.Goals as goal

pub loop-byte-init : goal.loop-byte-init
loop-byte-init c = puts_nothing _

pub loop-byte-preserved : goal.loop-byte-preserved
loop-byte-preserved c = text_more _ _ c.loop-byte-test.true c.put_byte.ensures c.loop-byte.invariant

pub returns : goal.returns
returns c =
    puts_lent (text_ends _ _ c.loop-byte-test.false c.loop-byte.invariant) refl refl
    (let same = sym c.loop-byte.invariant.same in search rules) refl
