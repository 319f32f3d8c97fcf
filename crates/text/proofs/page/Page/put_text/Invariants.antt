-- `text::page::Page::put_text` meets its contract. The invariant: what the bytes so far give is put.
-- Assumes nothing.
use lib.ListN.{take}
use Rattle.text.specs.Puts.{Puts}
use Rattle.text.proofs.page.Page.put_text.Given as goal

abbrev pub invariant-loop-byte : goal.invariant-loop-byte
invariant-loop-byte l = Puts l.initial.page l.page (take l.byte-index l.text)
