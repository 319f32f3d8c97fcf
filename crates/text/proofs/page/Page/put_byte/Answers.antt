-- `text::page::Page::put_byte` meets its contract. By the test that the definition makes.
-- Assumes nothing.
use mathlib.Core.Path.{refl}
use Rattle.text.proofs.Paths.{byte_put, byte_left_out}
use Rattle.text.proofs.page.Page.put_byte.Goals as goal

pub returns-then-self : goal.returns-then-self
returns-then-self c = record { same = refl; holds = byte_put _ _ _ c.if-self.true }

pub returns-else-self : goal.returns-else-self
returns-else-self c = record { same = refl; holds = byte_left_out _ _ _ c.if-self.false }
