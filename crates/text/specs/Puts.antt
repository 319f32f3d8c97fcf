-- What the code's page tells of a text that was put into it.
use Rattle.std.specs.Prelude.{List, ℕ, ◌≡◌}
use Rattle.text.specs.Page.{Page, page, put}
use Rattle.text.specs.declared.page.Page as lent

-- the lent bytes, and the place
abbrev pub page_of : lent.Page → Page
page_of p = page p.bytes.now p.place

-- the text stands there, and the slice is the one that was lent
pub record Puts (old new : lent.Page) (text : List ℕ) : Type 0 where
  pub same : new.bytes.ghost_name ≡ old.bytes.ghost_name
  pub holds : page_of new ≡ put (page_of old) text
