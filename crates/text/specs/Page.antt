-- Where the printed lines go: a lent slice and the place where the next byte goes.
use Rattle.std.specs.Prelude.{ℕ, ◌+◌, List, [], ◌∷◌, ltb, length, set}
use Rattle.frame.specs.Choice.{pick}

pub record Page : Type 0 where
  pub bytes : List ℕ
  pub place : ℕ

abbrev pub page : List ℕ → ℕ → Page
page bytes place = record { bytes = bytes; place = place }

-- a byte goes to the place, and the place moves on; on a full slice both stay
unfoldable pub byte_at : Page → ℕ → Page
byte_at p b = pick (ltb p.place (length p.bytes)) (page (set p.bytes p.place b) (p.place + 1)) p

-- one byte of a text after the other
unfoldable pub put : Page → List ℕ → Page
put p [] = p
put p (b ∷ text) = put (byte_at p b) text
