-- `line::frame_at` meets its contract. The nine bytes of the place are the frame of the definition.
-- Assumes nothing.
use lib.Seq.{set-get_or}
use Rattle.line.proofs.Laws.{nine_read}
use Rattle.line.proofs.frame_at.Goals as goal

pub returns : goal.returns
returns c =
    simp (c.from-at.ensures, set-get_or)
    (nine_read _ _ _ c.told-places c.requires (simp c.from-at.ensures at c.copy_from_slice.ensures.after))
