-- What a clean long transfer takes. Document 02, E1.
use Rattle.std.specs.Prelude.{ℕ, ◌+◌, ◌*◌}
use Rattle.frame.specs.Choice.{pick}
use Rattle.frame.specs.Count.{frame_count_of, within}
use Rattle.frame.specs.Result.{Result, accepted, refused}
use Rattle.clean.specs.declared.Figures.{Figures}

-- E1, the tick and the frames: the first of the N information frames goes out a gap after the begin, each other one a gap
-- after the one before it, and sent is reported before the next tick; the announcement is one frame more
unfoldable pub figures_for : ℕ → ℕ → Figures
figures_for length gap =
    record { ticks = frame_count_of length * gap; frames = frame_count_of length + 1 }

-- For which lengths and gaps there are figures: document 01, Frames, those that go long, and The sender, Settings. Another
-- length is refused with the number that begin has for a length, then another gap with that of a setting (Refusals).
unfoldable pub figures_of : ℕ → ℕ → Result Figures
figures_of length gap =
    pick (within 9 length 1785)
    (pick (within 1 gap 10) (accepted (figures_for length gap)) (refused 1))
    (refused 2)
