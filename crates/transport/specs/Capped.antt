-- Document 01, The player: its line has room for 64 frames in each direction.
use Rattle.std.specs.Prelude.{take}
use Rattle.transport.specs.Step.{Stepped, with_lines, step_of}
use Rattle.transport.specs.World.{World, Call}

-- of a list that a frame joined, the first 64 stay
unfoldable pub capped : World → World
capped w = with_lines w (take 64 w.forward) (take 64 w.back)

-- a step at a line of 64; a frame that is lost was emitted all the same
abbrev pub at_line : Stepped → Stepped
at_line s = record { world = capped s.world; event = s.event }

unfoldable pub capped_step : World → Call → Stepped
capped_step w c = at_line (step_of w c)
