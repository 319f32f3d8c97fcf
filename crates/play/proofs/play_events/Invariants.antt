-- What the calls print has been written out.
use Rattle.std.proofs.Common.{◌≡◌, ℕ, List, length}
use Rattle.std.specs.Io.KnownBytes.{Appends}
use Rattle.player.specs.Whole.{held, Plays}
use Rattle.play.proofs.play_events.Given as goal

abbrev pub invariant-loop-calls : goal.invariant-loop-calls
invariant-loop-calls g l =
    length l.initial.page ≡ 16384
    → (text : List ℕ)
    × Plays l.pack l._calls (held l.initial.player l.initial.forward l.initial.back l.initial.buffer) text
    (held l.player l.forward l.back l.buffer)
    × Appends (g.W.Write.contents l.initial.out) (g.W.Write.contents l.out) text
