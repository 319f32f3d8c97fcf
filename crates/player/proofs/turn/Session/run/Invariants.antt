-- `player::turn::Session::run` meets its contract. The invariant: playing the events that are left, from here, gives what
-- playing all gives from the start.
-- Assumes nothing.
use Prim.Native.Nat.{suc, ◌+◌}
use mathlib.Core.Path.{◌≡◌}
use lib.ListN.{drop}
use Rattle.player.specs.Calls.{playing}
use Rattle.player.specs.Session.{Keeps, world_in, page_in}
use Rattle.player.proofs.turn.Session.run.Given as goal

abbrev pub invariant-loop-before : goal.invariant-loop-before
invariant-loop-before l =
    record {
      keeps : Keeps l.initial.self l.self;
      leads :
          playing (world_in l.self) l.self.message.now (drop l.before l.events) (suc (l.played + l.before)) (page_in l.self)
          ≡ playing (world_in l.initial.self) l.initial.self.message.now l.events (suc l.played) (page_in l.initial.self);
    }
