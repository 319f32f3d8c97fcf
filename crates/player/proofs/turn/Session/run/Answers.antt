-- `player::turn::Session::run` meets its contract. One event after the other is played.
-- Assumes nothing.
use native.Mathlib.Omega.{arith}
use Rattle.player.proofs.Calls.{plays_one, plays_none}
use Rattle.player.proofs.Turns.{keeps_on}
use Rattle.player.proofs.turn.Session.run.Goals as goal

pub loop-before-preserved : goal.loop-before-preserved
loop-before-preserved c =
    let inv = c.loop-before.invariant in
    let turn = c.turn.ensures in
    record {
      keeps = keeps_on inv.keeps turn.keeps;
      leads = rw turn.keeps.message (plays_one _ _ _ _ _ _ _ _ _ _ c.loop-before-test.true turn.holds inv.leads (omega arith));
    }

pub returns : goal.returns
returns c =
    let inv = c.loop-before.invariant in
    record { keeps = inv.keeps; holds = plays_none _ _ _ _ _ _ c.loop-before-test.false inv.leads }
