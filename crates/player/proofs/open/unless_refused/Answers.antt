use Rattle.player.proofs.Calls.{unless_refused_lem, unless_other}
use Rattle.player.proofs.open.unless_refused.Goals as goal

pub begin_refusal-requires : goal.begin_refusal-requires
begin_refusal-requires c = rw c.in-Refused.is at c.requires

pub returns-in-Refused : goal.returns-in-Refused
returns-in-Refused c = unless_refused_lem _ _ _ c.begin_refusal.ensures c.in-Refused.is

pub returns-in_default : goal.returns-in_default
returns-in_default c = unless_other _ _ c.in_default.not-Refused
