-- What the code's session tells: the world and the page that its ends and lent bytes make.
use Rattle.std.specs.Prelude.{◌≡◌}
use Rattle.player.specs.State.{Turned, turned}
use Rattle.player.specs.declared.turn.Session.{Session}
use Rattle.text.specs.Page.{Page, page}
use Rattle.transport.specs.Answer.{world_of}
use Rattle.transport.specs.World.{World}
use Rattle.transport.specs.declared.Ends.{Ends}

-- the world of these ends, on the session's lines and buffer
abbrev pub at_ends : Session → Ends → World
at_ends s ends = world_of ends s.forward.now s.back.now s.buffer.now

abbrev pub world_in : Session → World
world_in s = at_ends s s.ends

abbrev pub page_in : Session → Page
page_in s = page s.out.now s.at

-- what is lent is what was lent
pub record Keeps (old new : Session) : Type 0 where
  pub message : new.message ≡ old.message
  pub buffer : new.buffer.ghost_name ≡ old.buffer.ghost_name
  pub forward : new.forward.ghost_name ≡ old.forward.ghost_name
  pub back : new.back.ghost_name ≡ old.back.ghost_name
  pub out : new.out.ghost_name ≡ old.out.ghost_name

-- and the session stands there
pub record Goes (old new : Session) (to : Turned) : Type 0 where
  pub keeps : Keeps old new
  pub holds : turned (world_in new) (page_in new) ≡ to
