-- What the player's calls answer. A pack is opened; its message is begun; its events are played, at most 128 in a call; what
-- is printed stands in a lent page of 16384 bytes, from its first place on.
use Rattle.std.specs.Prelude.{ℕ, suc, ◌+◌, ◌-◌, min, Bool, ◌&&◌, List, eqb, leb, length, take, drop}
use Rattle.frame.specs.Choice.{pick}
use Rattle.pack.specs.Pack.{message_of, events_of}
use Rattle.pack.specs.declared.Bodies.{Bodies}
use Rattle.player.specs.Events.{events_from, world_after}
use Rattle.player.specs.State.{Turned, turned, printed}
use Rattle.transport.specs.Capped.{capped_step}
use Rattle.player.specs.Text.{text_of}
use Rattle.player.specs.declared.Player.{Player}
use Rattle.player.specs.declared.Progress.{Progress}
use Rattle.text.specs.Page.{Page, page, put}
use Rattle.transport.specs.Answer.{world_of}
use Rattle.transport.specs.World.{World, begin}

-- the world, the bodies, the number of events played, and the page
pub record Progressed : Type 0 where
  pub world : World
  pub bodies : Bodies
  pub played : ℕ
  pub page : Page

abbrev pub progressed : Turned → Bodies → ℕ → Progressed
progressed t b played = record { world = t.world; bodies = b; played = played; page = t.page }

-- what is told of a call's answer, with the lent lines, buffer and page as the call leaves them
abbrev pub told_progress : Progress → List ℕ → List ℕ → List ℕ → List ℕ → Progressed
told_progress r forward back buffer out =
    progressed (turned (world_of r.player.ends forward back buffer) (page out r.written))
    r.player.bodies r.player.played

-- the lent lengths: 576 for a line, 16384 for the page; lent anything else, nothing happens
abbrev pub begins_on : List ℕ → List ℕ → Bool
begins_on forward out = eqb (length forward) 576 && eqb (length out) 16384

abbrev pub plays_on : List ℕ → List ℕ → List ℕ → Bool
plays_on forward back out = eqb (length forward) 576 && eqb (length back) 576 && eqb (length out) 16384

-- begin, printed under number 0
unfoldable pub begin_of : List ℕ → Player → List ℕ → List ℕ → List ℕ → List ℕ → Progressed
begin_of bytes q forward back buffer out =
    let w = world_of q.ends forward back buffer in
    progressed
    (pick (begins_on forward out)
    (printed (capped_step w (begin (message_of bytes q.bodies))) 0 (page out 0))
    (turned w (page out 0)))
    q.bodies q.played

-- events one after the other, numbered from here
unfoldable pub playing : World → List ℕ → List ℕ → ℕ → Page → Turned
playing w message events number p =
    turned (world_after w message events) (put p (text_of number (events_from w message events)))

-- the next events of a pack: 128 of them, or as many as there are (a pack has fewer than 65535)
unfoldable pub next_events : List ℕ → Player → List ℕ
next_events bytes q = take (min 128 (65535 - q.played)) (drop q.played (events_of bytes q.bodies))

unfoldable pub play_of : List ℕ → Player → List ℕ → List ℕ → List ℕ → List ℕ → Progressed
play_of bytes q forward back buffer out =
    let w = world_of q.ends forward back buffer in
    let events = next_events bytes q in
    pick (plays_on forward back out)
    (progressed (playing w (message_of bytes q.bodies) events (suc q.played) (page out 0))
    q.bodies (q.played + length events))
    (progressed (turned w (page out 0)) q.bodies q.played)

-- every event has been played
abbrev pub is_finished : Player → Bool
is_finished q = leb q.bodies.events q.played
