-- Document 01, The player: a run pack is opened or refused, and what is printed of it.
use Rattle.std.specs.Prelude.{ℕ, List, replicate, ◌⊎◌, ◌≡◌}
use Rattle.frame.specs.Result.{Result, accepted, refused}
use Rattle.pack.specs.Pack.{bodies_of, message_of, events_of}
use Rattle.pack.specs.declared.Bodies.{Bodies}
use Rattle.player.specs.Events.{run_from}
use Rattle.player.specs.Text.{text_of}
use Rattle.player.specs.declared.Player.{Player}
use Rattle.sender.specs.Told as sender
use Rattle.text.specs.Text.{refused_text}
use Rattle.transport.specs.Capped.{capped_step}
use Rattle.transport.specs.Make.{make_of}
use Rattle.transport.specs.World.{World, Event, begin, start_of}
use Rattle.transport.specs.declared.Ends.{Ends}

-- ---- opening

-- the ends of a pack's settings: G, T and M are the sender's; the other T, C and K the receiver's
abbrev pub made_for : Bodies → Result Ends
made_for b =
    let s = b.settings in
    make_of s.gap s.timeout s.limit s.patience s.window s.capacity

-- the ends just made, at an empty line, and a receiving buffer of zeros
abbrev pub start : Ends → World
start ends = start_of ends.sender ends.receiver (replicate 1785 0)

-- the ends and the bodies of a pack, nothing played
abbrev pub player_for : Ends → Bodies → Player
player_for ends b = record { ends = ends; bodies = b; played = 0 }

-- what a begin may report: where it is refused, then 2 for the message's length, or 3 while a transfer goes on
abbrev pub ByBegin : ℕ → Type 0
ByBegin number = (number ≡ 2) ⊎ (number ≡ 3)

abbrev pub OfBegin : sender.Outcome → Type 0
OfBegin sender.quiet = Unit
OfBegin (sender.refused number) = ByBegin number
OfBegin (sender.sent ticks frames) = Unit
OfBegin (sender.failed cause ticks frames) = Unit

-- the message's length is judged last, by what a begin of it reports
abbrev pub unless_refused : sender.Outcome → Player → Result Player
unless_refused sender.quiet q = accepted q
unless_refused (sender.refused number) q = refused number
unless_refused (sender.sent ticks frames) q = accepted q
unless_refused (sender.failed cause ticks frames) q = accepted q

-- before it the settings: a refusal of making the ends is the pack's
unfoldable pub opened_with : List ℕ → Bodies → Result Ends → Result Player
opened_with message b (refused number) = refused number
opened_with message b (accepted ends) =
    unless_refused (capped_step (start ends) (begin message)).event.sender (player_for ends b)

-- Bodies, "Anything else is 12; after that": first the pack's form is judged
unfoldable pub opened_bodies : List ℕ → Result Bodies → Result Player
opened_bodies bytes (refused number) = refused number
opened_bodies bytes (accepted b) = opened_with (message_of bytes b) b (made_for b)

unfoldable pub open_of : List ℕ → Result Player
open_of bytes = opened_bodies bytes (bodies_of bytes)

-- ---- what is printed

-- the events of a pack's run
unfoldable pub run_of : List ℕ → Player → List Event
run_of bytes q = run_from (start q.ends) (message_of bytes q.bodies) (events_of bytes q.bodies)

-- What is printed of a pack, "It prints": of a refused one the refusal's line and nothing else; of another the lines of the
-- begin, which is number 0, and of each event after it
unfoldable pub played_opened : List ℕ → Result Player → List ℕ
played_opened bytes (refused number) = refused_text number
played_opened bytes (accepted q) = text_of 0 (run_of bytes q)

-- what is printed of these bytes, whatever they are
unfoldable pub played : List ℕ → List ℕ
played bytes = played_opened bytes (open_of bytes)
