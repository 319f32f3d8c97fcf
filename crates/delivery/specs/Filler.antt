-- Document 02, E3: what is promised of sent messages stays for a sender that fills as document 01 says. Ours does, so that in a
-- list of calls that meets the conditions of demand 3 no hearing is refused 14, and demand 3 speaks of the same hearings as
-- before. Of these conditions it needs what is asked of an accepted begin, that the receiver is idle and forward empty: else a
-- connection may hear frame N of another message, a longer one, with bytes of it where filler is due.
use Rattle.std.specs.Prelude.{List, [], ◌∷◌, ◌≡◌}
use Rattle.receiver.specs.Told as receiver
use Rattle.delivery.specs.Demand3.{Conditions}
use Rattle.delivery.specs.Run.{Line, Past, FromFresh, run_of}
use Rattle.transport.specs.Capped.{capped_step}
use Rattle.transport.specs.Step.{step_of}
use Rattle.transport.specs.World.{Call, Event, Given, nobody, to_sender, to_receiver}

-- if the receiver was given a frame, it did not refuse it by 14
abbrev pub HeardFilled : Given → receiver.Outcome → Type 0
HeardFilled nobody o = Unit
HeardFilled (to_sender f) o = Unit
HeardFilled (to_receiver f) o = o ≡ receiver.refused 14 → ⊥

-- so at every event
abbrev pub AllFilled : List Event → Type 0
AllFilled [] = Unit
AllFilled (e ∷ past) = HeardFilled e.given e.receiver × AllFilled past

-- of a list of calls, on a line, that meets the conditions of demand 3
abbrev pub FilledAfter : Line → Past → List Call → Type 0
FilledAfter line p calls = Conditions line p calls → AllFilled (run_of line p calls).events

-- from fresh ends on
abbrev pub NeverUncleanOn : Line → Type 0
NeverUncleanOn line = FromFresh (FilledAfter line)

-- on the line that keeps every frame, and at a line of 64
pub record NeverUnclean : Type 0 where
  pub line : NeverUncleanOn step_of
  pub capped : NeverUncleanOn capped_step
