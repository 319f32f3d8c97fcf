-- Document 02, E5: a charger and a vehicle that settle their version, the line between them, the calls and what is seen of
-- each. The line is that of document 01, The line, with version messages on it: a list for each direction.
use Rattle.std.specs.Prelude.{ℕ, List, []}
use Rattle.version.specs.Told.{Outcome}
use Rattle.version.specs.declared.Side.{Side}
use Rattle.version.specs.declared.Talker.{Talker}

-- The two ends, and the messages (eight bytes each) on their way to each of them, the oldest first: a list for each direction,
-- named by the end that it leads to.
pub record World : Type 0 where
  pub charger : Talker
  pub vehicle : Talker
  pub to_charger : List (List ℕ)
  pub to_vehicle : List (List ℕ)

-- document 01, The line: both lists are empty at first
abbrev pub start_of : Talker → Talker → World
start_of charger vehicle = record { charger = charger; vehicle = vehicle; to_charger = []; to_vehicle = [] }

-- What is done at an end: a talker's own calls (001, tables 8 and 9: the connection, a tick of the timers, a stop, the old
-- protocol's greeting, and in table 9 the charger's functions), and what can become of the first message on its way there
-- (document 01, The line): at hear it is given and gone, at repeat given and still there, at lose gone and not given.
pub data Action : Type 0 where
  connect : Action
  tick : Action
  hear : Action
  repeat : Action
  lose : Action
  stop : Action
  greet : Action
  functions_heard : Action

pub record Call : Type 0 where
  pub side : Side
  pub action : Action

-- what is seen of a call: which it was, and what the end reported
pub record Event : Type 0 where
  pub side : Side
  pub action : Action
  pub outcome : Outcome
