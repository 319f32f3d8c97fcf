-- Document 01, The line, with version messages on it: what each call does to the ends and the line, and what is seen of it.
-- What an end does is said by the talker's own definitions; here stands only what the line adds.
use Rattle.std.specs.Prelude.{ℕ, Bool, true, false, List, [], ◌∷◌, ◌++◌}
use Rattle.version.specs.Talk.{connect_of, stop_of, greet_of, functions_heard_of, hear_of, tick_of}
use Rattle.version.specs.Told.{Told, silently}
use Rattle.version.specs.declared.Side.{Side}
use Rattle.version.specs.declared.Side.TheVariants.{Charger, Vehicle}
use Rattle.version.specs.declared.Talker.{Talker}
use Rattle.agreement.specs.World.{World, Action, connect, tick, hear, repeat, lose, stop, greet, functions_heard, Call, Event}

-- what an end told, and what is left of the messages on their way to it
pub record Done : Type 0 where
  pub told : Told
  pub rest : List (List ℕ)

abbrev pub done : Told → List (List ℕ) → Done
done told rest = record { told = told; rest = rest }

-- what is left of a list whose first message was given: hear removes it, repeat does not
pub data Rest : Type 0 where
  gone : Rest
  still : Rest

abbrev pub leaving : Rest → List ℕ → List (List ℕ) → List (List ℕ)
leaving gone m rest = rest
leaving still m rest = m ∷ rest

-- the first message is given to the end; where there is none, the end is not called
unfoldable pub given_of : Rest → Talker → List (List ℕ) → Done
given_of k t [] = done (silently t) []
given_of k t (m ∷ rest) = done (hear_of t m) (leaving k m rest)

-- lose: the first message is gone and the end has not heard it
abbrev pub dropped : List (List ℕ) → List (List ℕ)
dropped [] = []
dropped (m ∷ rest) = rest

-- what is done at one end, with these messages on their way to it
unfoldable pub done_of : Talker → List (List ℕ) → Action → Done
done_of t line connect = done (connect_of t) line
done_of t line tick = done (tick_of t) line
done_of t line hear = given_of gone t line
done_of t line repeat = given_of still t line
done_of t line lose = done (silently t) (dropped line)
done_of t line stop = done (stop_of t) line
done_of t line greet = done (greet_of t) line
done_of t line functions_heard = done (functions_heard_of t) line

-- the message that a call emits, as a list of none or one
abbrev pub emission : Bool → List ℕ → List (List ℕ)
emission true m = m ∷ []
emission false m = []

-- the world after a call and what is seen of the call
pub record Stepped : Type 0 where
  pub world : World
  pub event : Event

abbrev pub seen_of : Side → Action → Told → Event
seen_of side action t = record { side = side; action = action; outcome = t.outcome }

-- a call at the charger: what it emits is the last on its way to the vehicle
abbrev pub by_charger : World → Action → Done → Stepped
by_charger w action d =
    record {
      world =
          record {
            charger = d.told.next;
            vehicle = w.vehicle;
            to_charger = d.rest;
            to_vehicle = w.to_vehicle ++ emission d.told.emits d.told.bytes;
          };
      event = seen_of Charger action d.told;
    }

-- a call at the vehicle: what it emits is the last on its way to the charger
abbrev pub by_vehicle : World → Action → Done → Stepped
by_vehicle w action d =
    record {
      world =
          record {
            charger = w.charger;
            vehicle = d.told.next;
            to_charger = w.to_charger ++ emission d.told.emits d.told.bytes;
            to_vehicle = d.rest;
          };
      event = seen_of Vehicle action d.told;
    }

-- a call, by the end at which it is made
unfoldable pub step_at : World → Side → Action → Stepped
step_at w Charger action = by_charger w action (done_of w.charger w.to_charger action)
step_at w Vehicle action = by_vehicle w action (done_of w.vehicle w.to_vehicle action)

abbrev pub step_of : World → Call → Stepped
step_of w c = step_at w c.side c.action
