-- Document 01, The player: the pack of its example is read, and packs that each break one rule are refused 12. By
-- computation.
-- Assumes nothing.
use Prim.Native.Nat.{ℕ}
use mathlib.Core.Path.{◌≡◌, refl}
use mathlib.Core.List.{List, [], ◌∷◌, ◌++◌, map}
use Rattle.frame.specs.Choice.{pick}
use Rattle.frame.specs.Result.{accepted, refused}
use Rattle.pack.specs.Pack.{laid_out, settings_of, bodies_in, message_of, events_of, all_events, bodies_of}
use Rattle.pack.specs.declared.Bodies.{Bodies}

-- the example's pack: count and table, settings, message and events
abbrev table : List ℕ
table = 3 ∷ 13 ∷ 0 ∷ 10 ∷ 0 ∷ 23 ∷ 0 ∷ 9 ∷ 0 ∷ 32 ∷ 0 ∷ 7 ∷ 0 ∷ []

abbrev pub settings : List ℕ
settings = 1 ∷ 10 ∷ 0 ∷ 100 ∷ 0 ∷ 10 ∷ 0 ∷ 2 ∷ 249 ∷ 6 ∷ []

abbrev pub message : List ℕ
message = 1 ∷ 2 ∷ 3 ∷ 4 ∷ 5 ∷ 6 ∷ 7 ∷ 8 ∷ 9 ∷ []

abbrev events : List ℕ
events = 3 ∷ 6 ∷ 1 ∷ 3 ∷ 1 ∷ 3 ∷ 6 ∷ []

abbrev pub example : List ℕ
example = table ++ (settings ++ (message ++ events))

abbrev pub bodies : Bodies
bodies =
    record {
      settings = record { gap = 1; timeout = 10; limit = 100; patience = 10; window = 2; capacity = 1785 };
      message = 9;
      events = 7;
    }

pub example_read : bodies_of example ≡ accepted bodies
unfolding pick laid_out settings_of bodies_in events_of all_events bodies_of
example_read = refl

pub example_parts : (message_of example bodies ≡ message) × (events_of example bodies ≡ events)
unfolding message_of events_of
example_parts = (refl, refl)

abbrev behind : List ℕ → List ℕ
behind header = header ++ (settings ++ (message ++ events))

abbrev refused_packs : List (List ℕ)
refused_packs =
    -- nothing, and a table cut short
    []
    ∷ (3 ∷ 13 ∷ 0 ∷ 10 ∷ 0 ∷ 23 ∷ 0 ∷ 9 ∷ 0 ∷ 32 ∷ 0 ∷ 7 ∷ [])
    -- a count of 4
    ∷ behind (4 ∷ 13 ∷ 0 ∷ 10 ∷ 0 ∷ 23 ∷ 0 ∷ 9 ∷ 0 ∷ 32 ∷ 0 ∷ 7 ∷ 0 ∷ [])
    -- settings that start a byte late, and eleven bytes of them
    ∷ behind (3 ∷ 14 ∷ 0 ∷ 10 ∷ 0 ∷ 23 ∷ 0 ∷ 9 ∷ 0 ∷ 32 ∷ 0 ∷ 7 ∷ 0 ∷ [])
    ∷ behind (3 ∷ 13 ∷ 0 ∷ 11 ∷ 0 ∷ 24 ∷ 0 ∷ 8 ∷ 0 ∷ 32 ∷ 0 ∷ 7 ∷ 0 ∷ [])
    -- a gap before the message, and one before the events
    ∷ behind (3 ∷ 13 ∷ 0 ∷ 10 ∷ 0 ∷ 24 ∷ 0 ∷ 8 ∷ 0 ∷ 32 ∷ 0 ∷ 7 ∷ 0 ∷ [])
    ∷ behind (3 ∷ 13 ∷ 0 ∷ 10 ∷ 0 ∷ 23 ∷ 0 ∷ 8 ∷ 0 ∷ 32 ∷ 0 ∷ 7 ∷ 0 ∷ [])
    -- a byte after the last body, and one that is missing there
    ∷ behind (3 ∷ 13 ∷ 0 ∷ 10 ∷ 0 ∷ 23 ∷ 0 ∷ 9 ∷ 0 ∷ 32 ∷ 0 ∷ 6 ∷ 0 ∷ [])
    ∷ behind (3 ∷ 13 ∷ 0 ∷ 10 ∷ 0 ∷ 23 ∷ 0 ∷ 9 ∷ 0 ∷ 32 ∷ 0 ∷ 8 ∷ 0 ∷ [])
    -- the events 0 and 9
    ∷ (table ++ (settings ++ (message ++ (3 ∷ 6 ∷ 0 ∷ 3 ∷ 1 ∷ 3 ∷ 6 ∷ []))))
    ∷ (table ++ (settings ++ (message ++ (3 ∷ 6 ∷ 1 ∷ 3 ∷ 1 ∷ 3 ∷ 9 ∷ []))))
    ∷ []

pub refused_packs_lem : map bodies_of refused_packs ≡ map (λ (pack : List ℕ). refused 12) refused_packs
unfolding pick laid_out settings_of bodies_in events_of all_events bodies_of
refused_packs_lem = refl
