-- Document 01, The player: the run pack. It has three bodies, settings, message and events, one behind the other; in front
-- stand their number and a table that says where each begins and how long it is. What is not made so is refused 12.
use Rattle.std.specs.Prelude.{ℕ, ◌+◌, ◌*◌, Bool, true, ◌&&◌, List, [], ◌∷◌, eqb, leb, length, get_or, take, drop}
use Rattle.frame.specs.Choice.{pick}
use Rattle.frame.specs.Count.{word_of}
use Rattle.frame.specs.Result.{Result, accepted, refused}
use Rattle.pack.specs.declared.Bodies.{Bodies}
use Rattle.pack.specs.declared.Settings.{Settings}

-- the byte at a place, and the word whose low byte is there
abbrev pub byte_at : List ℕ → ℕ → ℕ
byte_at pack place = get_or pack place 0

abbrev pub word_at : List ℕ → ℕ → ℕ
word_at pack place = word_of (byte_at pack place) (byte_at pack (place + 1))

-- "a contents table": four bytes for each body, a word for its place in the pack and a word for its length; body 0 is the
-- settings, body 1 the message, body 2 the events
abbrev pub offset_of : List ℕ → ℕ → ℕ
offset_of pack body = word_at pack (1 + 4 * body)

abbrev pub length_of : List ℕ → ℕ → ℕ
length_of pack body = word_at pack (3 + 4 * body)

-- "the bodies without gaps": the first byte counts three bodies, ten bytes of settings come right behind the 13 bytes of
-- count and table, each further body begins where the one before ends, and the last ends with the pack, which has no more
-- than 65535 bytes
unfoldable pub laid_out : List ℕ → Bool
laid_out pack =
    leb 13 (length pack)
    && leb (length pack) 65535
    && eqb (byte_at pack 0) 3
    && eqb (offset_of pack 0) 13
    && eqb (length_of pack 0) 10
    && eqb (offset_of pack 1) (offset_of pack 0 + length_of pack 0)
    && eqb (offset_of pack 2) (offset_of pack 1 + length_of pack 1)
    && eqb (length pack) (offset_of pack 2 + length_of pack 2)

-- the settings in their order from place 13 on: G and C are bytes, the others words
unfoldable pub settings_of : List ℕ → Settings
settings_of pack =
    record {
      gap = byte_at pack 13;
      timeout = word_at pack 14;
      limit = word_at pack 16;
      patience = word_at pack 18;
      window = byte_at pack 20;
      capacity = word_at pack 21;
    }

-- the settings, the length of the message and the number of events
unfoldable pub bodies_in : List ℕ → Bodies
bodies_in pack = record { settings = settings_of pack; message = length_of pack 1; events = length_of pack 2 }

-- the message, behind count, table and settings; the events, behind the message
unfoldable pub message_of : List ℕ → Bodies → List ℕ
message_of pack bodies = take bodies.message (drop 23 pack)

unfoldable pub events_of : List ℕ → Bodies → List ℕ
events_of pack bodies = drop (23 + bodies.message) pack

-- the eight events there are; what each does is the player's to say
abbrev pub is_event : ℕ → Bool
is_event event = leb 1 event && leb event 8

unfoldable pub all_events : List ℕ → Bool
all_events [] = true
all_events (event ∷ events) = is_event event && all_events events

-- "Anything else is 12": a pack that is laid out so, of nothing but events, is read
unfoldable pub bodies_of : List ℕ → Result Bodies
bodies_of pack =
    pick (laid_out pack)
    (pick (all_events (events_of pack (bodies_in pack))) (accepted (bodies_in pack)) (refused 12))
    (refused 12)
