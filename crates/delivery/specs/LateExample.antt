-- Document 02, E4: two lists of calls, computed, in which a connection of two frames has its report at the latest tick that there
-- is (`Latest.antt`): one without a hold at T 3, one with holds at T 1. Both meet the conditions of demand 3, whose bounds are a
-- little higher: 24 where the report comes at 20, and 29 where it comes at 26.
use Rattle.std.specs.Prelude.{ℕ, ◌+◌, ◌-◌, ◌*◌, List, [], ◌∷◌, ◌++◌, ◌≡◌, replicate}
use Rattle.receiver.specs.declared.Phase.TheVariants as receiver-at
use Rattle.receiver.specs.declared.Receiver.{Receiver}
use Rattle.delivery.specs.Demand3.{Conditions}
use Rattle.delivery.specs.Example.{Shown, emits, nothing, Witness, example_sender, example_message, shows_announcement, shows_ack, shows_first}
use Rattle.delivery.specs.HeldExample.{failed2}
use Rattle.delivery.specs.Latest.{latest}
use Rattle.delivery.specs.Run.{Past, fresh, run_of}
use Rattle.delivery.specs.Seen.{opened_in, since}
use Rattle.transport.specs.Step.{step_of}
use Rattle.transport.specs.World.{Call, begin, sender_tick, receiver_tick, hold, resume, hear_forward, hear_back}

-- the sender and the message of document 01's example, nine bytes in two frames; a receiver with a window of both
abbrev pub wide_receiver : ℕ → Receiver
wide_receiver timeout =
    record { settings = record { timeout = timeout; window = 2; capacity = 1785 }; phase = receiver-at.Idle }

abbrev pub wide_start : ℕ → Past
wide_start timeout = fresh example_sender (wide_receiver timeout) (replicate 1785 0)

-- the connection is open, and frame 1 is on its way
unfoldable pub opened_calls : List Call
opened_calls = begin example_message ∷ hear_forward (replicate 1785 0) ∷ hear_back ∷ sender_tick example_message ∷ []

-- LM_ACK 1, 2
abbrev pub shows_both : Shown
shows_both = emits 2 (0x01 ∷ 0x02 ∷ 0xFF ∷ 0xFF ∷ 0xFF ∷ 0xFF ∷ 0xFF ∷ 0xFF ∷ [])

abbrev pub opened_shown : List Shown
opened_shown = shows_announcement ∷ shows_both ∷ nothing ∷ shows_first ∷ []

-- frame 1 comes
abbrev pub hears_first : Call
hears_first = hear_forward (replicate 1785 0)

-- ---- without a hold, at T 3

-- Two timeouts after an LM_ACK, and frame 1 a tick before the third; then one after a frame and two after an LM_ACK, and two
-- ticks more. The next is the twentieth since the opening.
unfoldable pub late_calls : List Call
late_calls = opened_calls ++ replicate 8 receiver_tick ++ hears_first ∷ replicate 11 receiver_tick

-- what a timeout at T 3 shows with the two ticks before it
abbrev pub third_tick : Shown → List Shown
third_tick shown = nothing ∷ nothing ∷ shown ∷ []

abbrev pub late_shown : List Shown
late_shown =
    opened_shown
    ++ third_tick shows_both
    ++ third_tick shows_both
    ++ nothing
    ∷ nothing
    ∷ nothing
    ∷ third_tick (shows_ack 2)
    ++ third_tick (shows_ack 2)
    ++ third_tick (shows_ack 2)
    ++ nothing
    ∷ nothing
    ∷ []

-- ---- with holds, at T 1

-- Two timeouts after an LM_ACK, then frame 1, one timeout after a frame, twenty while held, and two after an LM_ACK. The next
-- tick is the twenty-sixth.
unfoldable pub late_held_calls : List Call
late_held_calls =
    opened_calls
    ++ receiver_tick
    ∷ receiver_tick
    ∷ hears_first
    ∷ receiver_tick
    ∷ hold
    ∷ replicate 20 receiver_tick
    ++ resume
    ∷ receiver_tick
    ∷ receiver_tick
    ∷ []

abbrev pub late_held_shown : List Shown
late_held_shown =
    opened_shown
    ++ shows_both
    ∷ shows_both
    ∷ nothing
    ∷ shows_ack 2
    ∷ shows_ack 1
    ∷ replicate 20 (shows_ack 1)
    ++ shows_ack 2
    ∷ shows_ack 2
    ∷ shows_ack 2
    ∷ []

-- ---- what is claimed of them

-- the calls and one more tick of the receiver, which fails the connection: that is the latest tick there is, and a tick earlier
-- there is no report
pub record Reaches (start : Past) (calls : List Call) (shown : List Shown) (frames tick pauses : ℕ) : Type 0 where
  pub run : Witness (Conditions step_of) start (calls ++ receiver_tick ∷ []) (shown ++ failed2 ∷ [])
  pub before : opened_in (run_of step_of start calls).events ≡ since frames (tick - 1) 0 pauses
  pub reported : opened_in (run_of step_of start (calls ++ receiver_tick ∷ [])).events ≡ since frames tick 1 pauses

pub record LateExamples : Type 0 where
  pub free : Reaches (wide_start 3) late_calls late_shown 2 (latest 3 2) 0
  pub held : Reaches (wide_start 1) late_held_calls late_held_shown 2 (latest 1 2 + 20 * 1) 1
