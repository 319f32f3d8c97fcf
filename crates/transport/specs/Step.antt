-- Document 01, The line: what each call does to the ends, the line and the buffer, and what is seen of it. What an end
-- does is said by its own definitions; here stands only what the line adds.
use Rattle.std.specs.Prelude.{ℕ, Bool, true, false, List, [], ◌∷◌, ◌++◌}
use Rattle.frame.specs.Frames.{blank_of}
use Rattle.frame.specs.declared.Frame.{Frame}
use Rattle.receiver.specs.Hear as hearing
use Rattle.receiver.specs.Hold.{hold_of, resume_of}
use Rattle.receiver.specs.Tick as ticking
use Rattle.receiver.specs.Told as receiver
use Rattle.sender.specs.Begin.{begin_of}
use Rattle.sender.specs.Hear.{hear_of}
use Rattle.sender.specs.Tick.{tick_of}
use Rattle.sender.specs.Told as sender
use Rattle.transport.specs.World.{World, Call, Given, nobody, to_sender, to_receiver, Event}
use Rattle.transport.specs.World.{begin, sender_tick, receiver_tick, hold, resume}
use Rattle.transport.specs.World.{hear_forward, repeat_forward, lose_forward, hear_back, repeat_back, lose_back}

-- the world after a call and what is seen of the call
pub record Stepped : Type 0 where
  pub world : World
  pub event : Event

-- the frame that a call emits, as a list of none or one
abbrev pub emission : Bool → Frame → List Frame
emission true f = f ∷ []
emission false f = []

-- what is seen where no end is called: at a loss, and where the list is empty
abbrev pub uncalled : Call → Event
uncalled c =
    record {
      call = c;
      given = nobody;
      emitted = [];
      frame = blank_of;
      sender = sender.quiet;
      receiver = receiver.quiet;
      bytes = receiver.no_bytes;
      lent = [];
    }

abbrev pub unheard : Call → World → Stepped
unheard c w = record { world = w; event = uncalled c }

-- the same ends and buffer, with other lines
abbrev pub with_lines : World → List Frame → List Frame → World
with_lines w forward back =
    record { sender = w.sender; receiver = w.receiver; forward = forward; back = back; buffer = w.buffer }

-- a call of the sender, given a frame or none: what it emits is the last on forward
abbrev pub by_sender : Call → World → Given → List Frame → sender.Told → Stepped
by_sender c w given back t =
    record {
      world =
          record {
            sender = t.next;
            receiver = w.receiver;
            forward = w.forward ++ emission t.emits t.frame;
            back = back;
            buffer = w.buffer;
          };
      event =
          record {
            call = c;
            given = given;
            emitted = emission t.emits t.frame;
            frame = t.frame;
            sender = t.outcome;
            receiver = receiver.quiet;
            bytes = receiver.no_bytes;
            lent = [];
          };
    }

-- whether the sender's call was refused
abbrev pub sender_refused : sender.Outcome → Bool
sender_refused sender.quiet = false
sender_refused (sender.refused number) = true
sender_refused (sender.sent ticks frames) = false
sender_refused (sender.failed cause ticks frames) = false

-- whether the receiver's call was refused
abbrev pub was_refused : receiver.Outcome → Bool
was_refused receiver.quiet = false
was_refused (receiver.refused number) = true
was_refused (receiver.delivered length) = false
was_refused (receiver.failed cause) = false
was_refused receiver.short = false

-- the receiving buffer after a call of the receiver: what the call left of the lent one; after a refused call, what it was
abbrev pub buffer_after : Bool → List ℕ → List ℕ → List ℕ
buffer_after true buffer left = buffer
buffer_after false buffer left = left

-- a call of the receiver, given a frame or none: what it emits is the last on back
abbrev pub by_receiver : Call → World → Given → List Frame → receiver.Heard → Stepped
by_receiver c w given forward h =
    record {
      world =
          record {
            sender = w.sender;
            receiver = h.told.next;
            forward = forward;
            back = w.back ++ emission h.told.emits h.told.frame;
            buffer = buffer_after (was_refused h.told.outcome) w.buffer h.buffer;
          };
      event =
          record {
            call = c;
            given = given;
            emitted = emission h.told.emits h.told.frame;
            frame = h.told.frame;
            sender = sender.quiet;
            receiver = h.told.outcome;
            bytes = h.told.bytes;
            lent = h.buffer;
          };
    }

-- what is left of a list whose first frame was given: hear removes it, repeat does not
pub data Rest : Type 0 where
  gone : Rest
  still : Rest

abbrev pub leaving : Rest → Frame → List Frame → List Frame
leaving gone f rest = rest
leaving still f rest = f ∷ rest

-- the first frame of forward is given to the receiver
unfoldable pub given_forward : Rest → Call → World → List ℕ → List Frame → Stepped
given_forward k c w buffer [] = unheard c w
given_forward k c w buffer (f ∷ rest) =
    by_receiver c w (to_receiver f) (leaving k f rest) (hearing.hear_of w.receiver f buffer)

-- the first frame of back is given to the sender
unfoldable pub given_back : Rest → Call → World → List Frame → Stepped
given_back k c w [] = unheard c w
given_back k c w (f ∷ rest) = by_sender c w (to_sender f) (leaving k f rest) (hear_of w.sender f)

-- lose: the first frame is gone and nobody has heard it
abbrev pub dropped : List Frame → List Frame
dropped [] = []
dropped (f ∷ rest) = rest

-- a call, by what it is: the ends' own definitions say what the called end does
unfoldable pub step_of : World → Call → Stepped
step_of w (begin message) = by_sender (begin message) w nobody w.back (begin_of w.sender message)
step_of w (sender_tick message) = by_sender (sender_tick message) w nobody w.back (tick_of w.sender message)
step_of w receiver_tick =
    by_receiver receiver_tick w nobody w.forward (receiver.heard (ticking.tick_of w.receiver) w.buffer)
step_of w hold = by_receiver hold w nobody w.forward (receiver.heard (hold_of w.receiver) w.buffer)
step_of w resume = by_receiver resume w nobody w.forward (receiver.heard (resume_of w.receiver) w.buffer)
step_of w (hear_forward buffer) = given_forward gone (hear_forward buffer) w buffer w.forward
step_of w (repeat_forward buffer) = given_forward still (repeat_forward buffer) w buffer w.forward
step_of w lose_forward = unheard lose_forward (with_lines w (dropped w.forward) w.back)
step_of w hear_back = given_back gone hear_back w w.back
step_of w repeat_back = given_back still repeat_back w w.back
step_of w lose_back = unheard lose_back (with_lines w w.forward (dropped w.back))
