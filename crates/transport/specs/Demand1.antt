-- Demand 1 at the transport: a call that an end refuses leaves both ends and, byte by byte, the receiving buffer as they
-- were, and emits nothing; a call that is lent a line of another length calls no end and leaves all this too. A refused
-- making answers its number and no ends.
-- What is claimed of a line that is lent: the list of frames that it holds stays, or loses the one frame that a hear gave.
-- Its other bytes are left free, here as in the contracts of the calls (docs/DECISIONS.md, The player).
use Rattle.std.specs.Prelude.{ℕ, Bool, true, false, ◌||◌, List, [], ◌≡◌}
use Rattle.frame.specs.Frames.{blank_of}
use Rattle.frame.specs.Result as result
use Rattle.receiver.specs.Told as receiver
use Rattle.transport.specs.Answer.{world_of, quietly, lent_of}
use Rattle.transport.specs.Capped.{capped_step}
use Rattle.transport.specs.Make.{make_of}
use Rattle.transport.specs.Step.{Stepped, with_lines, sender_refused, was_refused, dropped}
use Rattle.transport.specs.World.{World, Call, Event}
use Rattle.transport.specs.World.{begin, sender_tick, receiver_tick, hold, resume}
use Rattle.transport.specs.World.{hear_forward, repeat_forward, lose_forward, hear_back, repeat_back, lose_back}
use Rattle.transport.specs.declared.Ends.{Ends}

-- whether the called end refused
abbrev pub is_refusal : Event → Bool
is_refusal e = sender_refused e.sender || was_refused e.receiver

-- Document 01, The line, of refused calls: nothing but the lines can change, and of these only what the call itself does:
-- hear has taken its frame away, whoever refused it; repeat has kept it
abbrev pub left_by : Call → World → World
left_by (begin message) w = w
left_by (sender_tick message) w = w
left_by receiver_tick w = w
left_by hold w = w
left_by resume w = w
left_by (hear_forward buffer) w = with_lines w (dropped w.forward) w.back
left_by (repeat_forward buffer) w = w
left_by lose_forward w = with_lines w (dropped w.forward) w.back
left_by hear_back w = with_lines w w.forward (dropped w.back)
left_by repeat_back w = w
left_by lose_back w = with_lines w w.forward (dropped w.back)

-- the buffer that is seen at a call of the receiver: the one that a hearing is lent; a tick, a hold and a resume are lent
-- none, and the receiving buffer stands there
abbrev pub lent_by : Call → World → List ℕ
lent_by (begin message) w = []
lent_by (sender_tick message) w = []
lent_by receiver_tick w = w.buffer
lent_by hold w = w.buffer
lent_by resume w = w.buffer
lent_by (hear_forward buffer) w = buffer
lent_by (repeat_forward buffer) w = buffer
lent_by lose_forward w = []
lent_by hear_back w = []
lent_by repeat_back w = []
lent_by lose_back w = []

-- all that a refused call does: no frame, no bytes, the lent buffer as it was; the number stands in the outcome
abbrev pub refused_step : World → Call → Event → Stepped
refused_step w c e =
    record {
      world = left_by c w;
      event =
          record {
            call = c;
            given = e.given;
            emitted = [];
            frame = blank_of;
            sender = e.sender;
            receiver = e.receiver;
            bytes = receiver.no_bytes;
            lent = lent_by c w;
          };
    }

-- whatever states the ends are in, and whatever bytes the lines and the buffer hold
pub record Demand1 : Type 0 where
  -- by an end
  pub refused : (ends : Ends) (forward back buffer : List ℕ) (c : Call)
      → let w = world_of ends forward back buffer in
      is_refusal (capped_step w c).event ≡ true → capped_step w c ≡ refused_step w c (capped_step w c).event
  -- by the length of a line: both ends, both lists of frames and the buffer stay
  pub misfit : (w : World) (c : Call) → lent_of false w c ≡ quietly w
  -- making, by a setting: a refusal has a number in place of the ends, and that is 1
  pub make : (gap timeout limit patience window capacity number : ℕ)
      → make_of gap timeout limit patience window capacity ≡ result.refused number → number ≡ 1
