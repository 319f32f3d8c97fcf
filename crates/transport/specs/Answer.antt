-- What the transport's calls answer, at a line of 64 that is kept in lent bytes.
use Rattle.std.specs.Prelude.{ℕ, Bool, List, [], eqb, length, is_some}
use Rattle.frame.specs.Choice.{pick}
use Rattle.frame.specs.Frames.{blank_of, frame_or_blank}
use Rattle.frame.specs.declared.Frame.{Frame}
use Rattle.line.specs.Ring.{frames_in}
use Rattle.receiver.specs.Told as receiver
use Rattle.sender.specs.Told as sender
use Rattle.transport.specs.Capped.{capped_step}
use Rattle.transport.specs.Step.{emission, Stepped}
use Rattle.transport.specs.World.{World, Call}
use Rattle.transport.specs.declared.Answer.{Answer}
use Rattle.transport.specs.declared.Ends.{Ends}

-- The world that the ends and the lent bytes of forward, of back and of the receiving buffer make: each line is the list
-- that its ring holds. Where in its bytes a ring begins is left free.
unfoldable pub world_of : Ends → List ℕ → List ℕ → List ℕ → World
world_of ends forward back buffer =
    record {
      sender = ends.sender;
      receiver = ends.receiver;
      forward = frames_in ends.forward forward;
      back = frames_in ends.back back;
      buffer = buffer;
    }

-- a call's whole answer: the world after it, and what is seen of it but for the call, the frame heard and the lent buffer
pub record Told : Type 0 where
  pub world : World
  pub emitted : List Frame
  pub frame : Frame
  pub sender : sender.Outcome
  pub receiver : receiver.Outcome
  pub bytes : List ℕ

-- the code's answer, with the bytes of forward, of back and of the buffer as the call leaves them
unfoldable pub told : Answer → List ℕ → List ℕ → List ℕ → Told
told a forward back buffer =
    record {
      world = world_of a.next forward back buffer;
      emitted = emission (is_some a.said.frame) (frame_or_blank a.said.frame);
      frame = frame_or_blank a.said.frame;
      sender = sender.told_outcome a.said.sender;
      receiver = receiver.told_outcome a.said.receiver;
      bytes = receiver.told_bytes a.said.receiver;
    }

-- what is told of a step
abbrev pub told_step : Stepped → Told
told_step s =
    record {
      world = s.world;
      emitted = s.event.emitted;
      frame = s.event.frame;
      sender = s.event.sender;
      receiver = s.event.receiver;
      bytes = s.event.bytes;
    }

-- a call at a line of 64
unfoldable pub answer_of : World → Call → Told
answer_of w c = told_step (capped_step w c)

-- nothing happens
unfoldable pub quietly : World → Told
quietly w =
    record {
      world = w;
      emitted = [];
      frame = blank_of;
      sender = sender.quiet;
      receiver = receiver.quiet;
      bytes = receiver.no_bytes;
    }

-- the bytes of a line: nine for each of 64 places
abbrev pub is_line : List ℕ → Bool
is_line bytes = eqb (length bytes) 576

-- a call that is lent lines: where one of them has another length, nothing happens and all stays
unfoldable pub lent_of : Bool → World → Call → Told
lent_of fits w c = pick fits (answer_of w c) (quietly w)
