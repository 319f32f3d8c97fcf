-- Document 01, The line: a whole list of calls, on a line that keeps every frame or on one that drops some.
use Rattle.std.specs.Prelude.{List, [], ◌∷◌, ℕ, ◌≡◌}
use Rattle.frame.specs.Result.{accepted}
use Rattle.receiver.specs.Make as receiver-making
use Rattle.receiver.specs.declared.Receiver.{Receiver}
use Rattle.sender.specs.Make as sender-making
use Rattle.sender.specs.declared.Sender.{Sender}
use Rattle.transport.specs.Step.{Stepped}
use Rattle.transport.specs.World.{World, Call, Event, start_of}

-- what each call does: the transport's `step_of`, or its `capped_step` at a line of 64
abbrev pub Line : Type 0
Line = World → Call → Stepped

-- a world, and the events that led to it, the newest first
pub record Past : Type 0 where
  pub world : World
  pub events : List Event

-- ends just made, and no event yet
abbrev pub fresh : Sender → Receiver → List ℕ → Past
fresh s r buffer = record { world = start_of s r buffer; events = [] }

-- what is said of every list of calls, by the ends that making answers and with every buffer
abbrev pub FromFresh : (Past → List Call → Type 0) → Type 0
FromFresh Says =
    (gap timeout limit : ℕ) (s : Sender)
    → sender-making.make_of gap timeout limit ≡ accepted s
    → (patience window capacity : ℕ) (r : Receiver)
    → receiver-making.make_of patience window capacity ≡ accepted r
    → (buffer : List ℕ) (calls : List Call)
    → Says (fresh s r buffer) calls

abbrev pub next : Line → Past → Call → Past
next line p c =
    record { world = (line p.world c).world; events = (line p.world c).event ∷ p.events }

-- Document 01, The line: a call starts from what its predecessor left, and nothing comes between. The calls stand in the
-- list in their order.
unfoldable pub run_of : Line → Past → List Call → Past
run_of line p [] = p
run_of line p (c ∷ calls) = run_of line (next line p c) calls
