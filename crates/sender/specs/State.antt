-- The sender's state as the rules change it. A transfer or a phase that goes on is built here from what it
-- was and the numbers that a rule changes.
use Rattle.std.specs.Prelude.{ℕ}
use Rattle.frame.specs.Count.{increment_of}
use Rattle.sender.specs.declared.Awaited.{Awaited}
use Rattle.sender.specs.declared.Phase.{Phase}
use Rattle.sender.specs.declared.Phase.TheVariants.{Opening, Sending, Waiting, Short}
use Rattle.sender.specs.declared.Sender.{Sender}
use Rattle.sender.specs.declared.Streamed.{Streamed}
use Rattle.sender.specs.declared.Transfer.{Transfer}

-- Tick: the transfer is a tick older
abbrev pub aged : Transfer → Transfer
aged t = record t { age = increment_of t.age }

-- A report: one more frame has gone out since the begin
abbrev pub counted : Transfer → Transfer
counted t = record t { emitted = increment_of t.emitted }

-- Opening: a transfer with its wait and misses
abbrev pub opening_with : Transfer → ℕ → ℕ → Phase
opening_with t wait misses = Opening (record { transfer = t; wait = wait; misses = misses })

-- Sending: the same window, at another frame or gap count
abbrev pub sending_with : Streamed → Transfer → ℕ → ℕ → Phase
sending_with x t next gap =
    Sending
    (record { transfer = t; start = x.start; next = next; last = x.last; gap = gap; misses = x.misses })

-- Waiting: the same window, with another wait or other misses
abbrev pub waiting_with : Awaited → Transfer → ℕ → ℕ → Phase
waiting_with x t wait misses =
    Waiting (record { transfer = t; start = x.start; last = x.last; wait = wait; misses = misses })

-- Short: a transfer with its wait
abbrev pub short_with : Transfer → ℕ → Phase
short_with t wait = Short (record { transfer = t; wait = wait })

-- the sender with its settings, in another phase
abbrev pub in_phase : Sender → Phase → Sender
in_phase s p = record { settings = s.settings; phase = p }
