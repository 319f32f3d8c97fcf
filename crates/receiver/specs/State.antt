-- The receiver's state as the rules change it. A connection is spelt out here and nowhere else.
use Rattle.std.specs.Prelude.{ℕ, Bool, false}
use Rattle.receiver.specs.Misses.{acknowledged}
use Rattle.receiver.specs.declared.Connection.{Connection}
use Rattle.receiver.specs.declared.Misses.{Misses}
use Rattle.receiver.specs.declared.Misses.TheVariants.{NoneAfterAck}
use Rattle.receiver.specs.declared.Phase.{Phase}
use Rattle.receiver.specs.declared.Receiver.{Receiver}

-- a connection just opened: frame 1 is expected, nothing has been waited for or missed, it has never been held, and the LM_ACK
-- of the opening is what it waits after
abbrev pub opened : ℕ → ℕ → ℕ → Connection
opened frames length last =
    record {
      frames = frames;
      length = length;
      expected = 1;
      last = last;
      wait = 0;
      misses = NoneAfterAck;
      held = false;
      holds = 0;
    }

-- a connection with other numbers: e, w, wait and misses
abbrev pub moved : Connection → ℕ → ℕ → ℕ → Misses → Connection
moved x expected last wait misses =
    record {
      frames = x.frames;
      length = x.length;
      expected = expected;
      last = last;
      wait = wait;
      misses = misses;
      held = x.held;
      holds = x.holds;
    }

-- Document 02, E2, the record's two additions: a connection with another held mark, another w, another wait and another
-- count of the timeouts that came while it was held. Each of these changes comes with an LM_ACK, which E4's type goes by; e and
-- the timeouts counted are none of a hold's concern.
abbrev pub marked : Connection → Bool → ℕ → ℕ → ℕ → Connection
marked x held last wait holds =
    record {
      frames = x.frames;
      length = x.length;
      expected = x.expected;
      last = last;
      wait = wait;
      misses = acknowledged x.misses;
      held = held;
      holds = holds;
    }

-- the receiver with its settings, in another phase
abbrev pub in_phase : Receiver → Phase → Receiver
in_phase r p = record { settings = r.settings; phase = p }
