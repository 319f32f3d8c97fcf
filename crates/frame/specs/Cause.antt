-- Document 01, Frames, Causes: why a transfer fails, by number.
use Rattle.std.specs.Prelude.{ℕ}
use Rattle.frame.specs.declared.cause.Cause.{Cause}
use Rattle.frame.specs.declared.cause.Cause.TheVariants.{NoSpace, Timeouts, TimeOver, Number, Announcement}

-- document 01's number for each cause, in its order; a report of 1 says that a NACK was heard
abbrev pub cause_of : Cause → ℕ
cause_of NoSpace = 1
cause_of Timeouts = 2
cause_of TimeOver = 3
cause_of Number = 4
cause_of Announcement = 5
