-- Making a receiver.
use Rattle.std.specs.Prelude.{ℕ, Bool, ◌&&◌}
use Rattle.frame.specs.Choice.{pick}
use Rattle.frame.specs.Count.{within}
use Rattle.frame.specs.Result.{Result, accepted, refused}
use Rattle.receiver.specs.declared.Phase.TheVariants.{Idle}
use Rattle.receiver.specs.declared.Receiver.{Receiver}

-- The receiver, "Settings": limits of its own timeout T, of the frames in a window, C, and of the bytes it can hold, K
abbrev pub settings_fit : ℕ → ℕ → ℕ → Bool
settings_fit timeout window capacity =
    within 1 timeout 10000 && (within 1 window 255 && within 9 capacity 1785)

-- an idle receiver with these settings, nothing delivered
abbrev pub idle_with : ℕ → ℕ → ℕ → Receiver
idle_with timeout window capacity =
    record {
      settings = record { timeout = timeout; window = window; capacity = capacity };
      phase = Idle;
    }

-- Refusals, making an end: 1 where a setting is outside its limits
unfoldable pub make_of : ℕ → ℕ → ℕ → Result Receiver
make_of timeout window capacity =
    pick (settings_fit timeout window capacity) (accepted (idle_with timeout window capacity)) (refused 1)
