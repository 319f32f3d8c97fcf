-- Document 01, The sender: Settings.
use Rattle.std.specs.Prelude.{ℕ, Bool, ◌&&◌}
use Rattle.frame.specs.Choice.{pick}
use Rattle.frame.specs.Count.{within}
use Rattle.frame.specs.Result.{Result, accepted, refused}
use Rattle.sender.specs.declared.Phase.TheVariants.{Idle}
use Rattle.sender.specs.declared.Sender.{Sender}

-- The sender, Settings: the limits of G, T and M
abbrev pub settings_fit : ℕ → ℕ → ℕ → Bool
settings_fit gap timeout limit =
    within 1 gap 10 && (within 1 timeout 10000 && within 1 limit 60000)

-- a sender with these settings, Idle
abbrev pub idle_with : ℕ → ℕ → ℕ → Sender
idle_with gap timeout limit =
    record { settings = record { gap = gap; timeout = timeout; limit = limit }; phase = Idle }

-- Refusals, making an end, number 1: a setting outside its limits
unfoldable pub make_of : ℕ → ℕ → ℕ → Result Sender
make_of gap timeout limit =
    pick (settings_fit gap timeout limit) (accepted (idle_with gap timeout limit)) (refused 1)
