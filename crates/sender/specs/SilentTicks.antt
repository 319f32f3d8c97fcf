-- Of the ticks that are not refused, those that emit nothing, by document 01, Tick. The face of document 02, E6 answers them apart:
-- there is no frame to count. No rule is added by this: `SilentTicks` says that they are the ticks of `Tick` that emit nothing,
-- and do what is done there. It is proved in `proofs/SilentTicks.antt`.
use Rattle.std.specs.Prelude.{ℕ, ◌≡◌, Bool, true, ◌&&◌, ◌||◌, not, List, leb, ltb}
use Rattle.frame.specs.Count.{increment_of}
use Rattle.sender.specs.Tick.{unless_over, opening_on, sending_on, waiting_on, short_on, lent_to, tick_of}
use Rattle.sender.specs.Told.{Told, silently, failing}
use Rattle.sender.specs.declared.Phase.{Phase}
use Rattle.sender.specs.declared.Phase.TheVariants.{Idle, Opening, Sending, Waiting, Short}
use Rattle.sender.specs.declared.Sender.{Sender}
use Rattle.sender.specs.declared.Single.{Single}
use Rattle.sender.specs.declared.Transfer.{Transfer}

-- a wait or gap goes on: its count stays short of its limit, and the transfer short of M
abbrev pub goes_on : Sender → Transfer → ℕ → ℕ → Bool
goes_on s t limit count = ltb (increment_of count) limit && ltb (increment_of t.age) s.settings.limit

-- a short transfer waits on, or comes to M (document 01, Tick, age), where it emits nothing
abbrev pub short_is_silent : Sender → Single → Bool
short_is_silent s x =
    leb s.settings.limit (increment_of x.transfer.age) || ltb (increment_of x.wait) s.settings.timeout

-- whether a tick, lent its message, emits nothing, by the phase
unfoldable pub silent_in : Sender → Phase → Bool
silent_in s Idle = true
silent_in s (Opening x) = goes_on s x.transfer s.settings.timeout x.wait
silent_in s (Sending x) = goes_on s x.transfer s.settings.gap x.gap
silent_in s (Waiting x) = goes_on s x.transfer s.settings.timeout x.wait
silent_in s (Short x) = short_is_silent s x

-- and what it does then
unfoldable pub short_silently : Sender → Single → Told
short_silently s x = unless_over s x.transfer (failing s) (short_on s x)

unfoldable pub silent_tick_in : Sender → Phase → Told
silent_tick_in s Idle = silently s
silent_tick_in s (Opening x) = opening_on s x
silent_tick_in s (Sending x) = sending_on s x
silent_tick_in s (Waiting x) = waiting_on s x
silent_tick_in s (Short x) = short_silently s x

-- Theorem: of the ticks that are lent their message these are the ones that emit nothing, and what they do is what a tick does.
abbrev pub SilentTicks : Type 0
SilentTicks =
    (s : Sender) (m : List ℕ) → lent_to s.phase m ≡ true
    → ((tick_of s m).emits ≡ not (silent_in s s.phase))
    × (silent_in s s.phase ≡ true → tick_of s m ≡ silent_tick_in s s.phase)
