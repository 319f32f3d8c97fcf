-- The ticks that emit nothing: each phase's two tests, of M and of its own count, have four outcomes, and at each of them both the
-- tick and what is said of it are known.
-- Assumes nothing.
use Prim.Native.Nat.{ℕ}
use mathlib.Core.Path.{◌≡◌, refl, subst}
use mathlib.Core.Bool.{Bool, true, false, ◌&&◌, ◌||◌, not, false≢true}
use mathlib.Core.List.{List}
use borrow.Author.Tests.{leb-true, leb-false, lt-ltb, le-ltb}
use lib.Dec.{leb, ltb}
use Rattle.frame.proofs.Choice.{pick_true, pick_elim}
use Rattle.frame.specs.Choice.{pick}
use Rattle.frame.specs.Count.{increment_of}
use Rattle.sender.specs.SilentTicks.{goes_on, silent_in, short_silently, silent_tick_in, SilentTicks}
use Rattle.sender.specs.Tick.{unless_over, at_limit, unless_third, tick_opening, tick_sending, tick_waiting, tick_short, tick_phase, tick_of}
use Rattle.sender.specs.Told.{Told, failing_with}
use Rattle.sender.specs.declared.Phase.{Phase}
use Rattle.sender.specs.declared.Phase.TheVariants.{Idle, Opening, Sending, Waiting, Short}
use Rattle.sender.specs.declared.Sender.{Sender}
use Rattle.sender.specs.declared.Transfer.{Transfer}

-- an answer emits nothing just where the test passes, and is this one then
abbrev IsSilent : Told → Bool → Told → Type 0
IsSilent t test silent = (t.emits ≡ not test) × (test ≡ true → t ≡ silent)

-- below is not at or above
below_is : (m n : ℕ) → ltb m n ≡ not (leb n m)
below_is m n = go (leb n m) refl
  where
    go : (b : Bool) → leb n m ≡ b → ltb m n ≡ not b
    go true e = le-ltb m n (leb-true n m e)
    go false e = lt-ltb m n (leb-false n m e)

-- by the outcomes of both tests: in a long transfer, and in a short one
module _ (due on : Told) (emits : due.emits ≡ true) (silent : on.emits ≡ false) where
  long_by : (over full : Bool) (fails : Told) → fails.emits ≡ true
      → IsSilent (pick over fails (pick full due on)) (not full && not over) on
  unfolding pick
  long_by true true fails nack = (nack, λ e. absurd (false≢true e))
  long_by true false fails nack = (nack, λ e. absurd (false≢true e))
  long_by false true fails nack = (emits, λ e. absurd (false≢true e))
  long_by false false fails nack = (silent, λ e. refl)

  short_by : (over full : Bool) (fails : Told) → fails.emits ≡ false
      → IsSilent (pick over fails (pick full due on)) (over || not full) (pick over fails on)
  unfolding pick
  short_by true full fails none = (none, λ e. refl)
  short_by false true fails none = (emits, λ e. absurd (false≢true e))
  short_by false false fails none = (silent, λ e. refl)

-- a phase of a long transfer
goes_on_lem : (s : Sender) (t : Transfer) (limit count : ℕ) (due on : Told) → due.emits ≡ true → on.emits ≡ false
    → IsSilent (unless_over s t (failing_with s) (at_limit limit count due on)) (goes_on s t limit count) on
unfolding unless_over at_limit
goes_on_lem s t limit count due on emits silent =
    rw (below_is (increment_of count) limit, below_is (increment_of t.age) s.settings.limit)
    (long_by due on emits silent (leb s.settings.limit (increment_of t.age)) (leb limit (increment_of count)) _ refl)

-- a miss emits a frame, the third one too
miss_emits : (s : Sender) (t : Transfer) (misses : ℕ) (again : Told) → again.emits ≡ true
    → (unless_third s t misses again).emits ≡ true
unfolding unless_third
miss_emits s t misses again emits = pick_elim (λ (a : Told). a.emits ≡ true) _ (λ third. refl) (λ early. emits)

in_phase_lem : (s : Sender) (p : Phase) (m : List ℕ) → IsSilent (tick_phase s p m) (silent_in s p) (silent_tick_in s p)
unfolding tick_phase silent_in silent_tick_in tick_opening tick_sending tick_waiting tick_short short_silently unless_over at_limit
in_phase_lem s Idle m = (refl, λ e. refl)
in_phase_lem s (Opening x) m =
    goes_on_lem s x.transfer s.settings.timeout x.wait _ _
    (miss_emits s x.transfer x.misses _ refl) refl
in_phase_lem s (Sending x) m = goes_on_lem s x.transfer s.settings.gap x.gap _ _ refl refl
in_phase_lem s (Waiting x) m =
    goes_on_lem s x.transfer s.settings.timeout x.wait _ _
    (miss_emits s x.transfer x.misses _ refl) refl
in_phase_lem s (Short x) m =
    rw (below_is (increment_of x.wait) s.settings.timeout)
    (short_by _ _ refl refl (leb s.settings.limit (increment_of x.transfer.age))
    (leb s.settings.timeout (increment_of x.wait)) _ refl)

pub silent_ticks : SilentTicks
unfolding tick_of
silent_ticks s m lent =
    subst (λ (t : Told). IsSilent t (silent_in s s.phase) (silent_tick_in s s.phase)) (pick_true _ lent refl)
    (in_phase_lem s s.phase m)
