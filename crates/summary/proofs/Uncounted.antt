-- A tick that is refused 4, and one that emits nothing: the frame of the answer is the blank one, and the counts stay.
-- Assumes nothing.
use Prim.Native.Nat.{ℕ}
use mathlib.Core.Path.{◌≡◌, refl, sym, ap, ◌∙◌}
use mathlib.Core.Bool.{true, false}
use mathlib.Core.List.{List}
use lib.ListN.{length}
use Rattle.frame.proofs.Choice.{pick_false, pick_elim}
use Rattle.frame.specs.Frames.{blank_of}
use Rattle.sender.proofs.SilentTicks.{silent_ticks}
use Rattle.sender.specs.Call.{tick}
use Rattle.sender.specs.SilentTicks.{silent_in, short_silently, silent_tick_in}
use Rattle.sender.specs.Tick.{unless_over, lent_to, tick_of}
use Rattle.sender.specs.Told.{Told, refusing}
use Rattle.sender.specs.declared.Phase.{Phase}
use Rattle.sender.specs.declared.Phase.TheVariants.{Idle, Opening, Sending, Waiting, Short}
use Rattle.sender.specs.declared.Sender.{Sender}
use Rattle.summary.proofs.EachCall.{blank_none, lent_is}
use Rattle.summary.specs.Calls.{kept, keeping, kept_of}
use Rattle.summary.specs.Counts.{counting}

silent_blank : (s : Sender) (p : Phase) → (silent_tick_in s p).frame ≡ blank_of
unfolding silent_tick_in short_silently unless_over
silent_blank s Idle = refl
silent_blank s (Opening x) = refl
silent_blank s (Sending x) = refl
silent_blank s (Waiting x) = refl
silent_blank s (Short x) = pick_elim (λ (t : Told). t.frame ≡ blank_of) _ (λ over. refl) (λ early. refl)

module _ (s : Sender) (m counts : List ℕ) (full : length counts ≡ 512) where
  -- a tick that answers this, without a frame
  without_frame : (t : Told) → tick_of s m ≡ t → t.frame ≡ blank_of → kept_of s (tick m) counts ≡ kept t counts
  without_frame t is blank =
      lent_is s (tick m) counts full ∙ ap (λ (a : Told). keeping a counts) is
      ∙ ap (kept t) (ap (counting counts) blank ∙ blank_none counts)

  pub refused_tick : lent_to s.phase m ≡ false → kept_of s (tick m) counts ≡ kept (refusing s 4) counts
  unfolding tick_of
  refused_tick other = without_frame _ (sym (pick_false _ other refl)) refl

  pub silent_tick : lent_to s.phase m ≡ true → silent_in s s.phase ≡ true
      → kept_of s (tick m) counts ≡ kept (silent_tick_in s s.phase) counts
  silent_tick lent silent = without_frame _ ((silent_ticks s m lent).1 silent) (silent_blank s s.phase)
