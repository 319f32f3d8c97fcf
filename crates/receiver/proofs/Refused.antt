-- What a hearing is refused by: one case of the view is a refusal, which answers the receiver and the buffer as they were, and by
-- 14 only an unclean frame; the outcome of every other case is none.
-- Assumes nothing.
use Prim.Native.Nat.{ℕ}
use mathlib.Core.Path.{◌≡◌, refl, ap, ◌∙◌, subst}
use mathlib.Core.List.{List}
use Rattle.frame.specs.declared.Frame.{Frame}
use Rattle.receiver.proofs.View.{receiver_in, Announced, nacks, opens, again, Informed, ended, above, delivers, asks, goes_on, Hears, refuses, ignores, announced, informed, closes, short, short_only_lem}
use Rattle.receiver.specs.Refusals.{Unchanged, Unclean}
use Rattle.receiver.specs.Told as told
use Rattle.receiver.specs.declared.Phase.{Phase}
use Rattle.receiver.specs.declared.Settings.{Settings}

-- the outcome is no refusal
abbrev pub Taken : told.Outcome → Type 0
Taken told.quiet = Unit
Taken (told.refused number) = ⊥
Taken (told.delivered length) = Unit
Taken (told.failed cause) = Unit
Taken told.short = Unit

pub not_refused : {o : told.Outcome} {number : ℕ} → Taken o → o ≡ told.refused number → ⊥
not_refused taken e = subst Taken e taken

-- and the number of one that is
abbrev pub number_of : told.Outcome → ℕ
number_of told.quiet = 0
number_of (told.refused number) = number
number_of (told.delivered length) = 0
number_of (told.failed cause) = 0
number_of told.short = 0

module _ {s : Settings} {buffer : List ℕ} where
  announced_taken : {frames l : ℕ} {p : Phase} {h : told.Heard} → Announced s frames l buffer p h → Taken h.told.outcome
  announced_taken (nacks _ _) = tt
  announced_taken (opens _ _ _ _ _) = tt
  announced_taken again = tt

  informed_taken : {number : ℕ} {bytes : List ℕ} {p : Phase} {h : told.Heard} → Informed s number bytes buffer p h
      → Taken h.told.outcome
  informed_taken (ended _) = tt
  informed_taken (above _) = tt
  informed_taken (delivers _ _) = tt
  informed_taken (asks _ _ _) = tt
  informed_taken (goes_on _ _ _ _) = tt

  -- one case is a refusal; by 14 it is one of an unclean frame
  pub refused_so : {f : Frame} {p : Phase} {h : told.Heard} {number : ℕ} → Hears s f buffer p h
      → h.told.outcome ≡ told.refused number
      → Unchanged (receiver_in s p) buffer h × (number ≡ 14 → Unclean f p)
  refused_so (refuses _ why) e = (
    record { receiver = refl; lent = refl; emits = refl; frame = refl; bytes = refl },
    λ is. why (ap number_of e ∙ is),
  )
  refused_so ignores e = absurd (not_refused tt e)
  refused_so (announced _ _ a) e = absurd (not_refused (announced_taken a) e)
  refused_so (informed _ _ _ i) e = absurd (not_refused (informed_taken i) e)
  refused_so (closes _) e = absurd (not_refused tt e)
  refused_so (short _) e = absurd (not_refused tt e)
  refused_so (short_only_lem _) e = absurd (not_refused tt e)
