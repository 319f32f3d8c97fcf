-- Demand 1 at a hearing: a refused one leaves the lent buffer as it was. So the buffer after a call is what the call left,
-- refused or not.
-- Assumes nothing.
use Prim.Native.Nat.{ℕ}
use mathlib.Core.Bool.{Bool, true, false, not, false≢true}
use mathlib.Core.List.{List}
use mathlib.Core.Path.{◌≡◌, refl}
use Rattle.frame.specs.declared.Frame.{Frame}
use Rattle.receiver.proofs.View.{Announced, nacks, opens, again, Informed, ended, above, delivers, asks, goes_on, Hears, refuses, ignores, announced, informed, closes, short, short_only_lem, hear_does}
use Rattle.receiver.specs.Hear.{hear_of}
use Rattle.receiver.specs.Told.{Heard}
use Rattle.receiver.specs.declared.Phase.{Phase}
use Rattle.receiver.specs.declared.Receiver.{Receiver}
use Rattle.receiver.specs.declared.Settings.{Settings}
use Rattle.transport.specs.Step.{was_refused, buffer_after}

-- what is heard is not refused
abbrev pub Unrefused : Heard → Type 0
Unrefused h = not (was_refused h.told.outcome) ≡ true

module _ {rs : Settings} {lent : List ℕ} where
  pub announced_taken : {q : Phase} {frames l : ℕ} {h : Heard} → Announced rs frames l lent q h → Unrefused h
  announced_taken (nacks _ _) = refl
  announced_taken (opens _ _ _ _ _) = refl
  announced_taken again = refl

  pub informed_taken : {q : Phase} {number : ℕ} {bytes : List ℕ} {h : Heard} → Informed rs number bytes lent q h → Unrefused h
  informed_taken (ended _) = refl
  informed_taken (above _) = refl
  informed_taken (delivers _ _) = refl
  informed_taken (asks _ _ _) = refl
  informed_taken (goes_on _ _ _ _) = refl

taken : (buffer : List ℕ) (h : Heard) → Unrefused h → buffer_after (was_refused h.told.outcome) buffer h.buffer ≡ h.buffer
taken buffer h = go (was_refused h.told.outcome)
  where
    go : (b : Bool) → not b ≡ true → buffer_after b buffer h.buffer ≡ h.buffer
    go true e = absurd (false≢true e)
    go false e = refl

-- the buffer after the call is what the call left
left : {s : Settings} {f : Frame} {p : Phase} {buffer : List ℕ} {h : Heard} → Hears s f buffer p h
    → buffer_after (was_refused h.told.outcome) buffer h.buffer ≡ h.buffer
left (refuses _ _) = refl
left ignores = refl
left {buffer = buffer} {h = h} (announced _ _ a) = taken buffer h (announced_taken a)
left {buffer = buffer} {h = h} (informed _ _ _ i) = taken buffer h (informed_taken i)
left (closes _) = refl
left (short _) = refl
left (short_only_lem _) = refl

pub buffer_left : (r : Receiver) (f : Frame) (buffer : List ℕ)
    → buffer_after (was_refused (hear_of r f buffer).told.outcome) buffer (hear_of r f buffer).buffer ≡ (hear_of r f buffer).buffer
buffer_left r f buffer = left (hear_does r f buffer)
