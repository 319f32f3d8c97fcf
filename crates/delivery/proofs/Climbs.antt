-- Without a hold the starts of the LM_ACKs on back never fall, and none is below the last start that the sender has taken: the
-- receiver asks from the frame that it expects, which only grows; it starts again at 1 only with another announcement, and
-- none follows an information frame.
-- Assumes nothing.
use Prim.Native.Nat.{ℕ, zero, suc, ◌+◌, ◌≤◌}
use mathlib.Core.Bool.{true, false, false≢true, ◌&&◌, and-false}
use mathlib.Core.List.{List, [], ◌∷◌, ◌++◌, append-nil}
use mathlib.Core.Path.{◌≡◌, refl, sym, ◌∙◌, subst}
use native.Mathlib.Nat.{le_refl}
use native.Mathlib.Omega.{arith}
use borrow.Author.Tests.{leb-false, eqb-true, ltb-true, ne_eqb}
use lib.Dec.{eqb}
use lib.ListN.{length, take}
use Rattle.frame.proofs.Choice.{pick_elim}
use Rattle.frame.specs.Count.{frame_count_of}
use Rattle.frame.specs.Frames.{byte_of, announcement_of, information_of, lm_ack_of, lm_nack_of, end_of_ack_of, sm_ack_of}
use Rattle.frame.specs.declared.Frame.{Frame}
use Rattle.receiver.proofs.View as view
use Rattle.receiver.proofs.View.{Shut, Ticks, Pauses, Hears}
use Rattle.receiver.specs.Told as receiver
use Rattle.receiver.specs.declared.Phase as receiver-phase
use Rattle.receiver.specs.declared.Phase.TheVariants as at
use Rattle.receiver.specs.declared.Settings as receiver-settings
use Rattle.sender.proofs.Choices.{limit_elim, begin_elim, tick_elim, over_elim, timeout_elim, bad_elim, hear_elim}
use Rattle.sender.specs.Begin.{begin_of, begin_short, begin_long}
use Rattle.sender.specs.Hear.{asks_to_hold, hear_of, hear_ack, hear_nack, hear_end, hear_short_ack, ack_opening, ack_window, taking, if_whole, if_first}
use Rattle.sender.specs.Tick.{information_at, tick_of, tick_phase, tick_opening, tick_sending, tick_waiting, tick_short, after_frame}
use Rattle.sender.specs.Told.{Told, silently}
use Rattle.sender.specs.declared.Announced.{Announced}
use Rattle.sender.specs.declared.Phase.{Phase}
use Rattle.sender.specs.declared.Phase.TheVariants.{Idle, Opening, Sending, Waiting, Short}
use Rattle.sender.specs.declared.Settings.{Settings}
use Rattle.sender.specs.declared.Streamed.{Streamed}
use Rattle.sender.specs.declared.Awaited.{Awaited}
use Rattle.sender.specs.declared.Transfer.{Transfer}
use Rattle.delivery.proofs.Lines.{Line, none, more, joins, behind, Ordered, early, late, joins_late, none_late, behind_ordered}
use Rattle.delivery.proofs.Moves.{left_line, left_ordered}
use Rattle.delivery.proofs.Stages.{sender_in}
use Rattle.delivery.specs.Seen.{taken}
use Rattle.delivery.specs.Unmet.{taken_as_hold}
use Rattle.transport.specs.Step.{emission, was_refused, Rest, gone, still, leaving, dropped}

-- ---- the frames

-- on forward: an announcement, and every other frame
abbrev pub Announcing : Frame → Type 0
Announcing f = (f.kind ≡ 1) × (byte_of f 0 ≡ 0)

abbrev pub Carrying : Frame → Type 0
Carrying f = Announcing f → ⊥

-- on back: the starts of the LM_ACKs do not fall, from lo to hi
pub data Rising : ℕ → List Frame → ℕ → Type 0 where
  top : {lo hi : ℕ} → lo ≤ hi → Rising lo [] hi
  ack : {lo hi : ℕ} {f : Frame} {fs : List Frame} → lo ≤ byte_of f 0 → Rising (byte_of f 0) fs hi → Rising lo (f ∷ fs) hi
  other : {lo hi : ℕ} {f : Frame} {fs : List Frame} → (f.kind ≡ 2 → ⊥) → Rising lo fs hi → Rising lo (f ∷ fs) hi

lower : {low lo hi : ℕ} {fs : List Frame} → low ≤ lo → Rising lo fs hi → Rising low fs hi
lower {low} {lo} {hi} l (top t) = let g : low ≤ hi = omega arith in top g
lower {low} l (ack {f = f} a r) = let g : low ≤ byte_of f 0 = omega arith in ack g r
lower l (other n r) = other n (lower l r)

joins_ack : {lo hi : ℕ} {fs : List Frame} (f : Frame) → hi ≤ byte_of f 0 → Rising lo fs hi
    → Rising lo (fs ++ f ∷ []) (byte_of f 0)
joins_ack {lo} f over (top t) = let g : lo ≤ byte_of f 0 = omega arith in ack g (top (le_refl _))
joins_ack f over (ack a r) = ack a (joins_ack f over r)
joins_ack f over (other n r) = other n (joins_ack f over r)

joins_at : {lo hi : ℕ} {fs : List Frame} (f : Frame) (start : ℕ) → byte_of f 0 ≡ start → hi ≤ start → Rising lo fs hi
    → Rising lo (fs ++ f ∷ []) start
joins_at {lo} {fs = fs} f start e over r =
    subst (Rising lo (fs ++ f ∷ [])) e (joins_ack f (omega arith) r)

joins_other : {lo hi : ℕ} {fs : List Frame} (f : Frame) → (f.kind ≡ 2 → ⊥) → Rising lo fs hi → Rising lo (fs ++ f ∷ []) hi
joins_other f differs (top t) = other differs (top t)
joins_other f differs (ack a r) = ack a (joins_other f differs r)
joins_other f differs (other n r) = other n (joins_other f differs r)

rising_behind : {lo hi : ℕ} {f : Frame} {fs : List Frame} → Rising lo (f ∷ fs) hi → Rising lo fs hi
rising_behind (ack a r) = lower a r
rising_behind (other n r) = r

left_rising : {lo hi : ℕ} {f : Frame} {fs : List Frame} (k : Rest) → Rising lo (f ∷ fs) hi → Rising lo (leaving k f fs) hi
left_rising gone r = rising_behind r
left_rising still r = r

-- ---- the receiver

-- Low: no frame of the message has been accepted. High: the frame expected is at least hi. In both no hold stands.
abbrev pub Low : receiver-phase.Phase → Type 0
Low at.Idle = Unit
Low (at.Done y) = Unit
Low (at.Open x) = (x.expected ≡ 1) × (x.held ≡ false)

abbrev pub High : ℕ → receiver-phase.Phase → Type 0
High hi at.Idle = Unit
High hi (at.Done y) = Unit
High hi (at.Open x) = (hi ≤ x.expected) × (x.held ≡ false)

-- after a call that told t, back and phase
record LowNext (lo : ℕ) (back : List Frame) (t : receiver.Told) : Type 0 where
  low : Low t.next.phase
  rises : Rising lo (back ++ emission t.emits t.frame) 1

record HighNext (lo : ℕ) (back : List Frame) (t : receiver.Told) : Type 0 where
  hi : ℕ
  high : High hi t.next.phase
  rises : Rising lo (back ++ emission t.emits t.frame) hi

quiet_back : {lo hi : ℕ} {back : List Frame} → Rising lo back hi → Rising lo (back ++ []) hi
quiet_back r = rw append-nil r

module _ {rs : receiver-settings.Settings} {lo : ℕ} {back : List Frame} where
  low_tick : {q : receiver-phase.Phase} {t : receiver.Told} → Ticks rs q t → Low q → Rising lo back 1 → LowNext lo back t
  unfolding lm_ack_of lm_nack_of
  low_tick (view.rests _) l r = record { low = l; rises = quiet_back r }
  low_tick (view.waits _) l r = record { low = l; rises = quiet_back r }
  low_tick (view.retries _ _ _) l r =
      record { low = l; rises = joins_at _ 1 l.0 (le_refl 1) r }
  low_tick (view.repeats _ held _) l r = absurd (false≢true (sym l.1 ∙ held))
  low_tick view.expires l r = record { low = tt; rises = joins_other _ (λ e. omega arith) r }

  high_tick : {hi : ℕ} {q : receiver-phase.Phase} {t : receiver.Told} → Ticks rs q t → High hi q → Rising lo back hi
      → HighNext lo back t
  unfolding lm_ack_of lm_nack_of
  high_tick {hi} (view.rests _) l r = record { hi = hi; high = l; rises = quiet_back r }
  high_tick {hi} (view.waits _) l r = record { hi = hi; high = l; rises = quiet_back r }
  high_tick (view.retries {x} _ _ _) l r =
      record { hi = x.expected; high = (le_refl _, l.1); rises = joins_ack (lm_ack_of x.expected _) l.0 r }
  high_tick (view.repeats _ held _) l r = absurd (false≢true (sym l.1 ∙ held))
  high_tick {hi} view.expires l r = record { hi = hi; high = tt; rises = joins_other _ (λ e. omega arith) r }

  -- an announcement
  low_hear : {f : Frame} {lent : List ℕ} {q : receiver-phase.Phase} {h : receiver.Heard} → Announcing f → Hears rs f lent q h
      → Low q
      → Rising lo back 1
      → LowNext lo back h.told
  unfolding lm_ack_of lm_nack_of
  low_hear a (view.refuses _ _) l r = record { low = l; rises = quiet_back r }
  low_hear a view.ignores l r = record { low = l; rises = quiet_back r }
  low_hear a (view.announced _ _ (view.nacks _ _)) l r = record { low = l; rises = joins_other _ (λ e. omega arith) r }
  low_hear a (view.announced _ _ (view.opens _ _ _ _ _)) l r =
      record { low = (refl, refl); rises = joins_ack (lm_ack_of 1 _) (le_refl 1) r }
  low_hear a (view.announced _ _ view.again) l r = record { low = l; rises = joins_ack (lm_ack_of 1 _) (le_refl 1) r }
  low_hear a (view.informed _ _ one _) l r = let zero = a.1 in absurd (omega arith)
  low_hear a (view.closes three) l r = let one = a.0 in absurd (omega arith)
  low_hear a (view.short five) l r = let one = a.0 in absurd (omega arith)
  low_hear a (view.short_only_lem seven) l r = let one = a.0 in absurd (omega arith)

  -- another frame
  high_hear : {hi : ℕ} {f : Frame} {lent : List ℕ} {q : receiver-phase.Phase} {h : receiver.Heard} → Carrying f
      → Hears rs f lent q h
      → High hi q
      → Rising lo back hi
      → HighNext lo back h.told
  unfolding lm_ack_of lm_nack_of end_of_ack_of sm_ack_of
  high_hear {hi} c (view.refuses _ _) l r = record { hi = hi; high = l; rises = quiet_back r }
  high_hear {hi} c view.ignores l r = record { hi = hi; high = l; rises = quiet_back r }
  high_hear c (view.announced k z _) l r = absurd (c (k, z))
  high_hear {hi} c (view.informed _ _ _ (view.ended _)) l r =
      record { hi = hi; high = tt; rises = joins_other _ (λ e. omega arith) r }
  high_hear {hi} c (view.informed _ _ _ (view.above _)) l r =
      record { hi = hi; high = tt; rises = joins_other _ (λ e. omega arith) r }
  high_hear {hi} c (view.informed _ _ _ (view.delivers _ _)) l r =
      record { hi = hi; high = tt; rises = joins_other _ (λ e. omega arith) r }
  high_hear c (view.informed _ _ _ (view.asks {x} _ _ _)) l r =
      let top = l.0 in
      record {
        hi = x.expected + 1;
        high = (le_refl _, l.1);
        rises = joins_ack (lm_ack_of (x.expected + 1) _) (omega arith) r;
      }
  high_hear {hi} c (view.informed _ _ _ (view.goes_on _ _ _ _)) l r =
      let top = l.0 in
      record { hi = hi; high = (omega arith, l.1); rises = quiet_back r }
  high_hear {hi} c (view.closes _) l r = record { hi = hi; high = tt; rises = quiet_back r }
  high_hear {hi} c (view.short _) l r = record { hi = hi; high = l; rises = joins_other _ (λ e. omega arith) r }
  high_hear {hi} c (view.short_only_lem _) l r = record { hi = hi; high = l; rises = quiet_back r }

-- what is low is no higher
low_high : (q : receiver-phase.Phase) → Low q → High 1 q
low_high at.Idle l = tt
low_high (at.Done y) l = tt
low_high (at.Open x) l = let first = l.0 in (omega arith, l.1)

-- ---- the sender

-- a window is being sent or has been; the last start taken
pub data Climbing : Phase → ℕ → Type 0 where
  sending : {x : Streamed} → 1 ≤ x.next → x.next ≤ x.last → Climbing (Sending x) x.start
  waiting : {x : Awaited} → 1 ≤ x.last → Climbing (Waiting x) x.start

abbrev pub Off : Phase → Type 0
Off Idle = Unit
Off (Opening x) = ⊥
Off (Sending x) = ⊥
Off (Waiting x) = ⊥
Off (Short x) = Unit

-- a frame with a number from 1 on announces nothing
carries : (number : ℕ) (m : List ℕ) → 1 ≤ number → Carrying (information_at number m)
unfolding information_of
carries number m low a = let zero = a.1 in omega arith

-- what a call of the sender tells: the transfer is over, or goes on, with a frame or without
data Does (lo : ℕ) : Told → Type 0 where
  over : {a : Told} → a.next.phase ≡ Idle → Does lo a
  goes : {a : Told} → Climbing a.next.phase lo → a.emits ≡ false → Does lo a
  adds : {a : Told} → Climbing a.next.phase lo → a.emits ≡ true → Carrying a.frame → Does lo a

module _ (st : Settings) where
  after_climbs : (x : Streamed) → 1 ≤ x.next → x.next ≤ x.last → Climbing (after_frame x) x.start
  unfolding after_frame
  after_climbs x low high =
      pick_elim (λ (p : Phase). Climbing p x.start) _ (λ _. waiting (omega arith))
      (λ on. let more = leb-false x.last x.next on in sending (omega arith) (omega arith))

  window_tick : {p : Phase} {lo : ℕ} → Climbing p lo → (m : List ℕ) → Does lo (tick_of (sender_in st p) m)
  unfolding tick_phase tick_sending tick_waiting
  window_tick {p} {lo} (sending {x} low high) m =
      let P : Told → Type 0 = Does lo in
      let s = sender_in st p in
      tick_elim P s m (goes (sending low high) refl)
      (over_elim P s x.transfer _ (over refl)
      (λ _. limit_elim P st.gap x.gap (adds (after_climbs x low high) refl (carries x.next m low))
      (λ _. goes (sending low high) refl)))
  window_tick {p} {lo} (waiting {x} low) m =
      let P : Told → Type 0 = Does lo in
      let s = sender_in st p in
      tick_elim P s m (goes (waiting low) refl)
      (over_elim P s x.transfer _ (over refl)
      (λ _. timeout_elim P s x.transfer x.wait x.misses (over refl)
      (λ _. adds (waiting low) refl (carries x.last m low))
      (λ _. goes (waiting low) refl)))

-- what a hearing at the sender leaves of back, and the last start taken then
data Heeds (hi : ℕ) (back : List Frame) : Told → Type 0 where
  over : {a : Told} → a.next.phase ≡ Idle → Heeds hi back a
  goes : {a : Told} {lo : ℕ} → Climbing a.next.phase lo → Rising lo back hi → a.emits ≡ false → Heeds hi back a

-- an LM_ACK that is taken is the last start taken
takes_rising : {hi : ℕ} (f : Frame) (rest : List Frame) (k : Rest) → Rising (byte_of f 0) rest hi
    → Rising (byte_of f 0) (leaving k f rest) hi
takes_rising f rest gone r = r
takes_rising f rest still r = ack (le_refl _) r

module _ (st : Settings) (hi : ℕ) (f : Frame) (rest : List Frame) (k : Rest) where
  abbrev Leaves : Told → Type 0
  Leaves = Heeds hi (leaving k f rest)

  -- none below the last start is heard
  window_ack_lem : {p : Phase} (t : Transfer) (taken misses : ℕ) → Leaves (silently (sender_in st p)) → taken ≤ byte_of f 0
      → Rising (byte_of f 0) rest hi
      → Leaves (ack_window (sender_in st p) t taken misses (byte_of f 0) (byte_of f 1))
  unfolding ack_window taking
  window_ack_lem {p} t taken misses same from r =
      let s = sender_in st p in
      bad_elim Leaves s t (byte_of f 0) (byte_of f 1) same (over refl)
      (λ low some inside. pick_elim Leaves _
      (λ below. let under = ltb-true (byte_of f 0) taken below in absurd (omega arith))
      (λ _. goes (sending low (omega arith)) (takes_rising f rest k r) refl))

  heeds_ack : {p : Phase} {lo : ℕ} (t : Transfer) (misses : ℕ) → Leaves (silently (sender_in st p)) → f.kind ≡ 2
      → Rising lo (f ∷ rest) hi
      → Leaves (ack_window (sender_in st p) t lo misses (byte_of f 0) (byte_of f 1))
  heeds_ack t misses same two (ack a r) = window_ack_lem t _ misses same a r
  heeds_ack t misses same two (other differs r) = absurd (differs two)

  window_hear : {p : Phase} {lo : ℕ} → Climbing p lo → Rising lo (f ∷ rest) hi → Leaves (hear_of (sender_in st p) f)
  unfolding hear_ack hear_nack hear_end hear_short_ack if_whole
  window_hear {p} (sending {x} low high) r =
      let s = sender_in st p in
      let same : Leaves (silently s) = goes (sending low high) (left_rising k r) refl in
      hear_elim Leaves s f (λ _. goes (sending low high) (left_rising k r) refl)
      (λ two. heeds_ack x.transfer x.misses same two r)
      (over refl) (pick_elim Leaves _ (λ _. over refl) (λ _. same)) same
  window_hear {p} (waiting {x} low) r =
      let s = sender_in st p in
      let same : Leaves (silently s) = goes (waiting low) (left_rising k r) refl in
      hear_elim Leaves s f (λ _. goes (waiting low) (left_rising k r) refl)
      (λ two. heeds_ack x.transfer x.misses same two r)
      (over refl) (pick_elim Leaves _ (λ _. over refl) (λ _. same)) same

-- ---- both ends and both lists

-- off: no long transfer is going on. opening: nothing but announcements is on forward, of LM_ACKs only those with start 1 on
-- back. low: no information frame has been heard. high: no announcement is left on forward.
pub data Climb : Phase → receiver-phase.Phase → (forward back : List Frame) → Type 0 where
  off : {p : Phase} {q : receiver-phase.Phase} {forward back : List Frame} → Off p → Climb p q forward back
  opening : {x : Announced} {q : receiver-phase.Phase} {forward back : List Frame}
      → Low q
      → Line Announcing forward
      → Rising 1 back 1
      → Climb (Opening x) q forward back
  low : {p : Phase} {lo : ℕ} {q : receiver-phase.Phase} {forward back : List Frame}
      → Climbing p lo
      → Low q
      → Ordered Announcing Carrying forward
      → Rising lo back 1
      → Climb p q forward back
  high : {p : Phase} {lo hi : ℕ} {q : receiver-phase.Phase} {forward back : List Frame}
      → Climbing p lo
      → High hi q
      → Line Carrying forward
      → Rising lo back hi
      → Climb p q forward back

module _ (st : Settings) where
  idles : {p : Phase} {q : receiver-phase.Phase} {forward back : List Frame} → p ≡ Idle → Climb p q forward back
  idles {p} e = off {p = p} (rw e tt)

  off_tick : (p : Phase) → Off p → (m : List ℕ) → Off (tick_of (sender_in st p) m).next.phase
  unfolding tick_phase tick_short
  off_tick Idle o m = tick_elim (λ (a : Told). Off a.next.phase) (sender_in st Idle) m tt tt
  off_tick (Short x) o m =
      let P : Told → Type 0 = λ a. Off a.next.phase in
      let s = sender_in st (Short x) in
      tick_elim P s m tt (over_elim P s x.transfer _ tt (λ _. limit_elim P st.timeout x.wait tt (λ _. tt)))
  off_tick (Opening x) o m = absurd o
  off_tick (Sending x) o m = absurd o
  off_tick (Waiting x) o m = absurd o

  off_hear : (p : Phase) → Off p → (f : Frame) → Off (hear_of (sender_in st p) f).next.phase
  unfolding hear_ack hear_nack hear_end hear_short_ack if_first
  off_hear Idle o f = hear_elim (λ (a : Told). Off a.next.phase) (sender_in st Idle) f (λ _. tt) (λ _. tt) tt tt tt
  off_hear (Short x) o f =
      let P : Told → Type 0 = λ a. Off a.next.phase in
      hear_elim P (sender_in st (Short x)) f (λ _. tt) (λ _. tt) tt tt (pick_elim P _ (λ _. tt) (λ _. tt))
  off_hear (Opening x) o f = absurd o
  off_hear (Sending x) o f = absurd o
  off_hear (Waiting x) o f = absurd o

  module _ (q : receiver-phase.Phase) (forward : List Frame) where
    -- after a call of the sender that told a
    abbrev pub Sent : List Frame → Told → Type 0
    Sent back a = Climb a.next.phase q (forward ++ emission a.emits a.frame) back

    does_low : {back : List Frame} {lo : ℕ} {a : Told} → Does lo a → Low q → Ordered Announcing Carrying forward
        → Rising lo back 1
        → Sent back a
    does_low (over e) l o r = idles e
    does_low (goes {a} c e) l o r = low {forward = forward ++ emission a.emits a.frame} c l (rw (e, append-nil) o) r
    does_low (adds {a} c e n) l o r = low {forward = forward ++ emission a.emits a.frame} c l (rw e (joins_late o n)) r

    does_high : {back : List Frame} {lo hi : ℕ} {a : Told} → Does lo a → High hi q → Line Carrying forward
        → Rising lo back hi
        → Sent back a
    does_high (over e) l o r = idles e
    does_high (goes {a} c e) l o r = high {forward = forward ++ emission a.emits a.frame} c l (rw (e, append-nil) o) r
    does_high (adds {a} c e n) l o r = high {forward = forward ++ emission a.emits a.frame} c l (rw e (joins o n)) r

    heeds_low : {back : List Frame} {a : Told} → Heeds 1 back a → Low q → Ordered Announcing Carrying forward → Sent back a
    heeds_low (over e) l o = idles e
    heeds_low (goes {a} c r e) l o = low {forward = forward ++ emission a.emits a.frame} c l (rw (e, append-nil) o) r

    heeds_high : {hi : ℕ} {back : List Frame} {a : Told} → Heeds hi back a → High hi q → Line Carrying forward → Sent back a
    heeds_high (over e) l o = idles e
    heeds_high (goes {a} c r e) l o = high {forward = forward ++ emission a.emits a.frame} c l (rw (e, append-nil) o) r

    -- the announcement again
    opening_tick : (x : Announced) (m : List ℕ) {back : List Frame} → Low q → Line Announcing forward → Rising 1 back 1
        → Sent back (tick_of (sender_in st (Opening x)) m)
    unfolding tick_phase tick_opening announcement_of
    opening_tick x m {back} l f r =
        let P : Told → Type 0 = Sent back in
        let s = sender_in st (Opening x) in
        let same : Line Announcing (forward ++ []) = rw append-nil f in
        tick_elim P s m (opening l same r)
        (over_elim P s x.transfer _ (off tt)
        (λ _. timeout_elim P s x.transfer x.wait x.misses (off tt)
        (λ _. opening l (joins f (refl, refl)) r)
        (λ _. opening l same r)))

    -- LM_ACK 1 is taken
    opening_hear : (x : Announced) (f : Frame) (rest : List Frame) (k : Rest) → Low q → Line Announcing forward
        → Rising 1 (f ∷ rest) 1
        → Sent (leaving k f rest) (hear_of (sender_in st (Opening x)) f)
    unfolding hear_ack hear_nack hear_end hear_short_ack ack_opening taking
    opening_hear x f rest k l o r =
        let P : Told → Type 0 = Sent (leaving k f rest) in
        let s = sender_in st (Opening x) in
        let on : Line Announcing (forward ++ []) = rw append-nil o in
        let same : P (silently s) = opening l on (left_rising k r) in
        hear_elim P s f (λ _. same)
        (λ _. bad_elim P s x.transfer (byte_of f 0) (byte_of f 1) same (off tt)
        (λ from some inside. pick_elim P _
        (λ first.
        let one = eqb-true (byte_of f 0) 1 first in
        let rises : Rising (byte_of f 0) (leaving k f rest) 1 = rw one (left_rising k r) in
        low (sending from (omega arith)) l (none_late on) rises)
        (λ _. same)))
        (off tt) same same

  pub sender_ticks_lem : {p : Phase} {q : receiver-phase.Phase} {forward back : List Frame} (m : List ℕ) → Climb p q forward back
      → Sent q forward back (tick_of (sender_in st p) m)
  sender_ticks_lem {p} m (off o) = off (off_tick p o m)
  sender_ticks_lem {q = q} {forward = forward} m (opening {x} l f r) = opening_tick q forward x m l f r
  sender_ticks_lem {q = q} {forward = forward} m (low c l o r) = does_low q forward (window_tick st c m) l o r
  sender_ticks_lem {q = q} {forward = forward} m (high c l o r) = does_high q forward (window_tick st c m) l o r

  pub sender_hears : {p : Phase} {q : receiver-phase.Phase} {forward : List Frame} {f : Frame} {rest : List Frame} (k : Rest)
      → Climb p q forward (f ∷ rest)
      → Sent q forward (leaving k f rest) (hear_of (sender_in st p) f)
  sender_hears {p} {f = f} k (off o) = off (off_hear p o f)
  sender_hears {q = q} {forward} {f} {rest} k (opening {x} l o r) = opening_hear q forward x f rest k l o r
  sender_hears {q = q} {forward} {f} {rest} k (low c l o r) = heeds_low q forward (window_hear st 1 f rest k c r) l o
  sender_hears {q = q} {forward} {f} {rest} k (high {hi = hi} c l o r) =
      heeds_high q forward (window_hear st hi f rest k c r) l o

  -- a begin, which finds the receiver shut and both lists empty
  shut_low : (q : receiver-phase.Phase) → Shut q → Low q
  shut_low at.Idle shut = tt
  shut_low (at.Done y) shut = tt
  shut_low (at.Open x) shut = absurd shut

  pub sender_begins : {p : Phase} {q : receiver-phase.Phase} {forward back : List Frame} (m : List ℕ)
      → (taken (begin_of (sender_in st p) m).outcome ≡ true → Shut q × (forward ≡ []) × (back ≡ []))
      → Climb p q forward back
      → Sent q forward back (begin_of (sender_in st p) m)
  unfolding begin_short begin_long announcement_of
  sender_begins {p} {q} {forward} {back} m found c =
      begin_elim (λ (a : Told). (taken a.outcome ≡ true → Shut q × (forward ≡ []) × (back ≡ [])) → Sent q forward back a)
      (sender_in st p) m
      (λ number _. rw append-nil c)
      (λ _ _ _. off tt)
      (λ _ _ clear.
      let empty = clear refl in
      let first : Line Announcing (forward ++ announcement_of (frame_count_of (length m)) (length m) ∷ []) =
      rw empty.1 (more (refl, refl) none) in
      let nothing : Rising 1 back 1 = rw empty.2 (top (le_refl 1)) in
      opening (shut_low q empty.0) first nothing)
      found

-- ---- the receiver's calls

-- after a call of the receiver that told t; forward is as the call left it
abbrev pub Answered : Phase → (forward back : List Frame) → receiver.Told → Type 0
Answered p forward back t = Climb p t.next.phase forward (back ++ emission t.emits t.frame)

pub receiver_ticks_lem : {rs : receiver-settings.Settings} {p : Phase} {q : receiver-phase.Phase} {forward back : List Frame} {t : receiver.Told} → Climb p q forward back
    → Ticks rs q t
    → Answered p forward back t
receiver_ticks_lem (off o) v = off o
receiver_ticks_lem (opening l f r) v = let n = low_tick v l r in opening n.low f n.rises
receiver_ticks_lem (low c l o r) v = let n = low_tick v l r in low c n.low o n.rises
receiver_ticks_lem (high c l o r) v = let n = high_tick v l r in high c n.high o n.rises

pub receiver_pauses : {rs : receiver-settings.Settings} {p : Phase} {k : view.Pause} {q : receiver-phase.Phase} {forward back : List Frame} {t : receiver.Told}
    → (k ≡ view.hold → was_refused t.outcome ≡ true)
    → Climb p q forward back
    → Pauses rs k q t
    → Answered p forward back t
receiver_pauses d c view.denied = rw append-nil c
receiver_pauses d c (view.holds _ _) = absurd (false≢true (d refl))
receiver_pauses d (off o) (view.resumes held) = off o
receiver_pauses d (opening l f r) (view.resumes held) = absurd (false≢true (sym l.1 ∙ held))
receiver_pauses d (low c l o r) (view.resumes held) = absurd (false≢true (sym l.1 ∙ held))
receiver_pauses d (high c l o r) (view.resumes held) = absurd (false≢true (sym l.1 ∙ held))

pub receiver_hears : {rs : receiver-settings.Settings} {p : Phase} {q : receiver-phase.Phase} {f : Frame} {rest back : List Frame} {lent : List ℕ} {h : receiver.Heard}
    (k : Rest)
    → Climb p q (f ∷ rest) back
    → Hears rs f lent q h
    → Answered p (leaving k f rest) back h.told
receiver_hears k (off o) v = off o
receiver_hears k (opening l (more a f) r) v =
    let n = low_hear a v l r in opening n.low (left_line k (more a f)) n.rises
receiver_hears k (low c l (early a o) r) v =
    let n = low_hear a v l r in low c n.low (left_ordered k (early a o)) n.rises
receiver_hears {q = q} k (low c l (late (more a f)) r) v =
    let n = high_hear a v (low_high q l) r in high c n.high (left_line k (more a f)) n.rises
receiver_hears k (high c l (more a f) r) v =
    let n = high_hear a v l r in high c n.high (left_line k (more a f)) n.rises

-- ---- what is lost

pub cut_line : {P : Frame → Type 0} {fs : List Frame} (n : ℕ) → Line P fs → Line P (take n fs)
cut_line zero l = none
cut_line (suc n) none = none
cut_line (suc n) (more p l) = more p (cut_line n l)

cut_ordered : {P Q : Frame → Type 0} {fs : List Frame} (n : ℕ) → Ordered P Q fs → Ordered P Q (take n fs)
cut_ordered n (late l) = late (cut_line n l)
cut_ordered zero (early p o) = late none
cut_ordered (suc n) (early p o) = early p (cut_ordered n o)

rising_over : {lo hi : ℕ} {fs : List Frame} → Rising lo fs hi → lo ≤ hi
rising_over (top l) = l
rising_over (ack a r) = let b = rising_over r in omega arith
rising_over (other differs r) = rising_over r

cut_rising : {lo hi : ℕ} {fs : List Frame} (n : ℕ) → Rising lo fs hi → Rising lo (take n fs) hi
cut_rising zero r = top (rising_over r)
cut_rising (suc n) (top l) = top l
cut_rising (suc n) (ack a r) = ack a (cut_rising n r)
cut_rising (suc n) (other differs r) = other differs (cut_rising n r)

-- a line that is full drops what joins it
pub cut : {p : Phase} {q : receiver-phase.Phase} {forward back : List Frame} (n : ℕ) → Climb p q forward back
    → Climb p q (take n forward) (take n back)
cut n (off o) = off o
cut n (opening l f r) = opening l (cut_line n f) (cut_rising n r)
cut n (low c l o r) = low c l (cut_ordered n o) (cut_rising n r)
cut n (high c l o r) = high c l (cut_line n o) (cut_rising n r)

pub drop_line : {P : Frame → Type 0} (fs : List Frame) → Line P fs → Line P (dropped fs)
drop_line [] l = l
drop_line (f ∷ fs) l = behind l

drop_ordered : {P Q : Frame → Type 0} (fs : List Frame) → Ordered P Q fs → Ordered P Q (dropped fs)
drop_ordered [] o = o
drop_ordered (f ∷ fs) o = behind_ordered o

drop_rising : {lo hi : ℕ} (fs : List Frame) → Rising lo fs hi → Rising lo (dropped fs) hi
drop_rising [] r = r
drop_rising (f ∷ fs) r = rising_behind r

pub loses_forward : {p : Phase} {q : receiver-phase.Phase} {forward back : List Frame} → Climb p q forward back
    → Climb p q (dropped forward) back
loses_forward (off o) = off o
loses_forward {forward = forward} (opening l o r) = opening l (drop_line forward o) r
loses_forward {forward = forward} (low c l o r) = low c l (drop_ordered forward o) r
loses_forward {forward = forward} (high c l o r) = high c l (drop_line forward o) r

pub loses_back : {p : Phase} {q : receiver-phase.Phase} {forward back : List Frame} → Climb p q forward back
    → Climb p q forward (dropped back)
loses_back (off o) = off o
loses_back {back = back} (opening l o r) = opening l o (drop_rising back r)
loses_back {back = back} (low c l o r) = low c l o (drop_rising back r)
loses_back {back = back} (high c l o r) = high c l o (drop_rising back r)

-- ---- no LM_ACK is below the last start taken

not_asked : {lo hi : ℕ} {f : Frame} {rest : List Frame} → Rising lo (f ∷ rest) hi
    → (eqb f.kind 2 && asks_to_hold lo (byte_of f 0) (byte_of f 1)) ≡ false
not_asked {lo} {f = f} (ack a r) = rw (ne_eqb (byte_of f 0 + 1) lo (omega arith)) (and-false (eqb f.kind 2))
not_asked {f = f} (other differs r) = rw (ne_eqb f.kind 2 differs) refl

window_unmet : {p : Phase} {lo hi : ℕ} {f : Frame} {rest : List Frame} → Climbing p lo → Rising lo (f ∷ rest) hi
    → taken_as_hold p f ≡ false
window_unmet (sending _ _) r = not_asked r
window_unmet (waiting _) r = not_asked r

off_unmet : (p : Phase) (f : Frame) → Off p → taken_as_hold p f ≡ false
off_unmet Idle f o = refl
off_unmet (Short x) f o = refl
off_unmet (Opening x) f o = absurd o
off_unmet (Sending x) f o = absurd o
off_unmet (Waiting x) f o = absurd o

pub unmet : {p : Phase} {q : receiver-phase.Phase} {forward : List Frame} {f : Frame} {rest : List Frame}
    → Climb p q forward (f ∷ rest)
    → taken_as_hold p f ≡ false
unmet {p} {f = f} (off o) = off_unmet p f o
unmet (opening l o r) = refl
unmet (low c l o r) = window_unmet c r
unmet (high c l o r) = window_unmet c r
