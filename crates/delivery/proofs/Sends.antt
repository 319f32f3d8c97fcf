-- What the sender does in a transfer: at a tick it goes on, with a frame of the transfer or none, or fails; at a frame
-- heard it goes on, takes up a window, or finishes.
use Prim.Native.Nat.{ℕ, ◌+◌, ◌≤◌, ◌<◌}
use mathlib.Core.Bool.{Bool, true, false}
use mathlib.Core.List.{List}
use mathlib.Core.Path.{◌≡◌, refl, sym, ap, ap₂, ◌∙◌, subst⁻¹}
use native.Mathlib.Nat.{le_refl}
use native.Mathlib.Omega.{arith}
use borrow.Author.Tests.{leb-false, eqb-true}
use lib.Dec.{eqb}
use lib.ListN.{length}
use Rattle.frame.specs.Choice.{pick}
use Rattle.frame.specs.Count.{increment_of}
use Rattle.frame.specs.Frames.{word_at, announcement_of, lm_ack_of, lm_nack_of, end_of_ack_of, sm_ack_of}
use Rattle.frame.specs.Reading.{read_of, named_of, all_filler}
use Rattle.frame.specs.declared.Frame.{Frame}
use Rattle.sender.proofs.Choices.{limit_elim, tick_elim, over_elim, timeout_elim, bad_elim, hear_elim}
use Rattle.sender.specs.Hear.{hear_of, hear_read, hear_kind, hear_ack, hear_nack, hear_end, hear_short_ack, ack_opening, taking_hold, ack_below, ack_window, window_last, taking, is_whole, if_whole, if_first}
use Rattle.sender.specs.State.{aged, counted}
use Rattle.sender.specs.Tick.{tick_of, lent_to, tick_phase, tick_opening, tick_sending, tick_waiting, tick_short, after_frame}
use Rattle.sender.specs.Told.{Told, quiet, refused, sent, failed, refusing}
use Rattle.sender.specs.declared.Announced.{Announced}
use Rattle.sender.specs.declared.Awaited.{Awaited}
use Rattle.sender.specs.declared.Phase.{Phase}
use Rattle.sender.specs.declared.Phase.TheVariants.{Idle, Opening, Sending, Waiting, Short}
use Rattle.sender.specs.declared.Sender.{Sender}
use Rattle.sender.specs.declared.Settings.{Settings}
use Rattle.sender.specs.declared.Single.{Single}
use Rattle.sender.specs.declared.Streamed.{Streamed}
use Rattle.sender.specs.declared.Transfer.{Transfer}
use Rattle.frame.proofs.Choice.{pick_elim, both_left, both_right}
use Rattle.frame.proofs.Laws.{increment_is, word_whole}
use Rattle.delivery.proofs.Stages as stages
use Rattle.delivery.proofs.Stages.{sender_in, frames_of, announces, carries, Adds, announcement, information, Other, Replies, Keeps, Moving, opening, sending, waiting, Lone, lone, Repeats, repeats}
use Rattle.delivery.specs.Seen.{taken}

-- a tick that is lent the begun length is not refused
abbrev Taken : Told → Type 0
Taken a = taken a.outcome ≡ true

pub tick_taken : (s : Sender) (p : Phase) (m : List ℕ) → Taken (tick_phase s p m)
unfolding tick_phase tick_opening tick_sending tick_waiting tick_short
tick_taken s Idle m = refl
tick_taken s (Opening x) m =
    over_elim Taken s x.transfer _ refl
    (λ _. timeout_elim Taken s x.transfer x.wait x.misses refl (λ _. refl) (λ _. refl))
tick_taken s (Sending x) m =
    over_elim Taken s x.transfer _ refl (λ _. limit_elim Taken s.settings.gap x.gap refl (λ _. refl))
tick_taken s (Waiting x) m =
    over_elim Taken s x.transfer _ refl
    (λ _. timeout_elim Taken s x.transfer x.wait x.misses refl (λ _. refl) (λ _. refl))
tick_taken s (Short x) m =
    over_elim Taken s x.transfer _ refl (λ _. limit_elim Taken s.settings.timeout x.wait refl (λ _. refl))

-- What a tick tells of a transfer of which n ticks had passed: S says what holds of the phase after so many ticks, A which
-- frames go out.
pub data Ticks (st : Settings) (S : ℕ → Phase → Type 0) (A : Frame → Type 0) (n : ℕ) : Told → Type 0 where
  over : {emits : Bool} {f : Frame} {cause ticks frames : ℕ}
      → Ticks st S A n (record { next = sender_in st Idle; emits = emits; frame = f; outcome = failed cause ticks frames })
  kept : {p : Phase} {f : Frame} {number : ℕ}
      → S n p
      → Ticks st S A n (record { next = sender_in st p; emits = false; frame = f; outcome = refused number })
  waits : {p : Phase} {f : Frame}
      → n + 1 < st.limit
      → S (n + 1) p
      → Ticks st S A n (record { next = sender_in st p; emits = false; frame = f; outcome = quiet })
  adds : {p : Phase} {f : Frame}
      → n + 1 < st.limit
      → S (n + 1) p
      → A f
      → Ticks st S A n (record { next = sender_in st p; emits = true; frame = f; outcome = quiet })

-- a tick is refused, or it is lent the begun message m
lent : {st : Settings} {S : ℕ → Phase → Type 0} {A : Frame → Type 0} {n : ℕ} (p : Phase) {m : List ℕ} (l : List ℕ)
    → S n p
    → Ticks st S A n (tick_phase (sender_in st p) p m)
    → (Taken (tick_of (sender_in st p) l) → l ≡ m)
    → Ticks st S A n (tick_of (sender_in st p) l)
unfolding tick_of pick
lent {st} {S} {A} {n} p {m} l v k = go (lent_to p l)
  where
    told : Bool → Told
    told b = pick b (tick_phase (sender_in st p) p l) (refusing (sender_in st p) 4)

    go : (b : Bool) → (Taken (told b) → l ≡ m) → Ticks st S A n (told b)
    go true c =
        subst⁻¹ (λ (j : List ℕ). Ticks st S A n (tick_phase (sender_in st p) p j)) (c (tick_taken (sender_in st p) p l)) k
    go false c = kept v

module _ (st : Settings) (small : st.limit ≤ 60000) (m : List ℕ) (n : ℕ) (young : n < st.limit) where
  -- the age grows by 1
  grows : (t : Transfer) → Keeps m t n → increment_of t.age ≡ n + 1
  grows t k = ap increment_of k.old ∙ increment_is n (omega arith)

  older : (t : Transfer) → Keeps m t n → Keeps m (aged t) (n + 1)
  older t k = record { long = k.long; many = k.many; old = grows t k }

  older_counted : (t : Transfer) → Keeps m t n → Keeps m (counted (aged t)) (n + 1)
  older_counted t k = record { long = k.long; many = k.many; old = grows t k }

  -- short of M after this tick
  in_time_lem : (t : Transfer) → Keeps m t n → increment_of t.age < st.limit → n + 1 < st.limit
  in_time_lem t k early = let g = grows t k in omega arith

  tick_opening_lem : (x : Announced) → Keeps m x.transfer n → Ticks st (λ k. Moving m k true) (Adds m true) n (tick_opening (sender_in st (Opening x)) x)
  unfolding tick_opening
  tick_opening_lem x k =
      let P = Ticks st (λ k. Moving m k true) (Adds m true) n in
      let s = sender_in st (Opening x) in
      let t = x.transfer in
      over_elim P s t _ over
      (λ early. timeout_elim P s t x.wait x.misses over
      (λ few. adds (in_time_lem t k early) (opening (older_counted t k)) (announcement (announces (ap₂ announcement_of k.many k.long))))
      (λ soon. waits (in_time_lem t k early) (opening (older t k))))

  -- the window's next frame has gone out
  after_frame_lem : (x : Streamed) → Keeps m x.transfer n → 1 ≤ x.next → x.next ≤ x.last → x.last ≤ frames_of m
      → Moving m (n + 1) false (after_frame x)
  unfolding after_frame
  after_frame_lem x k low mid high =
      pick_elim (Moving m (n + 1) false) _ (λ end. waiting (older_counted x.transfer k) (omega arith) high)
      (λ inside.
      let h = leb-false x.last x.next inside in
      sending (older_counted x.transfer k) (omega arith) (omega arith) high)

  tick_sending_lem : (x : Streamed) → Keeps m x.transfer n → 1 ≤ x.next → x.next ≤ x.last → x.last ≤ frames_of m
      → Ticks st (λ k. Moving m k false) (Adds m false) n (tick_sending (sender_in st (Sending x)) x m)
  unfolding tick_sending
  tick_sending_lem x k low mid high =
      let P = Ticks st (λ k. Moving m k false) (Adds m false) n in
      let t = x.transfer in
      over_elim P (sender_in st (Sending x)) t _ over
      (λ early. limit_elim P st.gap x.gap
      (adds (in_time_lem t k early) (after_frame_lem x k low mid high) (information (carries x.next low (omega arith))))
      (λ soon. waits (in_time_lem t k early) (sending (older t k) low mid high)))

  tick_waiting_lem : (x : Awaited) → Keeps m x.transfer n → 1 ≤ x.last → x.last ≤ frames_of m
      → Ticks st (λ k. Moving m k false) (Adds m false) n (tick_waiting (sender_in st (Waiting x)) x m)
  unfolding tick_waiting
  tick_waiting_lem x k low high =
      let P = Ticks st (λ k. Moving m k false) (Adds m false) n in
      let s = sender_in st (Waiting x) in
      let t = x.transfer in
      over_elim P s t _ over
      (λ early. timeout_elim P s t x.wait x.misses over
      (λ few. adds (in_time_lem t k early) (waiting (older_counted t k) low high) (information (carries x.last low high)))
      (λ soon. waits (in_time_lem t k early) (waiting (older t k) low high)))

  pub long_tick : {is_opening : Bool} {p : Phase} → Moving m n is_opening p → (l : List ℕ)
      → (taken (tick_of (sender_in st p) l).outcome ≡ true → l ≡ m)
      → Ticks st (λ k. Moving m k is_opening) (Adds m is_opening) n (tick_of (sender_in st p) l)
  unfolding tick_phase
  long_tick (opening {x} k) l c = lent (Opening x) l (opening k) (tick_opening_lem x k) c
  long_tick (sending {x} k low mid high) l c =
      lent (Sending x) l (sending k low mid high) (tick_sending_lem x k low mid high) c
  long_tick (waiting {x} k low high) l c = lent (Waiting x) l (waiting k low high) (tick_waiting_lem x k low high) c

  -- ---- a short transfer

  tick_single : (x : Single) → x.transfer.length ≡ length m → x.transfer.age ≡ n
      → Ticks st (Lone m) (Repeats m) n (tick_short (sender_in st (Short x)) x m)
  unfolding tick_short
  tick_single x whole old =
      let P = Ticks st (Lone m) (Repeats m) n in
      let older : increment_of x.transfer.age ≡ n + 1 = ap increment_of old ∙ increment_is n (omega arith) in
      over_elim P (sender_in st (Short x)) x.transfer _ over
      (λ early.
      let time : n + 1 < st.limit = omega arith in
      limit_elim P st.timeout x.wait (adds time (lone whole older) repeats) (λ soon. waits time (lone whole older)))

  pub short_tick : {p : Phase} → Lone m n p → (l : List ℕ)
      → (taken (tick_of (sender_in st p) l).outcome ≡ true → l ≡ m)
      → Ticks st (Lone m) (Repeats m) n (tick_of (sender_in st p) l)
  unfolding tick_phase
  short_tick (lone {x} whole old) l c = lent (Short x) l (lone whole old) (tick_single x whole old) c

-- ---- hearing

-- what the sender does at each frame that a receiver emits
hears_ack : (s : Sender) (start count : ℕ) → hear_of s (lm_ack_of start count) ≡ hear_ack s s.phase start count
unfolding hear_of hear_read hear_kind read_of named_of all_filler pick lm_ack_of
hears_ack s start count = refl

hears_nack : (s : Sender) (cause : ℕ) → hear_of s (lm_nack_of cause) ≡ hear_nack s s.phase
unfolding hear_of hear_read hear_kind read_of named_of all_filler pick lm_nack_of
hears_nack s cause = refl

hears_end : (s : Sender) (frames length : ℕ)
    → hear_of s (end_of_ack_of frames length) ≡ hear_end s s.phase frames (word_at (end_of_ack_of frames length) 1 2)
unfolding hear_of hear_read hear_kind read_of named_of all_filler pick end_of_ack_of
hears_end s frames length = refl

hears_short : (s : Sender) (first : ℕ) → hear_of s (sm_ack_of first) ≡ hear_short_ack s s.phase first
unfolding hear_of hear_read hear_kind read_of named_of all_filler pick sm_ack_of
hears_short s first = refl

-- What a hearing tells of a transfer: a failure; a phase of which S holds; or sent, where Z allows it.
pub data Hears (st : Settings) (S : Phase → Type 0) (Z : Type 0) : Told → Type 0 where
  over : {emits : Bool} {f : Frame} {cause ticks frames : ℕ}
      → Hears st S Z (record { next = sender_in st Idle; emits = emits; frame = f; outcome = failed cause ticks frames })
  stays : {p : Phase} {f : Frame}
      → S p
      → Hears st S Z (record { next = sender_in st p; emits = false; frame = f; outcome = quiet })
  finishes : {f : Frame} {ticks frames : ℕ}
      → Z
      → Hears st S Z (record { next = sender_in st Idle; emits = false; frame = f; outcome = sent ticks frames })

-- after an LM_ACK the phase is what it was, or a window has been taken up
pub data Acked (m : List ℕ) (n : ℕ) (is_opening : Bool) (p : Phase) : Type 0 where
  same : Moving m n is_opening p → Acked m n is_opening p
  windowed : Moving m n false p → Acked m n is_opening p

module _ (st : Settings) (m : List ℕ) (n : ℕ) where
  -- the window that an LM_ACK grants lies within 1 to N
  takes_window : {is_opening : Bool} (p : Phase) (t : Transfer) (start count misses : ℕ)
      → Keeps m t n
      → 1 ≤ start
      → 1 ≤ count
      → start ≤ t.frames
      → Hears st (Acked m n is_opening) ⊥ (taking (sender_in st p) t start count misses)
  unfolding taking
  takes_window p t start count misses k low some inside =
      let g = k.many in
      let mid : start ≤ window_last start count t.frames = omega arith in
      let high : window_last start count t.frames ≤ frames_of m = omega arith in
      stays (windowed (sending k low mid high))

  window_ack_lem : (p : Phase) → Moving m n false p → (t : Transfer) (start misses s c : ℕ) → Keeps m t n
      → Hears st (Acked m n false) ⊥ (ack_window (sender_in st p) t start misses s c)
  unfolding ack_window ack_below taking_hold
  window_ack_lem p v t start misses s c k =
      let P = Hears st (Acked m n false) ⊥ in
      bad_elim P (sender_in st p) t s c (stays (same v)) over
      (λ low some inside. pick_elim P _
      (λ below. pick_elim P _
      (λ held.
      let g = k.many in
      let high : s ≤ frames_of m = omega arith in
      stays (windowed (sending k low (le_refl s) high)))
      (λ old. stays (same v)))
      (λ new. takes_window p t s c _ k low some inside))

  pub long_ack : {is_opening : Bool} {p : Phase} → Moving m n is_opening p → (start count : ℕ)
      → Hears st (Acked m n is_opening) ⊥ (hear_of (sender_in st p) (lm_ack_of start count))
  unfolding hear_ack ack_opening
  long_ack (opening {x} k) start count =
      let P = Hears st (Acked m n true) ⊥ in
      let v = same (opening k) in
      rw hears_ack
      (bad_elim P (sender_in st (Opening x)) x.transfer start count (stays v) over
      (λ low some inside.
      pick_elim P _ (λ first. takes_window (Opening x) x.transfer start count 0 k low some inside) (λ later. stays v)))
  long_ack (sending {x} k low mid high) start count =
      rw hears_ack (window_ack_lem (Sending x) (sending k low mid high) x.transfer x.start x.misses start count k)
  long_ack (waiting {x} k low high) start count =
      rw hears_ack (window_ack_lem (Waiting x) (waiting k low high) x.transfer x.start x.misses start count k)

  -- an LM_ACK of a later window: an Opening sender stays
  pub opening_ack : {p : Phase} → Moving m n true p → (start count : ℕ) → (start ≡ 1 → ⊥)
      → Hears st (Moving m n true) ⊥ (hear_of (sender_in st p) (lm_ack_of start count))
  unfolding hear_ack ack_opening
  opening_ack (opening {x} k) start count later =
      let P = Hears st (Moving m n true) ⊥ in
      rw hears_ack
      (bad_elim P (sender_in st (Opening x)) x.transfer start count (stays (opening k)) over
      (λ low some inside. pick_elim P _ (λ first. absurd (later (eqb-true _ _ first))) (λ other. stays (opening k))))

  -- LM_NACK: failed
  pub long_nack : {is_opening : Bool} {p : Phase} → Moving m n is_opening p → (cause : ℕ)
      → Hears st (λ _. ⊥) ⊥ (hear_of (sender_in st p) (lm_nack_of cause))
  unfolding hear_nack
  long_nack (opening k) cause = rw hears_nack over
  long_nack (sending k low mid high) cause = rw hears_nack over
  long_nack (waiting k low high) cause = rw hears_nack over

  -- EndofACK: sent, or ignored
  end_heard : {p : Phase} → Moving m n false p → (frames length : ℕ)
      → Hears st (Moving m n false) Unit (hear_of (sender_in st p) (end_of_ack_of frames length))
  unfolding hear_end if_whole
  end_heard (sending k low mid high) frames length =
      rw hears_end (pick_elim (Hears st (Moving m n false) Unit) _ (λ _. finishes tt) (λ _. stays (sending k low mid high)))
  end_heard (waiting k low high) frames length =
      rw hears_end (pick_elim (Hears st (Moving m n false) Unit) _ (λ _. finishes tt) (λ _. stays (waiting k low high)))

  pub long_end : {p : Phase} {f : Frame} → Moving m n false p → (frames length : ℕ) → f ≡ end_of_ack_of frames length
      → Hears st (Moving m n false) Unit (hear_of (sender_in st p) f)
  long_end {p} v frames length e =
      subst⁻¹ (λ (g : Frame). Hears st (Moving m n false) Unit (hear_of (sender_in st p) g)) e (end_heard v frames length)

  -- EndofACK of another N or L: ignored
  pub other_end : {p : Phase} → Moving m n false p → (frames l : ℕ) → Other m frames l → l ≤ 1785
      → Hears st (Moving m n false) ⊥ (hear_of (sender_in st p) (end_of_ack_of frames l))
  unfolding hear_end if_whole end_of_ack_of
  other_end v frames l other small = rw hears_end (go v)
    where
      word : word_at (end_of_ack_of frames l) 1 2 ≡ l
      word = word_whole l (omega arith)

      never : (t : Transfer) → Keeps m t n → is_whole t frames (word_at (end_of_ack_of frames l) 1 2) ≡ true → ⊥
      never t k agrees =
          other (eqb-true _ _ (both_left _ _ agrees) ∙ k.many)
          (sym word ∙ eqb-true _ _ (both_right (eqb frames t.frames) _ agrees) ∙ k.long)

      go : {p : Phase} → Moving m n false p → Hears st (Moving m n false) ⊥ (hear_end (sender_in st p) p frames (word_at (end_of_ack_of frames l) 1 2))
      go (sending {x} k low mid high) =
          pick_elim (Hears st (Moving m n false) ⊥) _ (λ agrees. absurd (never x.transfer k agrees)) (λ _. stays (sending k low mid high))
      go (waiting {x} k low high) =
          pick_elim (Hears st (Moving m n false) ⊥) _ (λ agrees. absurd (never x.transfer k agrees)) (λ _. stays (waiting k low high))

  -- LM_ACK and LM_NACK in a short transfer: ignored
  pub short_reply : {p : Phase} {f : Frame} → Lone m n p → Replies f → Hears st (Lone m n) ⊥ (hear_of (sender_in st p) f)
  unfolding hear_ack hear_nack
  short_reply (lone whole old) (stages.grants start count) = rw hears_ack (stays (lone whole old))
  short_reply (lone whole old) (stages.Replies.refuses cause) = rw hears_nack (stays (lone whole old))

  -- SM_ACK: sent, or ignored
  pub short_end : {p : Phase} → Lone m n p → (first : ℕ) → Hears st (Lone m n) Unit (hear_of (sender_in st p) (sm_ack_of first))
  unfolding hear_short_ack if_first
  short_end (lone whole old) first =
      rw hears_short (pick_elim (Hears st (Lone m n) Unit) _ (λ _. finishes tt) (λ _. stays (lone whole old)))

-- ---- an Idle sender reports nothing

pub data Rests (st : Settings) : Told → Type 0 where
  ignores : {f : Frame} → Rests st (record { next = sender_in st Idle; emits = false; frame = f; outcome = quiet })
  refuses : {f : Frame} {number : ℕ} → Rests st (record { next = sender_in st Idle; emits = false; frame = f; outcome = refused number })

pub idle_tick : (st : Settings) (l : List ℕ) → Rests st (tick_of (sender_in st Idle) l)
unfolding tick_phase
idle_tick st l = tick_elim (Rests st) (sender_in st Idle) l refuses ignores

pub idle_hear : (st : Settings) (f : Frame) → Rests st (hear_of (sender_in st Idle) f)
unfolding hear_ack hear_nack hear_end hear_short_ack
idle_hear st f = hear_elim (Rests st) (sender_in st Idle) f (λ _. refuses) (λ _. ignores) ignores ignores ignores
