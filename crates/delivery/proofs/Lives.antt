-- What each call does to the world beside what has been seen since the last accepted begin.
use Prim.Native.Nat.{ℕ, ◌≤◌, ◌<◌}
use mathlib.Core.Bool.{Bool, true, false}
use mathlib.Core.List.{List, [], ◌∷◌, ◌++◌, append-nil}
use mathlib.Core.Path.{◌≡◌, refl, subst, ◌∙◌}
use native.Mathlib.Nat.{add-zero}
use native.Mathlib.Omega.{arith}
use borrow.Author.Tests.{leb-true, leb-false, eqb-true, eqb-false}
use lib.Dec.{eqb, leb}
use lib.ListN.{length}
use Rattle.frame.specs.Frames.{fill_to, sm_rm_of}
use Rattle.frame.specs.declared.Frame.{Frame}
use Rattle.receiver.specs.Hear as receiver-hear
use Rattle.receiver.specs.Tick as receiver-tick
use Rattle.receiver.specs.Told as receiver
use Rattle.receiver.specs.Told.{Heard, heard}
use Rattle.receiver.specs.declared.Phase as receiver-phase
use Rattle.receiver.specs.declared.Phase.TheVariants as at
use Rattle.receiver.specs.declared.Receiver.{Receiver}
use Rattle.receiver.specs.declared.Settings as receiver-settings
use Rattle.sender.specs.Begin.{begin_of, begin_phase, begin_idle, begin_long, begin_short}
use Rattle.sender.specs.Hear.{hear_of}
use Rattle.sender.specs.Tick.{tick_of}
use Rattle.sender.specs.Told.{Told}
use Rattle.sender.specs.declared.Phase.{Phase}
use Rattle.sender.specs.declared.Phase.TheVariants.{Idle}
use Rattle.sender.specs.declared.Sender.{Sender}
use Rattle.sender.specs.declared.Settings.{Settings}
use Rattle.frame.proofs.Choice.{pick_elim}
use Rattle.frame.proofs.Choice.{both_right}
use Rattle.delivery.proofs.Lines.{Line, none, more, joins, widens, behind, none_late, joins_late}
use Rattle.delivery.proofs.Moves.{Fits, Took, left_line, stage_tick, stage_pause, stage_hear, stage_leaving, stage_back}
use Rattle.transport.proofs.Refusals.{Unrefused}
use Rattle.delivery.proofs.Sends.{Ticks, over, kept, waits, adds, long_tick, short_tick, Hears, stays, finishes, Acked, same, windowed, long_ack, long_nack, long_end, short_end, opening_ack, other_end, short_reply, Rests, ignores, refuses, idle_tick, idle_hear}
use Rattle.delivery.proofs.Stages as stages
use Rattle.delivery.proofs.Stages.{sender_in, frames_of, Announces, announces, Adds, announcement, information, Replies, Moving, stray, opened, Stage, early, fresh, asked, going, there, lost, Lone, lone, Echoes, echoes, Repeats, repeats, Live, resting, long, short}
use Rattle.receiver.proofs.View as view
use Rattle.receiver.proofs.View.{receiver_in}
use Rattle.delivery.specs.Demand3.{Copies, Exactly, HadReport, SentMeans, LentMessage, AgainAfter}
use Rattle.delivery.specs.Seen.{taken, one, sender_reports, deliveries_by, Begun, never, since, further, begun_by, begins}
use Rattle.transport.specs.Step.{emission, was_refused, buffer_after, Rest, gone, leaving, dropped}

-- a begin that has had its report keeps it while no other comes
had_further : (b : Begun) (ticks : ℕ) (ds : List (List ℕ)) → HadReport b → HadReport (further b ticks 0 ds)
had_further never ticks ds h = tt
had_further (since m n reports deliveries) ticks ds h = add-zero reports ∙ h

-- ---- the sender's calls

-- the world after a call of the sender that told a; the call counts for k ticks if it was taken
pub record Acted (Lax : Type 0) (st : Settings) (r : Receiver) (forward back : List Frame) (buffer : List ℕ) (b : Begun) (k : Bool → ℕ)
    (a : Told) : Type 0 where
  pub live :
      Live Lax st a.next r (forward ++ emission a.emits a.frame) back buffer
      (further b (k (taken a.outcome)) (sender_reports a.outcome) [])
  pub sent : SentMeans a.outcome (further b (k (taken a.outcome)) (sender_reports a.outcome) [])

rests : {Lax : Type 0} {st : Settings} {r : Receiver} {forward back : List Frame} {buffer : List ℕ} {b : Begun} {k : Bool → ℕ} {a : Told}
    → HadReport b → Rests st a → Acted Lax st r forward back buffer b k a
rests {b = b} {k = k} h ignores = record { live = resting (had_further b (k true) [] h); sent = tt }
rests {b = b} {k = k} h refuses = record { live = resting (had_further b (k false) [] h); sent = tt }

-- a frame of the transfer joins forward
stage_adds : {Lax : Type 0} {m : List ℕ} {is_opening : Bool} {q : receiver-phase.Phase} {forward back : List Frame} {buffer : List ℕ}
    {ds : List (List ℕ)} {f : Frame}
    → Stage Lax m is_opening q forward back buffer ds → Adds m is_opening f
    → Stage Lax m is_opening q (forward ++ f ∷ []) back buffer ds
stage_adds (early lax past l b) (announcement a) = early lax past (joins l a) b
stage_adds (fresh shut l b) (announcement a) = fresh shut (joins l a) b
stage_adds (asked h l b) (announcement a) = asked h (joins l a) b
stage_adds (going h l b) (information a) = going h (joins_late l a) b
stage_adds (there l b) (information a) = there (joins l a) b
stage_adds (lost other small l b) (information a) = lost other small (joins l a) b

module _ {st : Settings} {r : Receiver} {forward back : List Frame} {buffer : List ℕ} {m : List ℕ} {n : ℕ}
    {ds : List (List ℕ)} where
  long_ticked : {Lax : Type 0} {is_opening : Bool} {a : Told} → Fits m → n < st.limit → Stage Lax m is_opening r.phase forward back buffer ds
      → Ticks st (λ k. Moving m k is_opening) (Adds m is_opening) n a
      → Acted Lax st r forward back buffer (since m n 0 ds) one a
  long_ticked w young s over = record { live = resting refl; sent = tt }
  long_ticked w young s (kept v) =
      record { live = rw (append-nil, add-zero n) (long w.long w.fits young v s); sent = tt }
  long_ticked w young s (waits time v) = record { live = rw append-nil (long w.long w.fits time v s); sent = tt }
  long_ticked w young s (adds time v a) = record { live = long w.long w.fits time v (stage_adds s a); sent = tt }

  short_ticked : {Lax : Type 0} {a : Told} → length m ≤ 8 → n < st.limit → Line (Repeats m) forward → Line (Echoes ds) back
      → Copies (fill_to 8 m) ds
      → Ticks st (Lone m) (Repeats m) n a
      → Acted Lax st r forward back buffer (since m n 0 ds) one a
  short_ticked w young l e c over = record { live = resting refl; sent = tt }
  short_ticked w young l e c (kept v) = record { live = rw (append-nil, add-zero n) (short w young v l e c); sent = tt }
  short_ticked w young l e c (waits time v) = record { live = rw append-nil (short w time v l e c); sent = tt }
  short_ticked w young l e c (adds time v a) = record { live = short w time v (joins l a) e c; sent = tt }

pub tick_live : {Lax : Type 0} {st : Settings} {s : Sender} {r : Receiver} {forward back : List Frame} {buffer : List ℕ} {b : Begun}
    → st.limit ≤ 60000
    → Live Lax st s r forward back buffer b
    → (l : List ℕ)
    → (taken (tick_of s l).outcome ≡ true → LentMessage b l)
    → Acted Lax st r forward back buffer b one (tick_of s l)
tick_live {st} small (resting h) l c = rests h (idle_tick st l)
tick_live {st} small (long {m} {n} wide fits young v s) l c =
    long_ticked (record { long = wide; fits = fits }) young s (long_tick st small m n young v l (λ t. c t refl))
tick_live {st} small (short {m} {n} w young v f e k) l c =
    short_ticked w young f e k (short_tick st small m n young v l (λ t. c t refl))

-- ---- hearing at the sender

-- a short message's deliveries, where an acknowledgement is on the line
echoed : {m : List ℕ} {ds : List (List ℕ)} → length m ≤ 8 → 1 ≤ length ds → Copies (fill_to 8 m) ds → Exactly m ds
echoed w some c = record { long = λ wide. absurd (omega arith); short = λ _. (some, c) }

whole : {m : List ℕ} → 8 < length m → Exactly m (m ∷ [])
whole wide = record { long = λ _. refl; short = λ narrow. absurd (omega arith) }

-- one more delivery
echo_more : {ds : List (List ℕ)} (d : List ℕ) (f : Frame) → Echoes ds f → Echoes (d ∷ ds) f
echo_more d f (echoes first some) = echoes first (omega arith)
echo_more d f (stages.Echoes.replies r) = stages.Echoes.replies r

abbrev none_counted : Bool → ℕ
none_counted t = 0

module _ {st : Settings} {r : Receiver} {forward back : List Frame} {buffer : List ℕ} {m : List ℕ} {n : ℕ}
    {ds : List (List ℕ)} where
  -- the transfer fails, goes on in a phase that fits, or is finished
  heard_on : {Lax : Type 0} {S : Phase → Type 0} {Z : Type 0} {a : Told}
      → ((p : Phase) → S p → Live Lax st (sender_in st p) r forward back buffer (since m n 0 ds))
      → (Z → Exactly m ds)
      → Hears st S Z a
      → Acted Lax st r forward back buffer (since m n 0 ds) none_counted a
  heard_on k z over = record { live = resting refl; sent = tt }
  heard_on k z (stays {p = p} v) = record { live = rw (append-nil, add-zero n) (k p v); sent = tt }
  heard_on k z (finishes e) = record { live = resting refl; sent = z e }

module _ {st : Settings} (rs : receiver-settings.Settings) {m : List ℕ} {n : ℕ} (w : Fits m) (young : n < st.limit) where
  -- the transfer goes on in the same stage, or in one that a window's taking leads to
  goes_on : {Lax : Type 0} {is_opening : Bool} {q : receiver-phase.Phase} {forward back : List Frame} {buffer : List ℕ} {ds : List (List ℕ)}
      → Stage Lax m is_opening q forward back buffer ds
      → (p : Phase)
      → Moving m n is_opening p
      → Live Lax st (sender_in st p) (receiver_in rs q) forward back buffer (since m n 0 ds)
  goes_on s p v = long w.long w.fits young v s

  -- an LM_ACK is taken up, once the receiver has opened
  acked : {Lax : Type 0} {is_opening : Bool} {q : receiver-phase.Phase} {forward back : List Frame} {buffer : List ℕ} {ds : List (List ℕ)}
      → Stage Lax m is_opening q forward back buffer ds
      → Stage Lax m false q forward back buffer ds
      → (p : Phase)
      → Acked m n is_opening p
      → Live Lax st (sender_in st p) (receiver_in rs q) forward back buffer (since m n 0 ds)
  acked s t p (same v) = goes_on s p v
  acked s t p (windowed v) = goes_on t p v

  long_replied : {Lax : Type 0} {is_opening : Bool} {p : Phase} {q : receiver-phase.Phase} {forward back : List Frame} {buffer : List ℕ}
      {ds : List (List ℕ)} {f : Frame}
      → Moving m n is_opening p
      → Stage Lax m is_opening q forward back buffer ds
      → Stage Lax m false q forward back buffer ds
      → Replies f
      → Acted Lax st (receiver_in rs q) forward back buffer (since m n 0 ds) none_counted (hear_of (sender_in st p) f)
  long_replied v s t (stages.grants start count) = heard_on (acked s t) (λ z. absurd z) (long_ack st m n v start count)
  long_replied v s t (stages.Replies.refuses cause) = heard_on (λ p z. absurd z) (λ z. absurd z) (long_nack st m n v cause)

  long_hear : {Lax : Type 0} {is_opening : Bool} {p : Phase} {q : receiver-phase.Phase} {forward rest : List Frame} {buffer : List ℕ}
      {ds : List (List ℕ)} {f : Frame} (k : Rest)
      → Moving m n is_opening p
      → Stage Lax m is_opening q forward (f ∷ rest) buffer ds
      → Acted Lax st (receiver_in rs q) forward (leaving k f rest) buffer (since m n 0 ds) none_counted (hear_of (sender_in st p) f)
  long_hear k v (early lax past l (more (stages.Declines.refuses cause) b)) =
      heard_on (λ p z. absurd z) (λ z. absurd z) (long_nack st m n v cause)
  long_hear k v (early lax past l (more (stages.later start count other) b)) =
      let s = early lax past l (left_line k (more (stages.later start count other) b)) in
      heard_on (goes_on s) (λ z. absurd z) (opening_ack st m n v start count other)
  long_hear k v (fresh shut l (more (stages.Declines.refuses cause) b)) =
      heard_on (λ p z. absurd z) (λ z. absurd z) (long_nack st m n v cause)
  long_hear k v (fresh shut l (more (stages.later start count other) b)) =
      let s = fresh shut l (left_line k (more (stages.later start count other) b)) in
      heard_on (goes_on s) (λ z. absurd z) (opening_ack st m n v start count other)
  long_hear k v (asked h l (more x b)) =
      let back = left_line k (more x b) in
      long_replied v (asked h l back) (going h (none_late l) back) x
  long_hear k v (going h l (more x b)) =
      let s = going h l (left_line k (more x b)) in
      long_replied v s s x
  long_hear k v (lost other small l (more (stages.Strays.replies x) b)) =
      let s = lost other small l (left_line k (more (stages.Strays.replies x) b)) in
      long_replied v s s x
  long_hear k v (lost other small l (more (stages.Strays.ends frames length not-m few) b)) =
      let s = lost other small l (left_line k (more (stages.Strays.ends frames length not-m few) b)) in
      heard_on (goes_on s) (λ z. absurd z) (other_end st m n v frames length not-m few)
  long_hear k v (there l (more (stages.Closes.replies x) b)) =
      let s = there l (left_line k (more (stages.Closes.replies x) b)) in
      long_replied v s s x
  long_hear k v (there l (more (stages.Closes.ends e) b)) =
      let s = there l (left_line k (more (stages.Closes.ends e) b)) in
      heard_on (goes_on s) (λ _. whole w.long) (long_end st m n v (frames_of m) (length m) e)

pub hear_live : {Lax : Type 0} {st : Settings} {s : Sender} {r : Receiver} {forward rest : List Frame} {buffer : List ℕ} {b : Begun}
    {f : Frame} (k : Rest)
    → Live Lax st s r forward (f ∷ rest) buffer b
    → Acted Lax st r forward (leaving k f rest) buffer b none_counted (hear_of s f)
hear_live {st} {f = f} k (resting h) = rests h (idle_hear st f)
hear_live k (long {r = r} wide fits young v s) = long_hear r.settings (record { long = wide; fits = fits }) young k v s
hear_live {st} k (short {m} {n} {r = r} w young v l (more (echoes first some) e) c) =
    heard_on (λ p u. short w young u l (left_line k (more (echoes first some) e)) c) (λ _. echoed w some c)
    (short_end st m n v first)
hear_live {st} k (short {m} {n} {r = r} w young v l (more (stages.Echoes.replies x) e) c) =
    heard_on (λ p u. short w young u l (left_line k (more (stages.Echoes.replies x) e)) c) (λ z. absurd z)
    (short_reply st m n v x)

-- ---- begin

-- the world after a begin of l that told a
pub record Began (Lax : Type 0) (st : Settings) (r : Receiver) (forward back : List Frame) (buffer : List ℕ) (b : Begun) (l : List ℕ)
    (a : Told) : Type 0 where
  pub live :
      Live Lax st a.next r (forward ++ emission a.emits a.frame) back buffer
      (begun_by (begins l) (taken a.outcome) (further b 0 (sender_reports a.outcome) []))
  pub sent : (c : Begun) → SentMeans a.outcome c
  pub again : AgainAfter (begins l) (taken a.outcome) b

-- the receiver is shut, or, where that is allowed, at a frame of an earlier transfer that is not held
abbrev pub Stands : Type 0 → receiver-phase.Phase → Type 0
Stands Lax at.Idle = Unit
Stands Lax (at.Done y) = Unit
Stands Lax (at.Open x) =
    Lax × (x.held ≡ false) × ((1 ≤ x.expected) × (x.expected ≤ x.frames) × (x.length ≤ 1785))

-- the stage that a begin starts in
starts : {Lax : Type 0} (m : List ℕ) {forward : List Frame} {buffer : List ℕ} (q : receiver-phase.Phase) → Stands Lax q
    → Line (Announces m) forward
    → Stage Lax m true q forward [] buffer []
starts m at.Idle s l = fresh tt l none
starts m (at.Done y) s l = fresh tt l none
starts {Lax} m {forward} {buffer} (at.Open x) s l =
    go (eqb x.expected 1) refl (eqb x.frames (frames_of m)) refl (eqb x.length (length m)) refl
  where
    go : (first : Bool) → eqb x.expected 1 ≡ first → (many : Bool) → eqb x.frames (frames_of m) ≡ many → (exact : Bool)
        → eqb x.length (length m) ≡ exact
        → Stage Lax m true (at.Open x) forward [] buffer []
    go false e many d exact c =
        let low = s.2.0 in
        let other : x.expected ≡ 1 → ⊥ = eqb-false x.expected 1 e in
        let more : 1 < x.expected = omega (arith, other) in
        early {p = at.Open x} s.0 (more, s.1) l none
    go true e false d exact c = asked (stray (λ f. absurd (eqb-false _ _ d f)) s.2.2) l none
    go true e true d false c = asked (stray (λ f g. absurd (eqb-false _ _ c g)) s.2.2) l none
    go true e true d true c =
        let one = eqb-true x.expected 1 e in
        let as_many = eqb-true x.frames (frames_of m) d in
        let in_range = s.2.1 in
        asked (opened {buffer = buffer} as_many (eqb-true _ _ c) s.2.0 (omega arith) (rw one refl)) l none

-- what an accepted begin finds
pub record Found (Lax : Type 0) (r : Receiver) (forward back : List Frame) : Type 0 where
  pub stands : Stands Lax r.phase
  pub clear : forward ≡ []
  pub clear_back : back ≡ []

module _ (st : Settings) (r : Receiver) (forward back : List Frame) (buffer : List ℕ) where
  -- a sender that is not Idle refuses, and nothing changes
  begin_long_lem : {Lax : Type 0} {m : List ℕ} {n : ℕ} {is_opening : Bool} {p : Phase} {ds : List (List ℕ)} (l : List ℕ) → Moving m n is_opening p
      → Live Lax st (sender_in st p) r forward back buffer (since m n 0 ds)
      → Began Lax st r forward back buffer (since m n 0 ds) l (begin_of (sender_in st p) l)
  unfolding begin_of begin_phase
  begin_long_lem {n = n} l (stages.opening k) live =
      record { live = rw (append-nil, add-zero n) live; sent = λ c. tt; again = tt }
  begin_long_lem {n = n} l (stages.sending k low mid high) live =
      record { live = rw (append-nil, add-zero n) live; sent = λ c. tt; again = tt }
  begin_long_lem {n = n} l (stages.waiting k low high) live =
      record { live = rw (append-nil, add-zero n) live; sent = λ c. tt; again = tt }

  begin_short_lem : {Lax : Type 0} {m : List ℕ} {n : ℕ} {p : Phase} {ds : List (List ℕ)} (l : List ℕ) → Lone m n p
      → Live Lax st (sender_in st p) r forward back buffer (since m n 0 ds)
      → Began Lax st r forward back buffer (since m n 0 ds) l (begin_of (sender_in st p) l)
  unfolding begin_of begin_phase
  begin_short_lem {n = n} l (lone whole old) live =
      record { live = rw (append-nil, add-zero n) live; sent = λ c. tt; again = tt }

  begins_short : {Lax : Type 0} (b : Begun) (l : List ℕ) → HadReport b → 1 ≤ st.limit → length l ≤ 8 → Found Lax r forward back
      → Began Lax st r forward back buffer b l (begin_short (sender_in st Idle) l)
  unfolding begin_short
  begins_short b l h some narrow found =
      record {
        live = rw (found.clear, found.clear_back) (short narrow some (lone refl refl) (more repeats none) none tt);
        sent = λ c. tt;
        again = h;
      }

  begins_long : {Lax : Type 0} (b : Begun) (l : List ℕ) → HadReport b → 1 ≤ st.limit → 8 < length l → length l ≤ 1785
      → Found Lax r forward back
      → Began Lax st r forward back buffer b l (begin_long (sender_in st Idle) l)
  unfolding begin_long
  begins_long b l h some wide fits found =
      record {
        live =
            rw (found.clear, found.clear_back)
            (long wide fits some (stages.opening (record { long = refl; many = refl; old = refl }))
            (starts l r.phase found.stands (more (announces refl) none)));
        sent = λ c. tt;
        again = h;
      }

  -- an Idle sender begins, or refuses the length
  begin_idle_lem : {Lax : Type 0} (b : Begun) (l : List ℕ) → HadReport b → 1 ≤ st.limit
      → (taken (begin_of (sender_in st Idle) l).outcome ≡ true → Found Lax r forward back)
      → Began Lax st r forward back buffer b l (begin_of (sender_in st Idle) l)
  unfolding begin_of begin_phase begin_idle begin_short begin_long
  begin_idle_lem {Lax} b l h some =
      let P : Told → Type 0
      = λ a. (taken a.outcome ≡ true → Found Lax r forward back) → Began Lax st r forward back buffer b l a in
      pick_elim P _
      (λ inside. pick_elim P _
      (λ narrow. λ found. begins_short b l h some (leb-true (length l) 8 narrow) (found refl))
      (λ wide. λ found. begins_long b l h some (leb-false (length l) 8 wide)
      (leb-true (length l) 1785 (both_right (leb 1 (length l)) (leb (length l) 1785) inside))
      (found refl)))
      (λ outside. λ found. record { live = resting (had_further b 0 [] h); sent = λ c. tt; again = tt })

pub begin_live : {Lax : Type 0} {st : Settings} {s : Sender} {r : Receiver} {forward back : List Frame} {buffer : List ℕ} {b : Begun}
    → 1 ≤ st.limit
    → Live Lax st s r forward back buffer b
    → (l : List ℕ)
    → (taken (begin_of s l).outcome ≡ true → Found Lax r forward back)
    → Began Lax st r forward back buffer b l (begin_of s l)
begin_live {st} {r = r} {forward} {back} {buffer} {b} some (resting h) l c = begin_idle_lem st r forward back buffer b l h some c
begin_live {st} {r = r} {forward} {back} {buffer} some (long wide fits young v s) l c =
    begin_long_lem st r forward back buffer l v (long wide fits young v s)
begin_live {st} {r = r} {forward} {back} {buffer} some (short w young v f e k) l c =
    begin_short_lem st r forward back buffer l v (short w young v f e k)

-- ---- the receiver's calls

-- the world after a call of the receiver that told h; forward is as the call left it
pub record Received (Lax : Type 0) (st : Settings) (s : Sender) (forward back : List Frame) (buffer : List ℕ) (b : Begun)
    (h : Heard) : Type 0 where
  pub live :
      Live Lax st s h.told.next forward (back ++ emission h.told.emits h.told.frame)
      (buffer_after (was_refused h.told.outcome) buffer h.buffer)
      (further b 0 0 (deliveries_by h.told.outcome h.told.bytes h.buffer))

long_took : {Lax : Type 0} {st : Settings} {m : List ℕ} {n : ℕ} {is_opening : Bool} {p : Phase} {forward back : List Frame} {buffer : List ℕ}
    {ds : List (List ℕ)} {h : Heard}
    → Fits m → n < st.limit → Moving m n is_opening p
    → Took Lax m is_opening forward back buffer ds h
    → Received Lax st (sender_in st p) forward back buffer (since m n 0 ds) h
long_took {n = n} w young v t = record { live = rw (add-zero n) (long w.long w.fits young v t.stage) }

module _ {st : Settings} {m : List ℕ} {n : ℕ} {p : Phase} {forward back : List Frame} {buffer : List ℕ} {ds : List (List ℕ)}
    (narrow : length m ≤ 8) (young : n < st.limit) (v : Lone m n p) (e : Line (Echoes ds) back)
    (c : Copies (fill_to 8 m) ds) where
  -- a tick of the receiver is none of the transfer's
  short_rests : {Lax : Type 0} {rs : receiver-settings.Settings} {q : receiver-phase.Phase} {t : receiver.Told} → Line (Repeats m) forward
      → view.Ticks rs q t
      → Received Lax st (sender_in st p) forward back buffer (since m n 0 ds) (heard t buffer)
  short_rests l (view.rests _) = record { live = rw (append-nil, add-zero n) (short narrow young v l e c) }
  short_rests l (view.waits _) = record { live = rw (append-nil, add-zero n) (short narrow young v l e c) }
  short_rests l (view.retries _ _ _) =
      record { live = rw (add-zero n) (short narrow young v l (joins e (stages.Echoes.replies (stages.grants _ _))) c) }
  short_rests l (view.repeats _ _ _) =
      record { live = rw (add-zero n) (short narrow young v l (joins e (stages.Echoes.replies (stages.grants _ _))) c) }
  short_rests l view.expires =
      record {
        live =
            rw (add-zero n)
            (short narrow young v l (joins e (stages.Echoes.replies (stages.Replies.refuses 2))) c);
      }

  -- nor is a hold or a resume
  short_pauses : {Lax : Type 0} {rs : receiver-settings.Settings} {k : view.Pause} {q : receiver-phase.Phase} {t : receiver.Told}
      → Line (Repeats m) forward
      → view.Pauses rs k q t
      → Received Lax st (sender_in st p) forward back buffer (since m n 0 ds) (heard t buffer)
  short_pauses l view.denied = record { live = rw (append-nil, add-zero n) (short narrow young v l e c) }
  short_pauses l (view.holds _ _) =
      record { live = rw (add-zero n) (short narrow young v l (joins e (stages.Echoes.replies (stages.grants _ _))) c) }
  short_pauses l (view.resumes _) =
      record { live = rw (add-zero n) (short narrow young v l (joins e (stages.Echoes.replies (stages.grants _ _))) c) }

  -- SM_RM is delivered and acknowledged, or nothing happens
  short_hear : {Lax : Type 0} {rs : receiver-settings.Settings} {q : receiver-phase.Phase} {lent : List ℕ} {h : Heard}
      → Line (Repeats m) forward
      → view.Hears rs (sm_rm_of m) lent q h → Received Lax st (sender_in st p) forward back buffer (since m n 0 ds) h
  unfolding sm_rm_of
  short_hear l (view.refuses _ _) = record { live = rw (append-nil, add-zero n) (short narrow young v l e c) }
  short_hear l view.ignores = record { live = rw (append-nil, add-zero n) (short narrow young v l e c) }
  short_hear l (view.announced k _ _) = absurd (omega arith)
  short_hear l (view.informed _ k _ _) = absurd (omega arith)
  short_hear l (view.closes k) = absurd (omega arith)
  short_hear l (view.short _) =
      let some : 1 ≤ length (fill_to 8 m ∷ ds) = omega arith in
      record {
        live =
            rw (add-zero n)
            (short narrow young v l (joins (widens (echo_more (fill_to 8 m)) e) (echoes _ some)) (refl, c));
      }
  short_hear l (view.short_only_lem k) = absurd (omega arith)

pub receiver_tick_live : {Lax : Type 0} {st : Settings} {s : Sender} {r : Receiver} {forward back : List Frame} {buffer : List ℕ}
    {b : Begun}
    → Live Lax st s r forward back buffer b
    → Received Lax st s forward back buffer b (heard (receiver-tick.tick_of r) buffer)
receiver_tick_live {b = b} (resting h) = record { live = resting (had_further b 0 _ h) }
receiver_tick_live (long {r = r} wide fits young v s) =
    long_took (record { long = wide; fits = fits }) young v (stage_tick r.settings s)
receiver_tick_live (short {r = r} narrow young v l e c) = short_rests narrow young v e c l (view.tick_does r)

pub receiver_pause_live : {Lax : Type 0} {st : Settings} {s : Sender} {r : Receiver} {forward back : List Frame} {buffer : List ℕ}
    {b : Begun} (k : view.Pause)
    → (Lax → k ≡ view.hold → was_refused (view.pause_of k r).outcome ≡ true)
    → Live Lax st s r forward back buffer b
    → Received Lax st s forward back buffer b (heard (view.pause_of k r) buffer)
receiver_pause_live {b = b} k d (resting h) = record { live = resting (had_further b 0 _ h) }
receiver_pause_live k d (long {r = r} wide fits young v s) =
    long_took (record { long = wide; fits = fits }) young v (stage_pause r.settings k d s)
receiver_pause_live k d (short {r = r} narrow young v l e c) = short_pauses narrow young v e c l (view.pause_does k r)

-- the first frame of a short transfer's line is its SM_RM
is_repeated : {m : List ℕ} {f : Frame} → Repeats m f → f ≡ sm_rm_of m
is_repeated repeats = refl

first_repeats : {m : List ℕ} {f : Frame} {rest : List Frame} → Line (Repeats m) (f ∷ rest) → f ≡ sm_rm_of m
first_repeats (more first l) = is_repeated first

pub receiver_hear_live : {Lax : Type 0} {st : Settings} {s : Sender} {r : Receiver} {f : Frame} {rest back : List Frame} {buffer : List ℕ}
    {b : Begun} (k : Rest) (lent : List ℕ)
    → Live Lax st s r (f ∷ rest) back buffer b
    → (Unrefused (receiver-hear.hear_of r f lent) → lent ≡ buffer)
    → Received Lax st s (leaving k f rest) back buffer b (receiver-hear.hear_of r f lent)
receiver_hear_live {b = b} k lent (resting h) d = record { live = resting (had_further b 0 _ h) }
receiver_hear_live k lent (long {m} {r = r} wide fits young v s) d =
    let w : Fits m = record { long = wide; fits = fits } in
    long_took w young v (stage_hear w r.settings lent k s d)
receiver_hear_live {f = f} k lent (short {r = r} narrow young v l e c) d =
    short_hear narrow young v e c (left_line k l)
    (subst (λ (g : Frame). view.Hears r.settings g lent r.phase (receiver-hear.hear_of r f lent)) (first_repeats l) (view.hear_does r f lent))

-- ---- losses

-- the first frame of a list is lost: what is left of the list is what a hearing would leave
pub lose_forward_live : {Lax : Type 0} {st : Settings} {s : Sender} {r : Receiver} {forward back : List Frame} {buffer : List ℕ} {b : Begun}
    → Live Lax st s r forward back buffer b
    → Live Lax st s r (dropped forward) back buffer (further b 0 0 [])
lose_forward_live {b = b} (resting h) = resting (had_further b 0 [] h)
lose_forward_live {forward = []} (long {n = n} wide fits young v s) = rw (add-zero n) (long wide fits young v s)
lose_forward_live {forward = f ∷ rest} (long {n = n} wide fits young v s) =
    rw (add-zero n) (long wide fits young v (stage_leaving gone s))
lose_forward_live {forward = []} (short {n = n} w young v l e c) = rw (add-zero n) (short w young v l e c)
lose_forward_live {forward = f ∷ rest} (short {n = n} w young v l e c) = rw (add-zero n) (short w young v (behind l) e c)

pub lose_back_live : {Lax : Type 0} {st : Settings} {s : Sender} {r : Receiver} {forward back : List Frame} {buffer : List ℕ} {b : Begun}
    → Live Lax st s r forward back buffer b
    → Live Lax st s r forward (dropped back) buffer (further b 0 0 [])
lose_back_live {b = b} (resting h) = resting (had_further b 0 [] h)
lose_back_live {back = []} (long {n = n} wide fits young v s) = rw (add-zero n) (long wide fits young v s)
lose_back_live {back = f ∷ rest} (long {n = n} wide fits young v s) = rw (add-zero n) (long wide fits young v (stage_back s))
lose_back_live {back = []} (short {n = n} w young v l e c) = rw (add-zero n) (short w young v l e c)
lose_back_live {back = f ∷ rest} (short {n = n} w young v l e c) = rw (add-zero n) (short w young v l (behind e) c)

-- nothing happens
pub idle_live : {Lax : Type 0} {st : Settings} {s : Sender} {r : Receiver} {forward back : List Frame} {buffer : List ℕ} {b : Begun}
    → Live Lax st s r forward back buffer b
    → Live Lax st s r forward back buffer (further b 0 0 [])
idle_live {b = b} (resting h) = resting (had_further b 0 [] h)
idle_live (long {n = n} wide fits young v s) = rw (add-zero n) (long wide fits young v s)
idle_live (short {n = n} w young v l e c) = rw (add-zero n) (short w young v l e c)
