-- No hearing on the line is refused 14. Since a begin finds the receiver shut and forward empty, the sender's transfer, the
-- connection and every frame on forward are of one length: an announcement names it, and the sender fills its frames for it.
-- Assumes nothing.
use Prim.Native.Nat.{ℕ, ◌≤◌, ◌<◌}
use mathlib.Core.Bool.{true, false, false≢true}
use mathlib.Core.List.{List, [], ◌∷◌, append-nil}
use mathlib.Core.Path.{◌≡◌, refl, sym, ap, ◌∙◌, subst}
use native.Mathlib.Nat.{le_refl}
use native.Mathlib.Omega.{arith}
use borrow.Author.Tests.{leb-false, eqb-true}
use lib.ListN.{length}
use Rattle.frame.proofs.Choice.{pick_elim}
use Rattle.frame.proofs.Inverse.{written_clean}
use Rattle.frame.proofs.Laws.{word_whole}
use Rattle.frame.specs.Choice.{pick}
use Rattle.frame.specs.Frames.{byte_of, word_at, announcement_of, information_of, lm_nack_of, sm_rm_of}
use Rattle.frame.specs.Reading.{clean_for}
use Rattle.frame.specs.declared.Frame.{Frame}
use Rattle.receiver.proofs.Refused.{refused_so}
use Rattle.receiver.proofs.View as view
use Rattle.receiver.proofs.View.{Shut, Ticks, Pauses, Hears}
use Rattle.receiver.specs.Refusals.{Unclean}
use Rattle.receiver.specs.Told as receiver
use Rattle.receiver.specs.declared.Phase as receiver-phase
use Rattle.receiver.specs.declared.Phase.TheVariants as at
use Rattle.receiver.specs.declared.Settings as receiver-settings
use Rattle.sender.proofs.Choices.{limit_elim, begin_elim, lent_elim, over_elim, timeout_elim, bad_elim, hear_elim}
use Rattle.sender.specs.Begin.{begin_of, begin_short, begin_long}
use Rattle.sender.specs.Hear.{hear_of, hear_ack, hear_nack, hear_end, hear_short_ack, ack_opening, ack_window, ack_below, taking, taking_hold, if_whole, if_first}
use Rattle.sender.specs.Tick.{information_at, tick_of, lent_to, tick_phase, tick_opening, tick_sending, tick_waiting, tick_short, after_frame}
use Rattle.sender.specs.Told.{Told}
use Rattle.sender.specs.declared.Phase.{Phase}
use Rattle.sender.specs.declared.Phase.TheVariants.{Idle, Opening, Sending, Waiting, Short}
use Rattle.sender.specs.declared.Sender.{Sender}
use Rattle.sender.specs.declared.Settings.{Settings}
use Rattle.sender.specs.declared.Streamed.{Streamed}
use Rattle.sender.specs.declared.Transfer.{Transfer}
use Rattle.delivery.proofs.Climbs.{cut_line, drop_line}
use Rattle.delivery.proofs.Keeps.{AfterSender, Keeps, Holds, Steps, kept_step, capped_step_lem, from-fresh}
use Rattle.delivery.proofs.Lines.{Line, none, more, joins}
use Rattle.delivery.proofs.Moves.{left_line}
use Rattle.delivery.proofs.Stages.{sender_in}
use Rattle.delivery.specs.Demand3.{Conditions}
use Rattle.delivery.specs.Filler.{HeardFilled, AllFilled, FilledAfter, NeverUncleanOn, NeverUnclean}
use Rattle.delivery.specs.Run as runs
use Rattle.delivery.specs.Run.{Past, fresh, next, run_of}
use Rattle.delivery.specs.Seen.{taken}
use Rattle.transport.specs.Capped.{capped_step}
use Rattle.transport.specs.Step.{step_of}
use Rattle.transport.specs.World.{Call, Given}

-- ---- one length

-- the sender's transfer has it; its frames are numbered from 1 on
abbrev Sends : ℕ → Phase → Type 0
Sends l Idle = Unit
Sends l (Opening x) = x.transfer.length ≡ l
Sends l (Sending x) = (x.transfer.length ≡ l) × (1 ≤ x.next) × (x.next ≤ x.last)
Sends l (Waiting x) = (x.transfer.length ≡ l) × (1 ≤ x.last)
Sends l (Short x) = Unit

-- the receiver's connection has it
abbrev Awaits : ℕ → receiver-phase.Phase → Type 0
Awaits l at.Idle = Unit
Awaits l (at.Done y) = Unit
Awaits l (at.Open x) = x.length ≡ l

-- a frame is of a message of this length: an announcement names it, and nothing stands behind it
record Of (l : ℕ) (f : Frame) : Type 0 where
  announces : f.kind ≡ 1 → byte_of f 0 ≡ 0 → word_at f 2 3 ≡ l
  clean : clean_for f l ≡ true

record OneLength (p : Phase) (q : receiver-phase.Phase) (forward back : List Frame) : Type 0 where
  l : ℕ
  small : l < 65536
  sends : Sends l p
  awaits : Awaits l q
  line : Line (Of l) forward

-- ---- the frames that the sender emits

announcement_of_lem : (l frames n : ℕ) → n ≡ l → l < 65536 → Of l (announcement_of frames n)
unfolding announcement_of clean_for pick
announcement_of_lem l frames n same small = record { announces = λ _ _. word_whole n (omega arith) ∙ same; clean = refl }

information_of_lem : (l number : ℕ) (m : List ℕ) → length m ≡ l → 1 ≤ number → Of l (information_at number m)
unfolding information_of
information_of_lem l number m same low =
    record {
      announces = λ _ zero. absurd (omega arith);
      clean = subst (λ (n : ℕ). clean_for (information_at number m) n ≡ true) same (written_clean number m);
    }

nack_of : (l cause : ℕ) → Of l (lm_nack_of cause)
unfolding lm_nack_of clean_for pick
nack_of l cause = record { announces = λ one _. absurd (omega arith); clean = refl }

short_of : (l : ℕ) (m : List ℕ) → Of l (sm_rm_of m)
unfolding sm_rm_of clean_for pick
short_of l m = record { announces = λ one _. absurd (omega arith); clean = refl }

-- ---- the sender

-- what a call of the sender tells: it goes on, with a frame or without
data Does (l : ℕ) : Told → Type 0 where
  goes : {a : Told} → Sends l a.next.phase → a.emits ≡ false → Does l a
  adds : {a : Told} → Sends l a.next.phase → a.emits ≡ true → Of l a.frame → Does l a

module _ (st : Settings) (l : ℕ) (small : l < 65536) where
  after_sends : (x : Streamed) → Sends l (Sending x) → Sends l (after_frame x)
  unfolding after_frame
  after_sends x s =
      let low = s.1 in
      let high = s.2 in
      pick_elim (Sends l) _ (λ _. (s.0, omega arith))
      (λ on. let more = leb-false x.last x.next on in (s.0, omega arith, omega arith))

  ticks : (p : Phase) → Sends l p → (m : List ℕ) → Does l (tick_of (sender_in st p) m)
  unfolding lent_to tick_phase tick_opening tick_sending tick_waiting tick_short
  ticks Idle s m = lent_elim (Does l) (sender_in st Idle) m (goes tt refl) (λ _. goes tt refl)
  ticks (Opening x) s m =
      let P : Told → Type 0 = Does l in
      let z = sender_in st (Opening x) in
      lent_elim P z m (goes s refl)
      (λ _. over_elim P z x.transfer _ (adds tt refl (nack_of l 3))
      (λ _. timeout_elim P z x.transfer x.wait x.misses (adds tt refl (nack_of l 2))
      (λ _. adds s refl (announcement_of_lem l x.transfer.frames x.transfer.length s small))
      (λ _. goes s refl)))
  ticks (Sending x) s m =
      let P : Told → Type 0 = Does l in
      let z = sender_in st (Sending x) in
      lent_elim P z m (goes s refl)
      (λ lent. over_elim P z x.transfer _ (adds tt refl (nack_of l 3))
      (λ _. limit_elim P st.gap x.gap
      (adds (after_sends x s) refl (information_of_lem l x.next m (eqb-true (length m) x.transfer.length lent ∙ s.0) s.1))
      (λ _. goes s refl)))
  ticks (Waiting x) s m =
      let P : Told → Type 0 = Does l in
      let z = sender_in st (Waiting x) in
      lent_elim P z m (goes s refl)
      (λ lent. over_elim P z x.transfer _ (adds tt refl (nack_of l 3))
      (λ _. timeout_elim P z x.transfer x.wait x.misses (adds tt refl (nack_of l 2))
      (λ _. adds s refl (information_of_lem l x.last m (eqb-true (length m) x.transfer.length lent ∙ s.0) s.1))
      (λ _. goes s refl)))
  ticks (Short x) s m =
      let P : Told → Type 0 = Does l in
      let z = sender_in st (Short x) in
      lent_elim P z m (goes tt refl)
      (λ _. over_elim P z x.transfer _ (goes tt refl)
      (λ _. limit_elim P st.timeout x.wait (adds tt refl (short_of l m)) (λ _. goes tt refl)))

  -- an LM_ACK asks for a window of the same transfer
  window_hears : (p : Phase) (t : Transfer) (start misses from count : ℕ) → Sends l p → t.length ≡ l
      → Does l (ack_window (sender_in st p) t start misses from count)
  unfolding ack_window ack_below taking_hold taking
  window_hears p t start misses from count s same =
      let P : Told → Type 0 = Does l in
      bad_elim P (sender_in st p) t from count (goes s refl) (adds tt refl (nack_of l 4))
      (λ low some inside. pick_elim P _
      (λ _. pick_elim P _ (λ _. goes (same, low, le_refl from) refl) (λ _. goes s refl))
      (λ _. goes (same, low, omega arith) refl))

  hears : (p : Phase) → Sends l p → (f : Frame) → Does l (hear_of (sender_in st p) f)
  unfolding hear_ack hear_nack hear_end hear_short_ack ack_opening taking if_whole if_first
  hears Idle s f =
      hear_elim (Does l) (sender_in st Idle) f (λ _. goes tt refl) (λ _. goes tt refl) (goes tt refl) (goes tt refl) (goes tt refl)
  hears (Opening x) s f =
      let P : Told → Type 0 = Does l in
      let z = sender_in st (Opening x) in
      hear_elim P z f (λ _. goes s refl)
      (λ _. bad_elim P z x.transfer (byte_of f 0) (byte_of f 1) (goes s refl) (adds tt refl (nack_of l 4))
      (λ low some inside. pick_elim P _ (λ _. goes (s, low, omega arith) refl) (λ _. goes s refl)))
      (goes tt refl) (goes s refl) (goes s refl)
  hears (Sending x) s f =
      let P : Told → Type 0 = Does l in
      hear_elim P (sender_in st (Sending x)) f (λ _. goes s refl)
      (λ _. window_hears (Sending x) x.transfer x.start x.misses _ _ s s.0)
      (goes tt refl) (pick_elim P _ (λ _. goes tt refl) (λ _. goes s refl)) (goes s refl)
  hears (Waiting x) s f =
      let P : Told → Type 0 = Does l in
      hear_elim P (sender_in st (Waiting x)) f (λ _. goes s refl)
      (λ _. window_hears (Waiting x) x.transfer x.start x.misses _ _ s s.0)
      (goes tt refl) (pick_elim P _ (λ _. goes tt refl) (λ _. goes s refl)) (goes s refl)
  hears (Short x) s f =
      let P : Told → Type 0 = Does l in
      hear_elim P (sender_in st (Short x)) f (λ _. goes tt refl) (λ _. goes tt refl) (goes tt refl) (goes tt refl)
      (pick_elim P _ (λ _. goes tt refl) (λ _. goes tt refl))

-- after such a call
after_does : {q : receiver-phase.Phase} {forward back left : List Frame} {p : Phase} {a : Told} (k : OneLength p q forward back)
    → Does k.l a
    → AfterSender OneLength q forward left a
after_does k (goes s e) =
    record { l = k.l; small = k.small; sends = s; awaits = k.awaits; line = rw (e, append-nil) k.line }
after_does k (adds s e o) =
    record { l = k.l; small = k.small; sends = s; awaits = k.awaits; line = rw e (joins k.line o) }

-- a begin: another length, where nothing is left of the one before
shut_awaits : (l : ℕ) (q : receiver-phase.Phase) → Shut q → Awaits l q
shut_awaits l at.Idle s = tt
shut_awaits l (at.Done y) s = tt
shut_awaits l (at.Open x) s = absurd s

sender_begins : {p : Phase} {q : receiver-phase.Phase} {forward back : List Frame} (st : Settings) (m : List ℕ)
    → (taken (begin_of (sender_in st p) m).outcome ≡ true → Shut q × (forward ≡ []) × (back ≡ []))
    → OneLength p q forward back
    → AfterSender OneLength q forward back (begin_of (sender_in st p) m)
unfolding begin_short begin_long
sender_begins {p} {q} {forward} {back} st m found k =
    begin_elim
    (λ (a : Told). (taken a.outcome ≡ true → Shut q × (forward ≡ []) × (back ≡ [])) → AfterSender OneLength q forward back a)
    (sender_in st p) m
    (λ number _. rw append-nil k)
    (λ _ few clear.
    record { l = k.l; small = k.small; sends = tt; awaits = k.awaits; line = joins k.line (short_of k.l m) })
    (λ _ high clear.
    let empty = clear refl in
    let short : length m < 65536 = omega arith in
    record {
      l = length m;
      small = short;
      sends = refl;
      awaits = shut_awaits (length m) q empty.0;
      line = rw empty.1 (more (announcement_of_lem (length m) _ (length m) refl short) none);
    })
    found

-- ---- the receiver

ticked : (l : ℕ) {rs : receiver-settings.Settings} {q : receiver-phase.Phase} {t : receiver.Told} → Ticks rs q t → Awaits l q
    → Awaits l t.next.phase
ticked l (view.rests _) a = a
ticked l (view.waits _) a = a
ticked l (view.retries _ _ _) a = a
ticked l (view.repeats _ _ _) a = a
ticked l view.expires a = tt

paused : (l : ℕ) {rs : receiver-settings.Settings} {q : receiver-phase.Phase} {k : view.Pause} {t : receiver.Told}
    → Pauses rs k q t
    → Awaits l q
    → Awaits l t.next.phase
paused l view.denied a = a
paused l (view.holds _ _) a = a
paused l (view.resumes _) a = a

-- only an announcement opens, for the length that it names
heard : {rs : receiver-settings.Settings} {l : ℕ} {q : receiver-phase.Phase} {f : Frame} {lent : List ℕ} {h : receiver.Heard}
    → Hears rs f lent q h
    → Of l f
    → Awaits l q
    → Awaits l h.told.next.phase
heard (view.refuses _ _) o a = a
heard view.ignores o a = a
heard (view.announced _ _ (view.nacks _ _)) o a = a
heard (view.announced one zero (view.opens _ _ _ _ _)) o a = o.announces one zero
heard (view.announced _ _ view.again) o a = a
heard (view.informed _ _ _ (view.ended _)) o a = a
heard (view.informed _ _ _ (view.above _)) o a = tt
heard (view.informed _ _ _ (view.delivers _ _)) o a = tt
heard (view.informed _ _ _ (view.asks _ _ _)) o a = a
heard (view.informed _ _ _ (view.goes_on _ _ _ _)) o a = a
heard (view.closes _) o a = tt
heard (view.short _) o a = a
heard (view.short_only_lem _) o a = a

first : {P : Frame → Type 0} {f : Frame} {fs : List Frame} → Line P (f ∷ fs) → P f
first (more p l) = p

-- a frame of the connection's length is clean for it
never : (l : ℕ) (f : Frame) (q : receiver-phase.Phase) → Of l f → Awaits l q → Unclean f q → ⊥
never l f at.Idle o a u = u
never l f (at.Done y) o a u = u
never l f (at.Open x) o a (_, _, _, _, _, dirty) = false≢true (sym dirty ∙ ap (clean_for f) a ∙ o.clean)

-- ---- every call

abbrev Any : receiver.Outcome → Type 0
Any o = Unit

abbrev Says : Sender → Given → receiver.Outcome → Type 0
Says s g o = HeardFilled g o

-- the sender's transfer goes on
beside : {p : Phase} {q r : receiver-phase.Phase} {forward back left after : List Frame} (k : OneLength p q forward back)
    → Awaits k.l r
    → Line (Of k.l) left
    → OneLength p r left after
beside k a l = record { l = k.l; small = k.small; sends = k.sends; awaits = a; line = l }

fills : Keeps OneLength Any Says
fills =
    record {
      sender_begins = λ st m. sender_begins st m;
      sender_ticks_lem = λ {p} st m k. after_does k (ticks st k.l k.small p k.sends m);
      sender_hears = λ {p} {f = f} st r k. after_does k (hears st k.l k.small p k.sends f);
      receiver_ticks_lem = λ k v. beside k (ticked k.l v k.awaits) k.line;
      receiver_pauses = λ _ k v. beside k (paused k.l v k.awaits) k.line;
      receiver_hears = λ r k v. beside k (heard v (first k.line) k.awaits) (left_line r k.line);
      loses_forward = λ {forward = forward} k. beside k k.awaits (drop_line forward k.line);
      loses_back = λ k. beside k k.awaits k.line;
      cut = λ n k. beside k k.awaits (cut_line n k.line);
      says_nobody = λ s o. tt;
      says_sender = λ s o k. tt;
      says_receiver = λ {q} {f} s k v e. never k.l f q (first k.line) k.awaits ((refused_so v e).1 refl);
    }

module _ (rs : receiver-settings.Settings) (pos : 1 ≤ rs.timeout) (small : rs.timeout ≤ 10000) where
  run : (line : runs.Line) → Steps fills rs pos small line → (calls : List Call) (p : Past)
      → Holds fills rs pos small p.world p.events
      → AllFilled p.events
      → Conditions line p calls
      → AllFilled (run_of line p calls).events
  unfolding Steps run_of
  run line k [] p h c d = c
  run line k (call ∷ calls) p h c d =
      let a = k p.world p.events h call d.0 (λ _. tt) in
      run line k calls (next line p call) a.0.holds (a.0.says, c) d.1

never_unclean_on : (line : runs.Line)
    → ((rs : receiver-settings.Settings) (pos : 1 ≤ rs.timeout) (small : rs.timeout ≤ 10000) → Steps fills rs pos small line)
    → NeverUncleanOn line
never_unclean_on line k =
    from-fresh fills (record { l = 0; small = omega arith; sends = tt; awaits = tt; line = none }) (FilledAfter line)
    (λ rs pos small s r buffer calls h c. run rs pos small line (k rs pos small) calls (fresh s r buffer) h tt c)

pub never_unclean : NeverUnclean
never_unclean =
    record {
      line = never_unclean_on step_of (kept_step fills);
      capped = never_unclean_on capped_step (capped_step_lem fills);
    }
