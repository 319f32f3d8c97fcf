-- Document 02, E1. The begin of fresh ends leads to the first stage of a clean transfer, every clean call to another one, and
-- the promise is read off the stage. Without repeats a stage has at most one frame on each line, so that a line of 64 does the
-- same.
-- Assumes nothing.
use Prim.Native.Nat.{ℕ, ◌+◌, ◌*◌, ◌≤◌, ◌<◌}
use mathlib.Core.Bool.{Bool, true, false}
use mathlib.Core.Path.{◌≡◌, refl, subst}
use mathlib.Core.List.{List, [], ◌∷◌, cons≢nil, nil≢cons}
use native.Mathlib.Omega.{arith}
use native.Mathlib.Nat.{mul-le-mul_right}
use lib.ListN.{length}
use Rattle.clean.specs.Figures.{figures_for}
use Rattle.clean.specs.declared.Figures.{Figures}
use Rattle.receiver.proofs.Reachable as receiver-reachable
use Rattle.receiver.specs.Reachable as of_receiver_lem
use Rattle.receiver.specs.declared.Receiver.{Receiver}
use Rattle.receiver.specs.declared.Settings as receiver-settings
use Rattle.sender.proofs.Reachable as sender-reachable
use Rattle.sender.specs.Reachable as of_sender_lem
use Rattle.sender.specs.declared.Sender.{Sender}
use Rattle.sender.specs.Told as sender
use Rattle.sender.specs.declared.Settings.{Settings}
use Rattle.delivery.proofs.CleanStages.{Clear, Inside, clean_report, none_kept, none_repeated, none_passed, none_answered, Stage, opens, asks, sends, sent, ends, over}
use Rattle.delivery.proofs.CleanSteps.{Stands, Allowed, step}
use Rattle.delivery.proofs.CleanSends.{begins_long}
use Rattle.delivery.proofs.Stages.{frames_of}
use Rattle.delivery.proofs.Theorem as theorem
use Rattle.delivery.proofs.Theorem.{SenderMade, sender_made_lem, ReceiverMade, receiver_made_lem}
use Rattle.delivery.specs.Clean.{Turn, turn_in, Empty, CleanCall, CallsMeet, AtMostOnce, not_yet, once, reports_in, ticks_since, delivered_since, CleanPromise, Fits, Cleanly, Clean, CappedClean}
use Rattle.delivery.specs.Demand3.{Condition}
use Rattle.delivery.specs.Lenient.{LenientCall, LenientFits, LenientClean}
use Rattle.delivery.specs.Run.{Line, Past, fresh, next, run_of}
use Rattle.delivery.specs.Seen.{Begun, begun_after, begun_in}
use Rattle.transport.specs.Capped.{capped, capped_step}
use Rattle.transport.specs.Step.{step_of}
use Rattle.transport.specs.World.{World, Call, Event, start_of}
use Rattle.transport.specs.World.{begin, sender_tick, receiver_tick, hold, resume}
use Rattle.transport.specs.World.{hear_forward, repeat_forward, lose_forward, hear_back, repeat_back, lose_back}

module _ {st : Settings} {rs : receiver-settings.Settings} {m : List ℕ} (c : Clear st rs m) (repeats : Bool) where
  -- ---- the promise, read off a stage

  -- a frame of the message is due before tick N × G is over
  pub not_yet_lem : {ticks start number last gap : ℕ} → Inside m start number last → gap < st.gap
      → ticks + st.gap ≡ number * st.gap + gap
      → ticks < frames_of m * st.gap
  not_yet_lem {number = number} i g t =
      let inside = i.inside in
      let final = i.final in
      let within : number ≤ frames_of m = omega arith in
      let below = mul-le-mul_right st.gap within in
      omega arith

  -- what is promised, by the world, what was seen since the begin, and the reports
  record Promises (w : World) (b : Begun) (reports : List sender.Outcome) : Type 0 where
    one : AtMostOnce (clean_report st rs m) reports
    early : ticks_since b < frames_of m * st.gap → reports ≡ []
    there : frames_of m * st.gap ≤ ticks_since b → Empty w → reports ≡ clean_report st rs m ∷ []
    delivered : reports ≡ clean_report st rs m ∷ [] → delivered_since b ≡ m ∷ []

  -- while a frame is on its way, or more ticks are due
  unreported : {w : World} {b : Begun} → (frames_of m * st.gap ≤ ticks_since b → Empty w → ⊥) → Promises w b []
  unreported n =
      record { one = not_yet; early = λ _. refl; there = λ late e. absurd (n late e); delivered = λ e. absurd (nil≢cons e) }

  promises : {w : World} {turn : Turn} {b : Begun} {reports : List sender.Outcome}
      → Stage st rs m repeats w turn b reports → Promises w b reports
  promises (opens _) = unreported (λ _ e. cons≢nil e.0)
  promises (asks _ _ _ _ _ _) = unreported (λ _ e. cons≢nil e.1)
  promises (sends i _ g _ t _ _) =
      let early = not_yet_lem i g t in
      unreported (λ late _. omega arith)
  promises (sent _ _ _) = unreported (λ _ e. cons≢nil e.0)
  promises (ends _ _ _ _) = unreported (λ _ e. cons≢nil e.1)
  promises (over _ late _ _) =
      record { one = once; early = λ e. absurd (omega arith); there = λ _ _. refl; delivered = λ _. refl }

  promised : (p : Past) → Stands c repeats p → CleanPromise (figures_for (length m) st.gap) m p
  unfolding figures_for
  promised p s =
      let k = promises s in
      record { one = k.one; early = k.early; there = k.there; delivered = k.delivered }

  -- ---- along a list of calls

  -- a line that does as the plain one while the transfer goes on
  pub record Like (line : Line) : Type 0 where
    pub event : (w : World) (d : Call) → (line w d).event ≡ (step_of w d).event
    pub world : (w : World) (d : Call) {turn : Turn} {b : Begun} {reports : List sender.Outcome}
        → Stage st rs m repeats (step_of w d).world turn b reports
        → (line w d).world ≡ (step_of w d).world

  pub plain : Like step_of
  plain = record { event = λ w d. refl; world = λ w d s. refl }

  module _ (line : Line) (like : Like line) where
    pub next_stands : (p : Past) (d : Call) → Stands c repeats p → Condition p d (line p.world d).event
        → Allowed repeats p d (line p.world d).event
        → Stands c repeats (next line p d)
    unfolding turn_in begun_in reports_in
    next_stands p d s a q =
        let e = like.event p.world d in
        let t = (step c repeats p d s (subst (Condition p d) e a) (subst (Allowed repeats p d) e q)).stage in
        rw (e, like.world p.world d t) t

    run_stands : {Asked : Past → Call → Event → Type 0}
        → ((p : Past) (d : Call) (e : Event) → Asked p d e → Allowed repeats p d e)
        → (calls : List Call) (p : Past)
        → Stands c repeats p
        → CallsMeet Asked line p calls
        → Stands c repeats (run_of line p calls)
    unfolding run_of
    run_stands allows [] p s q = s
    run_stands allows (d ∷ calls) p s (a, q, rest) =
        run_stands allows calls (next line p d) (next_stands p d s a (allows p d _ q)) rest

-- at most one frame is on each line, where none is repeated
module _ {st : Settings} {rs : receiver-settings.Settings} {m : List ℕ} (c : Clear st rs m) where
  short_lines : {w : World} {turn : Turn} {b : Begun} {reports : List sender.Outcome} → Stage st rs m false w turn b reports
      → capped w ≡ w
  unfolding capped
  short_lines (opens _) = refl
  short_lines (asks _ _ _ _ p q) = rw (none_passed st rs m p, none_answered st rs m q)
  short_lines (sends _ _ _ _ _ p q) = rw (none_passed st rs m p, none_answered st rs m q)
  short_lines (sent _ _ _) = refl
  short_lines (ends _ _ u cs) = rw (none_kept st rs m u, none_repeated st rs m cs)
  short_lines (over _ _ u cs) = rw (none_kept st rs m u, none_repeated st rs m cs)

  at_64 : Like c false capped_step
  unfolding capped_step
  at_64 = record { event = λ w d. refl; world = λ w d s. short_lines s }

-- ---- from the ends that making answers

-- settings within their limits, and a message that fits them
clear : {gap timeout limit patience window capacity : ℕ} {s : Sender} {r : Receiver} {m : List ℕ}
    → SenderMade gap timeout limit s
    → ReceiverMade patience window capacity r
    → of_sender_lem.Reachable s
    → of_receiver_lem.Reachable r
    → LenientFits gap timeout limit patience capacity m
    → Clear s.settings r.settings m
unfolding figures_for
clear (theorem.SenderMade.fits _) (theorem.ReceiverMade.fits _) s r f =
    let a = (sender-reachable.reachable_within s).settings in
    let b = (receiver-reachable.reachable_within r).settings in
    let space = f.space in
    let high = b.capacity_high in
    record {
      long = f.long;
      fits = omega arith;
      space = f.space;
      gap = a.gap.0;
      gaps = a.gap.1;
      window = b.window_low;
      patient = f.receivers_timeout;
      timeouts = b.timeout_high;
      in_time = f.sending_time;
      limits = a.limit.1;
    }

-- the begin leads to the first stage
begins : {gap timeout limit patience window capacity : ℕ} {s : Sender} {r : Receiver} {m : List ℕ}
    → SenderMade gap timeout limit s
    → ReceiverMade patience window capacity r
    → (c : Clear s.settings r.settings m) (repeats : Bool) (line : Line)
    → Like c repeats line
    → (buffer : List ℕ)
    → length buffer ≡ 1785
    → Stands c repeats (next line (fresh s r buffer) (begin m))
unfolding step_of turn_in begun_in begun_after reports_in
begins {s = s} {r = r} {m = m} (theorem.SenderMade.fits _) (theorem.ReceiverMade.fits _) c repeats line like buffer size =
    let w : World = start_of s r buffer in
    let e : Event = (step_of w (begin m)).event in
    let t : Stage s.settings r.settings m repeats (step_of w (begin m)).world (turn_in (e ∷ [])) (begun_in (e ∷ [])) (reports_in (e ∷ [])) =
    rw (begins_long s.settings m c.long c.fits) (opens size) in
    rw (like.event w (begin m), like.world w (begin m) t) t

-- what is read off every stage holds of every transfer whose calls are allowed
module _ (repeats : Bool) (line : Line)
    (like : (st : Settings) (rs : receiver-settings.Settings) (m : List ℕ) (c : Clear st rs m) → Like c repeats line)
    (Asked : Past → Call → Event → Type 0)
    (allows : (p : Past) (d : Call) (e : Event) → Asked p d e → Allowed repeats p d e)
    (Says : Figures → List ℕ → Past → Type 0)
    (says : (st : Settings) (rs : receiver-settings.Settings) (m : List ℕ) (c : Clear st rs m) (p : Past)
    → Stands c repeats p
    → Says (figures_for (length m) st.gap) m p) where
  from_made : {gap timeout limit patience window capacity : ℕ} {s : Sender} {r : Receiver} {m : List ℕ}
      → SenderMade gap timeout limit s
      → ReceiverMade patience window capacity r
      → Clear s.settings r.settings m
      → (buffer : List ℕ)
      → length buffer ≡ 1785
      → (calls : List Call)
      → CallsMeet Asked line (next line (fresh s r buffer) (begin m)) calls
      → Says (figures_for (length m) gap) m (run_of line (fresh s r buffer) (begin m ∷ calls))
  unfolding run_of
  from_made {m = m} (theorem.SenderMade.fits a) (theorem.ReceiverMade.fits b) c buffer size calls q =
      let l = like _ _ m c in
      let first = begins (theorem.SenderMade.fits a) (theorem.ReceiverMade.fits b) c repeats line l buffer size in
      says _ _ m c _ (run_stands c repeats line l allows calls _ first q)

  pub cleanly : Cleanly line LenientFits Asked Says
  cleanly gap timeout limit s e patience window capacity r d buffer size m f calls q =
      let a = sender_made_lem gap timeout limit s e in
      let b = receiver_made_lem patience window capacity r d in
      let c = clear a b (of_sender_lem.fresh gap timeout limit e) (of_receiver_lem.new patience window capacity d) f in
      from_made a b c buffer size calls q

-- E1's conditions ask for more: of the settings the sender's T
pub fitting : (line : Line) (Asked : Past → Call → Event → Type 0) (Says : Figures → List ℕ → Past → Type 0)
    → Cleanly line LenientFits Asked Says
    → Cleanly line Fits Asked Says
fitting line Asked Says h gap timeout limit s e patience window capacity r d buffer size m f =
    h gap timeout limit s e patience window capacity r d buffer size m
    (record {
      senders_timeout = omega arith;
      receivers_timeout = f.receivers_timeout;
      sending_time = f.sending_time;
      space = f.space;
      long = f.long;
    })

-- a clean call is allowed where none is repeated, a lenient one where they may be
pub clean_allowed : (p : Past) (d : Call) (e : Event) → CleanCall p d e → Allowed false p d e
clean_allowed p (begin l) e q = q
clean_allowed p (sender_tick l) e q = λ t. (q t).0
clean_allowed p receiver_tick e q = q
clean_allowed p hold e q = q
clean_allowed p resume e q = q
clean_allowed p (hear_forward l) e q = q
clean_allowed p (repeat_forward l) e q = q
clean_allowed p lose_forward e q = q
clean_allowed p hear_back e q = q
clean_allowed p repeat_back e q = q
clean_allowed p lose_back e q = q

lenient_allowed : (p : Past) (d : Call) (e : Event) → LenientCall p d e → Allowed true p d e
lenient_allowed p (begin l) e q = q
lenient_allowed p (sender_tick l) e q = q
lenient_allowed p receiver_tick e q = q
lenient_allowed p hold e q = q
lenient_allowed p resume e q = q
lenient_allowed p (hear_forward l) e q = q
lenient_allowed p (repeat_forward l) e q = q
lenient_allowed p lose_forward e q = q
lenient_allowed p hear_back e q = q
lenient_allowed p repeat_back e q = q
lenient_allowed p lose_back e q = q

pub clean : Clean
clean =
    fitting step_of CleanCall CleanPromise
    (cleanly false step_of (λ st rs m c. plain c false) CleanCall clean_allowed CleanPromise (λ st rs m c. promised c false))

pub capped_clean : CappedClean
capped_clean =
    fitting capped_step CleanCall CleanPromise
    (cleanly false capped_step (λ st rs m c. at_64 c) CleanCall clean_allowed CleanPromise (λ st rs m c. promised c false))

pub lenient_clean : LenientClean
lenient_clean =
    cleanly true step_of (λ st rs m c. plain c true) LenientCall lenient_allowed CleanPromise (λ st rs m c. promised c true)
