-- Every clean call leads from a stage of a clean transfer to a stage; so does a repeat, where that is allowed.
-- Assumes nothing.
use Prim.Native.Nat.{ℕ}
use mathlib.Core.Bool.{Bool, true, false, not, true≢false, false≢true}
use mathlib.Core.Path.{◌≡◌, refl, sym, ◌∙◌, subst⁻¹}
use mathlib.Core.List.{List, [], ◌∷◌, append-nil}
use borrow.Author.Tests.{not-true}
use Rattle.frame.specs.Choice.{pick}
use Rattle.frame.specs.declared.Frame.{Frame}
use Rattle.receiver.proofs.View as view
use Rattle.receiver.proofs.View.{receiver_in, Hears, refuses, ignores, closes, short, short_only_lem, hear_does}
use Rattle.receiver.specs.Hold.{resume_of, resume_phase, resume_open}
use Rattle.receiver.specs.Told as receiver
use Rattle.receiver.specs.declared.Phase as receiver-phase
use Rattle.receiver.specs.declared.Settings as receiver-settings
use Rattle.sender.proofs.Choices.{begin_elim, tick_elim}
use Rattle.sender.specs.Begin.{begin_of, begin_short, begin_long}
use Rattle.sender.specs.Tick.{tick_of}
use Rattle.sender.specs.Told as sender
use Rattle.sender.specs.declared.Settings.{Settings}
use Rattle.delivery.proofs.CleanStages.{listens, Clear, Stage, opens, asks, sends, sent, ends, over, After}
use Rattle.delivery.proofs.Sends.{tick_taken}
use Rattle.delivery.specs.Clean.{Turn, Empty, turn_in, CleanCall, reports_in}
use Rattle.delivery.specs.Demand3.{LentMessage, Condition}
use Rattle.delivery.specs.Run.{Past}
use Rattle.delivery.specs.Seen.{taken, Begun, begun_after, begun_in, listened}
use Rattle.transport.proofs.Refusals.{announced_taken, informed_taken}
use Rattle.transport.specs.Step.{was_refused, Stepped, unheard, by_sender, by_receiver, gone, still, with_lines, dropped, given_forward, given_back, step_of}
use Rattle.transport.specs.World.{World, Call, Event, Given, nobody, to_receiver, to_sender, begin, sender_tick, receiver_tick, hold, resume, hear_forward, repeat_forward, lose_forward, hear_back, repeat_back, lose_back}
use Rattle.delivery.proofs.CleanHears.{stays, hear_forward_lem, hear_back_lem}
use Rattle.delivery.proofs.CleanTicks.{tick_receiver, tick_lent}
use Rattle.delivery.proofs.Stages.{further_none}

-- a hearing that is refused
refused_elim : {rs : receiver-settings.Settings} {f : Frame} {lent : List ℕ} {q : receiver-phase.Phase}
    (P : receiver.Heard → Type 0) {h : receiver.Heard}
    → ((number : ℕ) → P (receiver.heard (receiver.refusing (receiver_in rs q) number) lent))
    → Hears rs f lent q h
    → not (was_refused h.told.outcome) ≡ false
    → P h
refused_elim P k (refuses number _) e = k number
refused_elim P k ignores e = absurd (true≢false e)
refused_elim P k (view.announced _ _ a) e = absurd (true≢false (sym (announced_taken a) ∙ e))
refused_elim P k (view.informed _ _ _ i) e = absurd (true≢false (sym (informed_taken i) ∙ e))
refused_elim P k (closes _) e = absurd (true≢false e)
refused_elim P k (short _) e = absurd (true≢false e)
refused_elim P k (short_only_lem _) e = absurd (true≢false e)

-- a hold or a resume that is refused
denied_elim : {rs : receiver-settings.Settings} {k : view.Pause} {q : receiver-phase.Phase} (P : receiver.Told → Type 0)
    {t : receiver.Told}
    → P (receiver.refusing (receiver_in rs q) 13)
    → view.Pauses rs k q t
    → was_refused t.outcome ≡ true
    → P t
denied_elim P x view.denied e = x
denied_elim P x (view.holds _ _) e = absurd (false≢true e)
denied_elim P x (view.resumes _) e = absurd (false≢true e)

abbrev call_of : view.Pause → Call
call_of view.hold = hold
call_of view.resume = resume

-- a frame that the receiver listened to was not refused
heard_listens : (g : Given) (o : receiver.Outcome) → listened g o ≡ true → was_refused o ≡ false
heard_listens nobody o e = absurd (false≢true e)
heard_listens (to_sender f) o e = absurd (false≢true e)
heard_listens (to_receiver f) o e = not-true (was_refused o) e

-- ---- whether frames may be repeated

abbrev Unless : Bool → Type 0 → Type 0
Unless true A = Unit
Unless false A = A

unless_elim : (b : Bool) {A X : Type 0} → Unless b A → (b ≡ true → X) → (A → X) → X
unless_elim true u f g = f refl
unless_elim false u f g = g u

-- what is asked of a call
abbrev pub Allowed : Bool → Past → Call → Event → Type 0
Allowed repeats p (begin l) e = CleanCall p (begin l) e
Allowed repeats p (sender_tick l) e = taken e.sender ≡ true → Empty p.world
Allowed repeats p receiver_tick e = CleanCall p receiver_tick e
Allowed repeats p hold e = CleanCall p hold e
Allowed repeats p resume e = CleanCall p resume e
Allowed repeats p (hear_forward l) e = CleanCall p (hear_forward l) e
Allowed repeats p (repeat_forward l) e = Unless repeats (CleanCall p (repeat_forward l) e)
Allowed repeats p lose_forward e = CleanCall p lose_forward e
Allowed repeats p hear_back e = CleanCall p hear_back e
Allowed repeats p repeat_back e = Unless repeats (CleanCall p repeat_back e)
Allowed repeats p lose_back e = CleanCall p lose_back e

module _ {st : Settings} {rs : receiver-settings.Settings} {m : List ℕ} (c : Clear st rs m) (repeats : Bool) where
  abbrev At : World → Turn → Begun → List sender.Outcome → Type 0
  At = Stage st rs m repeats

  abbrev Then : Stepped → Turn → Begun → List sender.Outcome → Type 0
  Then = After st rs m repeats

  -- ---- calls that are refused

  module _ (w : World) (turn : Turn) (b : Begun) (reports : List sender.Outcome) (s : At w turn b reports) (l : List ℕ) where
    refuses_begin : (number : ℕ)
        → Then (by_sender (begin l) w nobody w.back (sender.refusing w.sender number)) turn b reports
    unfolding begun_after
    refuses_begin number = record { stage = rw (further_none b, append-nil w.forward) s }

    begin_refused : taken (begin_of w.sender l).outcome ≡ false
        → Then (by_sender (begin l) w nobody w.back (begin_of w.sender l)) turn b reports
    unfolding begin_short begin_long
    begin_refused =
        begin_elim
        (λ (a : sender.Told). taken a.outcome ≡ false → Then (by_sender (begin l) w nobody w.back a) turn b reports)
        w.sender l
        (λ number _. refuses_begin number)
        (λ _ _ e. absurd (true≢false e))
        (λ _ _ e. absurd (true≢false e))

    refuses_tick : Then (by_sender (sender_tick l) w nobody w.back (sender.refusing w.sender 4)) turn b reports
    unfolding begun_after
    refuses_tick = record { stage = rw (further_none b, append-nil w.forward) s }

    -- any tick of the sender
    tick_sender : (taken (tick_of w.sender l).outcome ≡ true → LentMessage b l × Empty w)
        → Then (by_sender (sender_tick l) w nobody w.back (tick_of w.sender l)) turn b reports
    tick_sender d =
        let Q : sender.Told → Type 0 = λ a. Then (by_sender (sender_tick l) w nobody w.back a) turn b reports in
        tick_elim (λ (a : sender.Told). (taken a.outcome ≡ true → Q a) → Q a) w.sender l (λ _. refuses_tick)
        (λ k. k (tick_taken w.sender w.sender.phase l))
        (λ t. let (lent, e) = d t in tick_lent c repeats l s lent e)

  -- a hold or a resume
  refuses_pause : (k : view.Pause) (w : World) {turn : Turn} {b : Begun} {reports : List sender.Outcome} → At w turn b reports
      → Then
      (by_receiver (call_of k) w nobody w.forward (receiver.heard (receiver.refusing w.receiver 13) w.buffer))
      turn b reports
  unfolding begun_after
  refuses_pause view.hold w {b = b} s = record { stage = rw (further_none b, append-nil w.back) s }
  refuses_pause view.resume w {b = b} s = record { stage = rw (further_none b, append-nil w.back) s }

  pause_refused : (k : view.Pause) (w : World) {turn : Turn} {b : Begun} {reports : List sender.Outcome} → At w turn b reports
      → was_refused (view.pause_of k w.receiver).outcome ≡ true
      → Then (by_receiver (call_of k) w nobody w.forward (receiver.heard (view.pause_of k w.receiver) w.buffer))
      turn b reports
  pause_refused k w {turn} {b} {reports} s e =
      denied_elim
      (λ (t : receiver.Told). Then (by_receiver (call_of k) w nobody w.forward (receiver.heard t w.buffer)) turn b reports)
      (refuses_pause k w s) (view.pause_does k w.receiver) e

  -- no stage is held, so that a resume is refused
  resume_refused : {w : World} {turn : Turn} {b : Begun} {reports : List sender.Outcome} → At w turn b reports
      → was_refused (resume_of w.receiver).outcome ≡ true
  unfolding resume_of resume_phase resume_open pick
  resume_refused (opens _) = refl
  resume_refused (asks _ _ _ _ _ _) = refl
  resume_refused (sends _ _ _ _ _ _ _) = refl
  resume_refused (sent _ _ _) = refl
  resume_refused (ends _ _ _ _) = refl
  resume_refused (over _ _ _ _) = refl

  -- a frame of forward that is given and refused stays
  repeat_unheard : (w : World) {turn : Turn} {b : Begun} {reports : List sender.Outcome} (l : List ℕ) (fs : List Frame)
      → w.forward ≡ fs
      → At w turn b reports
      → listens (given_forward still (repeat_forward l) w l fs) ≡ false
      → Then (given_forward still (repeat_forward l) w l fs) turn b reports
  unfolding given_forward begun_after
  repeat_unheard w l [] e s d = stays c repeats (repeat_forward l) refl s
  repeat_unheard w {turn} {b} {reports} l (f ∷ rest) e s d =
      refused_elim (λ (h : receiver.Heard). Then (by_receiver (repeat_forward l) w (to_receiver f) (f ∷ rest) h) turn b reports)
      (λ number. record { stage = rw (further_none b, append-nil w.back, ← e) s })
      (hear_does w.receiver f l) d

  -- a frame of forward that is repeated, where that is allowed
  repeat_forward_lem : (w : World) {turn : Turn} {b : Begun} {reports : List sender.Outcome} (l : List ℕ) → repeats ≡ true
      → At w turn b reports
      → (listens (given_forward still (repeat_forward l) w l w.forward) ≡ true → l ≡ w.buffer)
      → Then (given_forward still (repeat_forward l) w l w.forward) turn b reports
  repeat_forward_lem w {turn} {b} {reports} l may s lent = go _ refl
    where
      x : Stepped
      x = given_forward still (repeat_forward l) w l w.forward

      go : (hears : Bool) → listens x ≡ hears → Then x turn b reports
      go false e = repeat_unheard w l w.forward refl s e
      go true e =
          hear_forward_lem c repeats still may (repeat_forward l) refl l s lent
          (heard_listens x.event.given x.event.receiver e)

  -- what is done to an empty list
  lose_forward_lem : (w : World) {turn : Turn} {b : Begun} {reports : List sender.Outcome} → w.forward ≡ []
      → At w turn b reports
      → Then (unheard lose_forward (with_lines w (dropped w.forward) w.back)) turn b reports
  lose_forward_lem w e s = stays c repeats lose_forward refl (rw (e, ← e) s)

  lose_back_lem : (w : World) {turn : Turn} {b : Begun} {reports : List sender.Outcome} → w.back ≡ []
      → At w turn b reports
      → Then (unheard lose_back (with_lines w w.forward (dropped w.back))) turn b reports
  lose_back_lem w e s = stays c repeats lose_back refl (rw (e, ← e) s)

  repeat_back_lem : (w : World) {turn : Turn} {b : Begun} {reports : List sender.Outcome} → w.back ≡ []
      → At w turn b reports
      → Then (given_back still repeat_back w w.back) turn b reports
  unfolding given_back
  repeat_back_lem w {turn} {b} {reports} e s =
      subst⁻¹ (λ (fs : List Frame). Then (given_back still repeat_back w fs) turn b reports) e (stays c repeats repeat_back refl s)

  -- ---- every call

  abbrev pub Stands : Past → Type 0
  Stands p = At p.world (turn_in p.events) (begun_in p.events) (reports_in p.events)

  pub step : (p : Past) (d : Call) → Stands p
      → Condition p d (step_of p.world d).event
      → Allowed repeats p d (step_of p.world d).event
      → Then (step_of p.world d) (turn_in p.events) (begun_in p.events) (reports_in p.events)
  unfolding step_of
  step p (begin l) s a q = begin_refused p.world _ _ _ s l q
  step p (sender_tick l) s a q = tick_sender p.world _ _ _ s l (λ t. (a t, q t))
  step p receiver_tick s a q = tick_receiver c repeats s q.0 q.1
  step p hold s a q = pause_refused view.hold p.world s q
  step p resume s a q = pause_refused view.resume p.world s (resume_refused s)
  step p (hear_forward l) s a q = hear_forward_lem c repeats gone tt (hear_forward l) refl l s a q
  step p (repeat_forward l) s a q =
      unless_elim repeats q (λ may. repeat_forward_lem p.world l may s a) (λ e. repeat_unheard p.world l
      p.world.forward refl s e)
  step p lose_forward s a q = lose_forward_lem p.world q s
  step p hear_back s a q = hear_back_lem c repeats gone tt hear_back refl s
  step p repeat_back s a q =
      unless_elim repeats q (λ may. hear_back_lem c repeats still may repeat_back refl s) (λ e. repeat_back_lem p.world e s)
  step p lose_back s a q = lose_back_lem p.world q s
