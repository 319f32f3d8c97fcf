-- A pack's clean events are clean calls after its begin, so what E1 promises holds of its run. A call in which the sender says
-- sent emits nothing, so the report's line is all that is printed of it; the run is cut there.
-- Assumes nothing.
use Prim.Native.Nat.{ℕ, suc}
use mathlib.Core.List.{List, [], ◌∷◌, ◌++◌, append-nil}
use mathlib.Core.Logic.{◌⊎◌, inl, inr, ⊎_elim}
use mathlib.Core.Path.{◌≡◌, refl, ap, subst, ◌∙◌}
use native.Mathlib.Nat.{zero-add}
use native.Mathlib.Omega.{arith}
use lib.ListN.{length, replicate}
use Rattle.clean.specs.declared.Figures.{Figures}
use Rattle.delivery.proofs.Clean.{capped_clean}
use Rattle.delivery.specs.Clean.{CleanPromise, AtMostOnce, not_yet, once, sent_with, reports_of, reports_in}
use Rattle.delivery.specs.Run.{run_of}
use Rattle.frame.specs.Result.{accepted}
use Rattle.frame.specs.declared.Frame.{Frame}
use Rattle.pack.specs.Pack.{message_of, events_of}
use Rattle.player.proofs.Keeps.{same_run}
use Rattle.player.proofs.Opened.{opened}
use Rattle.player.proofs.Steps.{text_parts}
use Rattle.player.specs.Claim.{newest_first}
use Rattle.player.specs.Clean.{begun_of, clean_figures, past_of, PackClean, ReportedOnce, text_around, PrintsOnce, PrintsClean}
use Rattle.player.specs.Events.{call_for, turn_for, events_from, run_from, calls_for}
use Rattle.player.specs.Played as playing
use Rattle.player.specs.Played.{open_of, played_opened, played, start}
use Rattle.player.specs.Text.{frames_text, event_text, text_of}
use Rattle.player.specs.declared.Player.{Player}
use Rattle.receiver.specs.Told as receiver
use Rattle.sender.specs.Told as sender
use Rattle.sender.specs.declared.Sender.{Sender}
use Rattle.text.specs.Text.{sent_line, sender_report, receiver_report}
use Rattle.transport.proofs.Forms.{Forms, begin_tells, tick_tells, hear_tells}
use Rattle.transport.proofs.Making.{make_answers}
use Rattle.transport.specs.Capped.{capped_step}
use Rattle.transport.specs.Step.{emission, Rest, given_forward, given_back, step_of}
use Rattle.transport.specs.World.{World, Call, begin, sender_tick, receiver_tick, hold, resume, hear_forward, repeat_forward, lose_forward, hear_back, repeat_back, lose_back, Event}

-- ---- what E1 promises

pub pack_clean : PackClean
unfolding playing.run_of run_from run_of newest_first
pack_clean bytes q opens c =
    let k = q.bodies.settings in
    let made = make_answers k.gap k.timeout k.limit k.patience k.window k.capacity q.ends
    (opened bytes q opens).made in
    let m = message_of bytes q.bodies in
    let events = events_of bytes q.bodies in
    let p = begun_of bytes q in
    subst (CleanPromise (clean_figures bytes q) m) (same_run m events p)
    (capped_clean k.gap k.timeout k.limit q.ends.sender made.sender k.patience k.window
    k.capacity q.ends.receiver made.receiver (replicate 1785 0) refl m c.fits (calls_for p.world m events) c.events)

-- ---- the line of a report

-- where the sender says sent, no frame goes out and the receiver is not called
abbrev Alone : sender.Outcome → List Frame → receiver.Outcome → Type 0
Alone o emitted r = (ticks frames : ℕ) → o ≡ sender.sent ticks frames → (emitted ≡ []) × (r ≡ receiver.quiet)

abbrev AloneTold : sender.Told → Type 0
AloneTold t = Alone t.outcome (emission t.emits t.frame) receiver.quiet

abbrev AloneEvent : Event → Type 0
AloneEvent e = Alone e.sender e.emitted e.receiver

alone_told : (s : Sender) → Forms AloneTold s
alone_told s =
    record {
      refuses = λ _ _ _ e. (refl, refl);
      rests = λ _ _ _ e. (refl, refl);
      emits = λ _ _ _ _ _ e. (cc, refl);
      fails = λ _ _ _ _ e. (cc, refl);
      ends = λ _ _ _ _ e. (refl, refl);
      finishes = λ _ _ _ e. (refl, refl);
    }

alone_forward : (k : Rest) (c : Call) (w : World) (b : List ℕ) (fs : List Frame) → AloneEvent (given_forward k c w b fs).event
unfolding given_forward
alone_forward k c w b [] ticks frames e = (refl, refl)
alone_forward k c w b (f ∷ fs) ticks frames e = (cc, cc)

alone_back : (k : Rest) (c : Call) (w : World) (fs : List Frame) → AloneEvent (given_back k c w fs).event
unfolding given_back
alone_back k c w [] = λ _ _ e. (refl, refl)
alone_back k c w (f ∷ fs) = hear_tells AloneTold w.sender (alone_told w.sender) f

alone_call : (w : World) (c : Call) → AloneEvent (capped_step w c).event
unfolding capped_step step_of
alone_call w (begin m) = begin_tells AloneTold w.sender (alone_told w.sender) m
alone_call w (sender_tick m) = tick_tells AloneTold w.sender (alone_told w.sender) m
alone_call w receiver_tick = λ _ _ e. (cc, cc)
alone_call w hold = λ _ _ e. (cc, cc)
alone_call w resume = λ _ _ e. (cc, cc)
alone_call w (hear_forward b) = alone_forward _ _ w b w.forward
alone_call w (repeat_forward b) = alone_forward _ _ w b w.forward
alone_call w lose_forward = λ _ _ e. (refl, refl)
alone_call w hear_back = alone_back _ _ w w.back
alone_call w repeat_back = alone_back _ _ w w.back
alone_call w lose_back = λ _ _ e. (refl, refl)

report_line : (f : Figures) (number : ℕ) (e : Event) → e.sender ≡ sent_with f → AloneEvent e
    → event_text number e ≡ sent_line number f.ticks f.frames
unfolding event_text frames_text sender_report receiver_report
report_line f number e s alone =
    let a = alone f.ticks f.frames s in
    rw (a.0, a.1, s) (append-nil _)

abbrev AllAlone : List Event → Type 0
AllAlone [] = Unit
AllAlone (e ∷ es) = AloneEvent e × AllAlone es

alone_at : (earlier later : List Event) (e : Event) → AllAlone (earlier ++ (e ∷ later)) → AloneEvent e
alone_at [] later e a = a.0
alone_at (_ ∷ earlier) later e a = alone_at earlier later e a.1

alone_events : (w : World) (m events : List ℕ) → AllAlone (events_from w m events)
unfolding events_from turn_for
alone_events w m [] = tt
alone_events w m (event ∷ events) = (
  alone_call w (call_for w m event),
  alone_events (turn_for w m event).world m events,
)

alone_run : (bytes : List ℕ) (q : Player) → AllAlone (playing.run_of bytes q)
unfolding playing.run_of run_from
alone_run bytes q =
    (alone_call (start q.ends) (begin (message_of bytes q.bodies)), alone_events _ _ (events_of bytes q.bodies))

text_cut : (bytes : List ℕ) (q : Player) → open_of bytes ≡ accepted q → (earlier later : List Event) (e : Event)
    → playing.run_of bytes q ≡ earlier ++ (e ∷ later)
    → played bytes ≡ text_of 0 earlier ++ (event_text (length earlier) e ++ text_of (suc (length earlier)) later)
unfolding played played_opened text_of
text_cut bytes q opens earlier later e parts =
    rw (opens, parts) (text_parts 0 earlier (e ∷ later) ∙ rw zero-add refl)

-- so where the sender reports once, and sent, its line is printed
pub prints_report : (f : Figures) (bytes : List ℕ) (q : Player) → open_of bytes ≡ accepted q
    → (r : ReportedOnce (sent_with f) (playing.run_of bytes q))
    → played bytes ≡ text_around f r
prints_report f bytes q opens r =
    let alone = alone_at r.earlier r.later r.event (subst AllAlone r.parts (alone_run bytes q)) in
    text_cut bytes q opens r.earlier r.later r.event r.parts
    ∙ rw (report_line f (length r.earlier) r.event r.reported alone) refl

-- ---- the run, cut at the report

-- an event has no report, or its own
own_report : (o : sender.Outcome) → (reports_of o ≡ []) ⊎ (reports_of o ≡ o ∷ [])
own_report sender.quiet = inl refl
own_report (sender.refused number) = inl refl
own_report (sender.sent ticks frames) = inr refl
own_report (sender.failed cause ticks frames) = inr refl

both_none : (k l : List sender.Outcome) → k ++ l ≡ [] → (k ≡ []) × (l ≡ [])
both_none [] l e = (refl, e)
both_none (o ∷ k) l e = (cc, cc)

-- no report: none before the run and none in it
none_in : (past run : List Event) → reports_in (newest_first past run) ≡ [] → (reports_in past ≡ []) × (reports_in run ≡ [])
unfolding newest_first reports_in
none_in past [] none = (none, refl)
none_in past (e ∷ run) none =
    let n = none_in (e ∷ past) run none in
    let k = both_none (reports_of e.sender) (reports_in past) n.0 in
    (k.1, rw (k.0, n.1) refl)

-- one report: in the run, or before it
abbrev OneIn : sender.Outcome → List Event → List Event → Type 0
OneIn o past run = ((reports_in past ≡ []) × ReportedOnce o run) ⊎ ((reports_in past ≡ o ∷ []) × (reports_in run ≡ []))

one_later : (o : sender.Outcome) (e : Event) (past run : List Event) → reports_in (e ∷ past) ≡ [] → ReportedOnce o run
    → OneIn o past (e ∷ run)
unfolding reports_in
one_later o e past run none r =
    let k = both_none (reports_of e.sender) (reports_in past) none in
    inl (
      k.1,
      record {
        earlier = e ∷ r.earlier;
        event = r.event;
        later = r.later;
        parts = ap (λ (l : List Event). e ∷ l) r.parts;
        reported = r.reported;
        none_earlier = rw k.0 r.none_earlier;
        none_later = r.none_later;
      },
    )

one_now : (o : sender.Outcome) (e : Event) (past run : List Event) → reports_in (e ∷ past) ≡ o ∷ [] → reports_in run ≡ []
    → OneIn o past (e ∷ run)
unfolding reports_in
one_now o e past run one none =
    ⊎_elim (λ no. inr (rw no at one, rw none (append-nil _ ∙ no)))
    (λ its.
    let here : e.sender ∷ reports_in past ≡ o ∷ [] = rw its at one in
    inl (
      cc,
      record {
        earlier = [];
        event = e;
        later = run;
        parts = refl;
        reported = cc;
        none_earlier = refl;
        none_later = none;
      },
    ))
    (own_report e.sender)

one_in : (o : sender.Outcome) (past run : List Event) → reports_in (newest_first past run) ≡ o ∷ [] → OneIn o past run
unfolding newest_first reports_in
one_in o past [] one = inr (one, refl)
one_in o past (e ∷ run) one =
    ⊎_elim (λ k. one_later o e past run k.0 k.1) (λ k. one_now o e past run k.0 k.1)
    (one_in o (e ∷ past) run one)

cut : (o : sender.Outcome) (run : List Event) → reports_in (newest_first [] run) ≡ o ∷ [] → ReportedOnce o run
unfolding reports_in
cut o run one =
    ⊎_elim (λ k. k.1) (λ k. let e = k.0 in let z : ◌≡◌ {A = ℕ} 0 1 = cc in absurd (omega arith)) (one_in o [] run one)

-- ---- what is printed

prints_once : (f : Figures) (bytes : List ℕ) (q : Player) → open_of bytes ≡ accepted q
    → reports_in (past_of bytes q).events ≡ sent_with f ∷ []
    → PrintsOnce f bytes q
prints_once f bytes q opens one =
    let r = cut (sent_with f) (playing.run_of bytes q) one in
    record { report = r; printed = prints_report f bytes q opens r }

none_or_once : (f : Figures) (bytes : List ℕ) (q : Player) → open_of bytes ≡ accepted q
    → (reports : List sender.Outcome) → reports_in (past_of bytes q).events ≡ reports
    → AtMostOnce (sent_with f) reports
    → (reports_in (playing.run_of bytes q) ≡ []) ⊎ PrintsOnce f bytes q
none_or_once f bytes q opens _ e not_yet = inl (none_in [] (playing.run_of bytes q) e).1
none_or_once f bytes q opens _ e once = inr (prints_once f bytes q opens e)

pub prints_clean : PrintsClean
prints_clean bytes q opens c =
    let f = clean_figures bytes q in
    let p = pack_clean bytes q opens c in (
      none_or_once f bytes q opens _ refl p.one,
      λ done. prints_once f bytes q opens (p.there done.ticks done.heard),
    )
