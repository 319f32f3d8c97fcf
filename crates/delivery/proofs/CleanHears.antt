-- A hearing leads from a stage of a clean transfer to a stage, whether the frame is taken away or, where that is allowed, kept:
-- what has been heard is ignored, or draws its answer again, which the other end takes as it did before.
-- Assumes nothing.
use Prim.Native.Nat.{ℕ, ◌+◌, ◌-◌, ◌*◌, ◌≤◌, ◌<◌}
use mathlib.Core.Bool.{Bool, true, false, not}
use mathlib.Core.Path.{◌≡◌, refl, ap, ◌∙◌, subst⁻¹}
use mathlib.Core.List.{List, [], ◌∷◌, ◌++◌, append-nil}
use native.Mathlib.Omega.{arith}
use native.Mathlib.Numerals.{add-one}
use native.Mathlib.Nat.{add-zero, suc-mul}
use borrow.Author.Tests.{le-leb, lt-leb, eqb-true, eqb-false}
use lib.Dec.{eqb}
use lib.ListN.{length}
use lib.Seq.{length-paste}
use Rattle.frame.proofs.Laws.{length_fill}
use Rattle.frame.specs.Choice.{pick}
use Rattle.frame.specs.Count.{frame_count_of}
use Rattle.frame.specs.Frames.{carried, fill_to, part_from}
use Rattle.frame.specs.declared.Frame.{Frame}
use Rattle.receiver.proofs.View.{receiver_in}
use Rattle.receiver.specs.Hear as hearing
use Rattle.receiver.specs.Told as receiver
use Rattle.receiver.specs.Window.{window_of, window_ack}
use Rattle.receiver.specs.declared.Misses.{Misses}
use Rattle.receiver.specs.declared.Misses.TheVariants.{NoneAfterAck}
use Rattle.receiver.specs.declared.Phase as receiver-phase
use Rattle.receiver.specs.declared.Phase.TheVariants as at
use Rattle.receiver.specs.declared.Settings as receiver-settings
use Rattle.sender.specs.Hear.{hear_of}
use Rattle.sender.specs.Tick.{information_at}
use Rattle.sender.specs.Told as sender
use Rattle.sender.specs.declared.Phase.{Phase}
use Rattle.sender.specs.declared.Phase.TheVariants.{Idle, Sending}
use Rattle.sender.specs.declared.Settings.{Settings}
use Rattle.delivery.proofs.CleanReceives.{connected, done_phase, stored_in, hears_announcement, hears_announcement_again, hears_passed, hears_delivered, hears_last, hears_window, hears_inside}
use Rattle.delivery.proofs.CleanSends.{announced_phase, streamed, awaited_phase, out_phase, opening, window, again, hears_ack, hears_end, hears_idle}
use Rattle.delivery.proofs.CleanStages as stages
use Rattle.delivery.proofs.CleanStages.{listens, Clear, Paced, Filled, Inside, world_at, announcement, end_of_ack, Kept, kept, Repeated, Passed, announced, informed, Answered, Stage, opens, asks, sends, sent, ends, over, After}
use Rattle.delivery.proofs.Pieces.{next_stored, last_stored}
use Rattle.delivery.proofs.Stages.{sender_in, further_none, frames_of}
use Rattle.delivery.specs.Clean.{Turn, anyone, senders, receivers, reports_of}
use Rattle.delivery.specs.Seen.{sender_reports, deliveries_by, Begun, since, further, begun_after, other, sort_of}
use Rattle.transport.specs.Step.{was_refused, Stepped, unheard, by_sender, by_receiver, Rest, gone, still, leaving, given_forward, given_back}
use Rattle.transport.specs.World.{World, Call, to_receiver, to_sender}

module _ {st : Settings} {rs : receiver-settings.Settings} {m : List ℕ} (c : Clear st rs m) (repeats : Bool) where
  abbrev At : World → Turn → Begun → List sender.Outcome → Type 0
  At = Stage st rs m repeats

  abbrev Then : Stepped → Turn → Begun → List sender.Outcome → Type 0
  Then = After st rs m repeats

  -- ---- what is left of a line

  -- a call may keep the frame that it gives
  abbrev pub MayKeep : Rest → Type 0
  MayKeep gone = Unit
  MayKeep still = repeats ≡ true

  kept_by : (k : Rest) (f : Frame) → MayKeep k → Kept st rs m repeats f (leaving k f [])
  kept_by gone f may = stages.Kept.none
  kept_by still f may = kept may

  repeated_by : (k : Rest) (f : Frame) {fs : List Frame} → MayKeep k → Repeated st rs m repeats f fs
      → Repeated st rs m repeats f (leaving k f fs)
  repeated_by gone f may cs = cs
  repeated_by still f may cs = stages.Repeated.more may cs

  repeated_join : {f : Frame} {fs : List Frame} → repeats ≡ true → Repeated st rs m repeats f fs
      → Repeated st rs m repeats f (fs ++ f ∷ [])
  repeated_join may stages.Repeated.none = stages.Repeated.more may stages.Repeated.none
  repeated_join may (stages.Repeated.more e cs) = stages.Repeated.more e (repeated_join may cs)

  answered_by : (k : Rest) (number last : ℕ) {fs : List Frame} → MayKeep k → Answered st rs m repeats number number last 0 fs
      → Answered st rs m repeats number number last 0 (leaving k (window_ack number last) fs)
  answered_by gone number last may a = a
  answered_by still number last may a = stages.Answered.more may a

  -- a repeat behind the acknowledgements is one of them
  answered_joined : {start number last gap : ℕ} {fs : List Frame} → repeats ≡ true → start ≡ number → gap ≡ 0
      → Answered st rs m repeats start number last gap fs
      → Answered st rs m repeats start number last gap (fs ++ window_ack number last ∷ [])
  answered_joined may same cleared stages.Answered.none = rw (same, cleared) (stages.Answered.more may stages.Answered.none)
  answered_joined may same cleared (stages.Answered.more e a) = stages.Answered.more e (answered_joined may refl refl a)

  answered_join : {number last : ℕ} {fs : List Frame} → repeats ≡ true → Answered st rs m repeats number number last 0 fs
      → Answered st rs m repeats number number last 0 (fs ++ window_ack number last ∷ [])
  answered_join may a = answered_joined may refl refl a

  passed_first : (k : Rest) → MayKeep k → Passed st rs m repeats 1 1 0 (leaving k (announcement st rs m) [])
  passed_first gone may = stages.Passed.none
  passed_first still may = announced may

  passed_next : (k : Rest) {start before gap : ℕ} → MayKeep k → 1 ≤ before
      → Passed st rs m repeats start (before + 1) gap (leaving k (information_at before m) [])
  passed_next gone may low = stages.Passed.none
  passed_next still may low = informed may low

  -- ---- a hearing

  -- the stage after a hearing of the receiver, and of the sender
  receiver_heard : (w : World) (d : Call) (f : Frame) (left : List Frame) (h : receiver.Heard) {turn : Turn}
      {b : Begun} {reports : List sender.Outcome}
      → sort_of d ≡ other
      → At (by_receiver d w (to_receiver f) left h).world turn
      (further b 0 0 (deliveries_by h.told.outcome h.told.bytes h.buffer)) reports
      → Then (by_receiver d w (to_receiver f) left h) turn b reports
  unfolding begun_after
  receiver_heard w d f left h o s = record { stage = rw o s }

  sender_heard : (w : World) (d : Call) (f : Frame) (left : List Frame) (a : sender.Told) {turn : Turn} {b : Begun}
      {reports : List sender.Outcome}
      → sort_of d ≡ other
      → At (by_sender d w (to_sender f) left a).world turn (further b 0 (sender_reports a.outcome) [])
      (reports_of a.outcome ++ reports)
      → Then (by_sender d w (to_sender f) left a) turn b reports
  unfolding begun_after
  sender_heard w d f left a o s = record { stage = rw o s }

  -- no end is called
  pub stays : {w : World} {turn : Turn} {b : Begun} {reports : List sender.Outcome} (d : Call) → sort_of d ≡ other
      → At w turn b reports
      → Then (unheard d w) turn b reports
  unfolding begun_after
  stays {b = b} d o s = record { stage = rw (o, further_none b) s }

  -- ---- numbers

  -- a window that is asked for has a frame and ends inside the message
  window_inside : (number : ℕ) → 1 ≤ number → number ≤ frames_of m
      → Inside m number number (window_of rs number (frames_of m))
  unfolding window_of
  window_inside number low high =
      let some = c.window in
      record { first = low; asked = omega arith; inside = omega arith; final = omega arith }

  some_frames : 1 ≤ frames_of m
  unfolding frame_count_of
  some_frames = let long = c.long in omega arith

  pub few_frames : frames_of m ≤ 255
  unfolding frame_count_of
  few_frames = let fits = c.fits in omega arith

  -- the gap before the frame after this one starts
  next_gap : (number : ℕ) {ticks : ℕ} → ticks ≡ number * st.gap → ticks + st.gap ≡ (number + 1) * st.gap + 0
  next_gap number t = rw (add-one, suc-mul, t, add-zero)

  at_once : (turn : Turn) → Paced turn 0 0
  at_once anyone = omega arith
  at_once senders = omega arith
  at_once receivers = omega arith

  -- one frame more stands in the buffer
  stored_size : (number : ℕ) (buffer : List ℕ) → 1 ≤ number → number ≤ frames_of m → length buffer ≡ 1785
      → length (stored_in m number buffer) ≡ 1785
  unfolding hearing.storing frame_count_of
  stored_size number buffer low high size =
      let fits = c.fits in
      length-paste buffer (7 * (number - 1)) (fill_to 7 (part_from number m)) (carried number (length m)) (omega arith)
      (rw length_fill (omega arith))
      ∙ size

  filled : (number : ℕ) (buffer : List ℕ) → 1 ≤ number → number < frames_of m → Filled m number buffer
      → Filled m (number + 1) (stored_in m number buffer)
  filled number buffer low more f =
      record {
        size = stored_size number buffer low (omega arith) f.size;
        before = next_stored m buffer number f.size c.fits low (omega arith) f.before more;
      }

  -- ---- a hearing of the receiver, which keeps the frame or takes it away

  module _ (k : Rest) (may : MayKeep k) (d : Call) (o : sort_of d ≡ other) where
    -- the receiver's answer to the only frame on forward
    module _ (p : Phase) (q : receiver-phase.Phase) (back : List Frame) (buffer : List ℕ) (f : Frame) where
      abbrev first : World
      first = world_at st rs m p q (f ∷ []) back buffer

      answer : {turn : Turn} {b : Begun} {reports : List sender.Outcome} {h : receiver.Heard} (l : List ℕ)
          → l ≡ buffer
          → hearing.hear_of (receiver_in rs q) f buffer ≡ h
          → At (by_receiver d first (to_receiver f) (leaving k f []) h).world turn
          (further b 0 0 (deliveries_by h.told.outcome h.told.bytes h.buffer)) reports
          → Then (by_receiver d first (to_receiver f) (leaving k f []) (hearing.hear_of (receiver_in rs q) f l)) turn b reports
      answer {turn} {b} {reports} {h} l same e s =
          subst⁻¹ (λ (h : receiver.Heard). Then (by_receiver d first (to_receiver f) (leaving k f []) h) turn b reports)
          (ap (hearing.hear_of (receiver_in rs q) f) same ∙ e)
          (receiver_heard first d f (leaving k f []) h o s)

    -- the frame that is next is on its way
    module _ (ticks start number last wait : ℕ) (misses : Misses) (buffer : List ℕ) (i : Inside m start number last) (f : Filled m number buffer)
        (t : ticks ≡ number * st.gap) (l : List ℕ) (same : l ≡ buffer) where
      abbrev out : Phase
      out = out_phase m ticks start number last

      abbrev at-number : receiver-phase.Phase
      at-number = at.Open (connected m number last wait misses)

      abbrev next_one : Frame
      next_one = information_at number m

      abbrev Answers : Type 0
      Answers =
          Then (by_receiver d (first out at-number [] buffer next_one) (to_receiver next_one) (leaving k next_one [])
          (hearing.hear_of (receiver_in rs at-number) next_one l))
          receivers (since m ticks 0 []) []

      -- it is the message's last
      hears_whole : number ≡ frames_of m → Answers
      unfolding pick
      hears_whole whole =
          let inside = i.inside in
          let final = i.final in
          let size = stored_size (frames_of m) buffer some_frames (omega arith) f.size in
          let at : ticks ≡ frames_of m * st.gap = rw whole at t in
          answer out at-number [] buffer next_one l same (hears_last rs m number last wait misses buffer f.size i.first whole)
          (rw (
            le-leb last number (omega arith),
            add-zero ticks,
            last_stored m buffer number f.size c.fits i.first (omega arith) f.before whole,
            whole,
          )
          (ends size at (kept_by k (information_at (frames_of m) m) may) stages.Repeated.none))

      -- its window's last
      hears_full : number < frames_of m → number ≡ last → Answers
      unfolding pick
      hears_full more full =
          answer out at-number [] buffer next_one l same (hears_window rs m number last wait misses buffer f.size
          i.first more full)
          (rw (le-leb last number (omega arith), add-zero ticks)
          (asks (window i.asked) (window_inside (number + 1) (omega arith) (omega arith))
          (filled number buffer i.first more f)
          (next_gap number t) (passed_next k may i.first) stages.Answered.none))

      -- or another
      hears_part : number < frames_of m → number < last → Answers
      unfolding pick
      hears_part more part =
          let old = i.asked in
          let inner : Inside m start (number + 1) last =
          record { first = omega arith; asked = omega arith; inside = omega arith; final = i.final } in
          answer out at-number [] buffer next_one l same (hears_inside rs m number last wait misses buffer f.size
          i.first more part)
          (rw (lt-leb last number part, add-zero ticks)
          (sends inner (filled number buffer i.first more f) c.gap (at_once receivers) (next_gap number t)
          (passed_next k may i.first) stages.Answered.none))

      hears_out : Answers
      hears_out = go (eqb number (frames_of m)) (eqb number last) refl refl
        where
          go : (whole full : Bool) → eqb number (frames_of m) ≡ whole → eqb number last ≡ full → Answers
          go true full ew ef = hears_whole (eqb-true number (frames_of m) ew)
          go false true ew ef =
              let final = i.final in
              let inside = i.inside in
              hears_full (omega (arith, eqb-false number (frames_of m) ew)) (eqb-true number last ef)
          go false false ew ef =
              let inside = i.inside in
              let final = i.final in
              hears_part (omega (arith, eqb-false number (frames_of m) ew)) (omega (arith, eqb-false number last ef))

    pub hear_forward_lem : {w : World} {turn : Turn} {b : Begun} {reports : List sender.Outcome} (l : List ℕ)
        → At w turn b reports
        → (listens (given_forward k d w l w.forward) ≡ true → l ≡ w.buffer)
        → was_refused (given_forward k d w l w.forward).event.receiver ≡ false
        → Then (given_forward k d w l w.forward) turn b reports
    unfolding given_forward
    hear_forward_lem l (opens {buffer} size) lent fine =
        let on : 0 + st.gap ≡ 1 * st.gap + 0 = omega arith in
        answer (announced_phase m) at.Idle [] buffer (announcement st rs m) l (lent (ap not fine))
        (hears_announcement rs m buffer size c.long c.fits c.space)
        (asks opening (window_inside 1 (omega arith) some_frames) (record { size = size; before = refl }) on (passed_first k may)
        stages.Answered.none)
    hear_forward_lem l (asks a i f t stages.Passed.none q) lent fine = stays d o (asks a i f t stages.Passed.none q)
    hear_forward_lem l (asks {ticks = ticks} {last = last} {p} {back = back} {buffer} a i f t (announced e) q) lent fine =
        answer p (at.Open (connected m 1 last 0 NoneAfterAck)) (window_ack 1 last ∷ back) buffer (announcement st rs m) l (lent (ap not fine))
        (hears_announcement_again rs m last 0 NoneAfterAck buffer f.size c.fits)
        (rw (add-zero ticks) (asks a i f t (passed_first k may) (answered_join e q)))
    hear_forward_lem l (asks {ticks = ticks} {last = last} {p} {back = back} {buffer} a i f t (informed {before = before} e low) q) lent fine =
        let inside = i.inside in
        let final = i.final in
        answer p (at.Open (connected m (before + 1) last 0 NoneAfterAck)) (window_ack (before + 1) last ∷ back) buffer
        (information_at before m) l
        (lent (ap not fine)) (hears_passed rs m before last 0 NoneAfterAck buffer f.size low (omega arith))
        (rw (add-zero ticks, append-nil back) (asks a i f t (passed_next k may low) q))
    hear_forward_lem l (sends i f g e t stages.Passed.none q) lent fine = stays d o (sends i f g e t stages.Passed.none q)
    hear_forward_lem l (sends {ticks = ticks} {last = last} {wait = wait} {misses} {back = back} {buffer} i f g s t (announced e) q) lent fine =
        answer (Sending (streamed m ticks 1 1 last 0)) (at.Open (connected m 1 last wait misses)) back buffer (announcement st rs m) l
        (lent (ap not fine)) (hears_announcement_again rs m last wait misses buffer f.size c.fits)
        (rw (add-zero ticks) (sends i f g s t (passed_first k may) (answered_join e q)))
    hear_forward_lem l (sends {ticks = ticks} {start} {last = last} {gap} {wait} {misses} {back = back} {buffer} i f g s t (informed {before = before} e low) q) lent fine =
        let inside = i.inside in
        let final = i.final in
        answer (Sending (streamed m ticks start (before + 1) last gap)) (at.Open (connected m (before + 1) last wait misses)) back buffer
        (information_at before m) l (lent (ap not fine)) (hears_passed rs m before last wait misses buffer f.size low (omega arith))
        (rw (add-zero ticks, append-nil back) (sends i f g s t (passed_next k may low) q))
    hear_forward_lem l (sent {ticks} {start} {number} {last} {wait} {misses} {buffer} i f t) lent fine =
        hears_out ticks start number last wait misses buffer i f t l (lent (ap not fine))
    hear_forward_lem l (ends size t stages.Kept.none cs) lent fine = stays d o (ends size t stages.Kept.none cs)
    hear_forward_lem l (ends {ticks} {start} {last} {back = back} {buffer} size t (kept e) cs) lent fine =
        answer (awaited_phase m ticks start (frames_of m) last) (done_phase m) (end_of_ack st rs m ∷ back) buffer
        (information_at (frames_of m) m) l (lent (ap not fine)) (hears_delivered rs m buffer size some_frames)
        (rw (add-zero ticks) (ends size t (kept_by k (information_at (frames_of m) m) may) (repeated_join e cs)))
    hear_forward_lem l (over size t stages.Kept.none cs) lent fine = stays d o (over size t stages.Kept.none cs)
    hear_forward_lem l (over {ticks = ticks} {back = back} {buffer} size t (kept e) cs) lent fine =
        answer Idle (done_phase m) back buffer (information_at (frames_of m) m) l (lent (ap not fine))
        (hears_delivered rs m buffer size some_frames)
        (rw (add-zero ticks) (over size t (kept_by k (information_at (frames_of m) m) may) (repeated_join e cs)))

    -- ---- a hearing of the sender, which keeps the frame or takes it away

    -- the sender's answer to the first frame on back
    module _ (p : Phase) (q : receiver-phase.Phase) (forward back : List Frame) (buffer : List ℕ) (f : Frame) where
      abbrev behind : World
      behind = world_at st rs m p q forward (f ∷ back) buffer

      reply : {turn : Turn} {b : Begun} {reports : List sender.Outcome} {a : sender.Told}
          → hear_of (sender_in st p) f ≡ a
          → At (by_sender d behind (to_sender f) (leaving k f back) a).world turn (further b 0 (sender_reports a.outcome) [])
          (reports_of a.outcome ++ reports)
          → Then (by_sender d behind (to_sender f) (leaving k f back) (hear_of (sender_in st p) f)) turn b reports
      reply {turn} {b} {reports} {a} e s =
          subst⁻¹ (λ (a : sender.Told). Then (by_sender d behind (to_sender f) (leaving k f back) a) turn b reports) e
          (sender_heard behind d f (leaving k f back) a o s)

    pub hear_back_lem : {w : World} {turn : Turn} {b : Begun} {reports : List sender.Outcome}
        → At w turn b reports
        → Then (given_back k d w w.back) turn b reports
    unfolding given_back
    hear_back_lem (opens size) = stays d o (opens size)
    hear_back_lem (asks {turn} {ticks} {number} {last} {p} {forward} {back} {buffer} a i f t u q) =
        reply p (at.Open (connected m number last 0 NoneAfterAck)) forward back buffer (window_ack number last)
        (hears_ack st m a i.first i.inside i.final)
        (rw (add-zero ticks, append-nil forward)
        (sends i f c.gap (at_once turn) t u (answered_by k number last may q)))
    hear_back_lem (sends i f g s t u stages.Answered.none) = stays d o (sends i f g s t u stages.Answered.none)
    hear_back_lem (sends {ticks = ticks} {number = number} {last} {wait = wait} {misses} {forward} {buffer = buffer} i f g s t u (stages.Answered.more {fs = back} e q)) =
        reply (Sending (streamed m ticks number number last 0)) (at.Open (connected m number last wait misses)) forward back buffer
        (window_ack number last)
        (hears_ack st m (again {turn = anyone}) i.first i.inside i.final)
        (rw (add-zero ticks, append-nil forward) (sends i f g s t u (answered_by k number last may q)))
    hear_back_lem (sent i f t) = stays d o (sent i f t)
    hear_back_lem (ends {ticks} {start} {last} {forward} {back} {buffer} size t u cs) =
        let fits = c.fits in
        let there : frames_of m * st.gap ≤ frames_of m * st.gap = omega arith in
        reply (awaited_phase m ticks start (frames_of m) last) (done_phase m) forward back buffer (end_of_ack st rs m)
        (hears_end st m ticks start (frames_of m) last (omega arith))
        (rw (add-zero ticks, append-nil forward, t) (over size there u (repeated_by k (end_of_ack st rs m) may cs)))
    hear_back_lem (over size t u stages.Repeated.none) = stays d o (over size t u stages.Repeated.none)
    hear_back_lem (over {ticks = ticks} {forward = forward} {buffer = buffer} size t u (stages.Repeated.more {fs = back} e cs)) =
        reply Idle (done_phase m) forward back buffer (end_of_ack st rs m) (hears_idle st m)
        (rw (add-zero ticks, append-nil forward) (over size t u (repeated_by k (end_of_ack st rs m) may cs)))
