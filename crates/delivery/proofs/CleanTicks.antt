-- A tick leads from a stage of a clean transfer to a stage: the wait and the gap grow, or the next frame goes out.
-- Assumes nothing.
use Prim.Native.Nat.{ℕ, ◌+◌, ◌*◌, ◌≤◌, ◌<◌}
use mathlib.Core.Bool.{Bool, true, false}
use mathlib.Core.Path.{◌≡◌, refl, subst⁻¹}
use mathlib.Core.List.{List, [], append-nil, cons≢nil}
use native.Mathlib.Omega.{arith}
use native.Mathlib.Nat.{add-zero, mul-le-mul_right}
use borrow.Author.Tests.{leb-true, leb-false}
use lib.Dec.{leb}
use Rattle.frame.specs.Choice.{pick}
use Rattle.receiver.specs.Tick as ticking
use Rattle.receiver.specs.Told as receiver
use Rattle.receiver.specs.declared.Misses.{Misses}
use Rattle.receiver.specs.declared.Settings as receiver-settings
use Rattle.sender.specs.Tick.{tick_phase, lent_to, tick_of}
use Rattle.sender.specs.Told as sender
use Rattle.sender.specs.declared.Settings.{Settings}
use Rattle.delivery.proofs.CleanReceives.{waits_on}
use Rattle.delivery.proofs.CleanSends.{ticks_on, ticks_frame}
use Rattle.delivery.proofs.CleanStages as stages
use Rattle.delivery.proofs.CleanStages.{Clear, Paced, Filled, Inside, sends_world, Passed, announced, informed, Answered, Stage, opens, asks, sends, sent, ends, over, After}
use Rattle.delivery.proofs.Stages.{frames_of}
use Rattle.delivery.specs.Clean.{Turn, anyone, senders, receivers, ReceiverMayTick, Empty}
use Rattle.delivery.specs.Demand3.{LentMessage}
use Rattle.delivery.specs.Seen.{Begun, since, begun_after}
use Rattle.transport.specs.Step.{Stepped, by_sender, by_receiver, step_of}
use Rattle.transport.specs.World.{World, nobody, sender_tick, receiver_tick}
use Rattle.delivery.proofs.CleanHears.{few_frames}

module _ {st : Settings} {rs : receiver-settings.Settings} {m : List ℕ} (c : Clear st rs m) (repeats : Bool) where
  abbrev At : World → Turn → Begun → List sender.Outcome → Type 0
  At = Stage st rs m repeats

  abbrev Then : Stepped → Turn → Begun → List sender.Outcome → Type 0
  Then = After st rs m repeats

  -- ---- ticks: where both lines are empty, nothing that was heard is left on them

  -- the receiver's, while it waits for a frame
  waits : {turn : Turn} {ticks start number last gap wait : ℕ} (misses : Misses) {buffer : List ℕ}
      → Inside m start number last
      → Filled m number buffer
      → gap < st.gap
      → wait ≤ gap
      → ticks + st.gap ≡ number * st.gap + gap
      → (let w = sends_world st rs m ticks start number last gap wait misses [] [] buffer in
      Then (by_receiver receiver_tick w nobody [] (receiver.heard (ticking.tick_of w.receiver) buffer)) turn
      (since m ticks 0 []) [])
  unfolding begun_after
  waits {turn} {ticks} {start} {number} {last} {gap} {wait} misses {buffer} i f g p t =
      let w = sends_world st rs m ticks start number last gap wait misses [] [] buffer in
      let patient = c.patient in
      let longer : wait + 1 ≤ gap + 1 = omega arith in
      subst⁻¹ (λ (a : receiver.Told). Then (by_receiver receiver_tick w nobody [] (receiver.heard a buffer)) turn
      (since m ticks 0 []) [])
      (waits_on rs m number last wait misses (omega arith) c.timeouts)
      (record { stage = rw (add-zero ticks) (sends i f g longer t stages.Passed.none stages.Answered.none) })

  in_turn : (turn : Turn) {gap wait : ℕ} → ReceiverMayTick turn → Paced turn gap wait → wait ≤ gap
  in_turn anyone may p = p
  in_turn senders may p = absurd may
  in_turn receivers may p = p

  pub tick_receiver : {w : World} {turn : Turn} {b : Begun} {reports : List sender.Outcome}
      → At w turn b reports
      → Empty w
      → ReceiverMayTick turn
      → Then (step_of w receiver_tick) turn b reports
  unfolding step_of begun_after ticking.tick_of ticking.tick_phase
  tick_receiver (opens size) (e, _) may = absurd (cons≢nil e)
  tick_receiver (asks a i f t p q) (_, e) may = absurd (cons≢nil e)
  tick_receiver (sends {turn} {misses = misses} i f g p t stages.Passed.none stages.Answered.none) e may = waits misses i f g (in_turn turn may p) t
  tick_receiver (sends i f g p t (announced _) q) (e, _) may = absurd (cons≢nil e)
  tick_receiver (sends i f g p t (informed _ _) q) (e, _) may = absurd (cons≢nil e)
  tick_receiver (sends i f g p t stages.Passed.none (stages.Answered.more _ _)) (_, e) may = absurd (cons≢nil e)
  tick_receiver (sent i f t) (e, _) may = absurd (cons≢nil e)
  tick_receiver (ends size t u cs) (_, e) may = absurd (cons≢nil e)
  tick_receiver (over {ticks = ticks} {back = back} size t u cs) e may = record { stage = rw (add-zero ticks, append-nil back) (over size t u cs) }

  -- the sender's: the gap grows, or the frame goes out
  a_tick_longer : (turn : Turn) (gap wait : ℕ) → Paced turn gap wait → wait ≤ gap + 1
  a_tick_longer anyone gap wait p = omega arith
  a_tick_longer senders gap wait p = p
  a_tick_longer receivers gap wait p = omega arith

  streams : {turn : Turn} {ticks start number last gap wait : ℕ} (misses : Misses) {buffer : List ℕ}
      → Inside m start number last
      → Filled m number buffer
      → gap < st.gap
      → wait ≤ gap + 1
      → ticks + st.gap ≡ number * st.gap + gap
      → (let w = sends_world st rs m ticks start number last gap wait misses [] [] buffer in
      Then (by_sender (sender_tick m) w nobody [] (tick_of w.sender m)) turn (since m ticks 0 []) [])
  unfolding begun_after
  streams {turn} {ticks} {start} {number} {last} {gap} {wait} misses {buffer} i f g p t = go (leb st.gap (gap + 1)) refl
    where
      w : World
      w = sends_world st rs m ticks start number last gap wait misses [] [] buffer

      Told : sender.Told → Type 0
      Told a = Then (by_sender (sender_tick m) w nobody [] a) turn (since m ticks 0 []) []

      early : ticks + 1 < st.limit
      early =
          let final = i.final in
          let inside = i.inside in
          let within : number ≤ frames_of m = omega arith in
          let below = mul-le-mul_right st.gap within in
          let time = c.in_time in
          omega arith

      go : (due : Bool) → leb st.gap (gap + 1) ≡ due → Told (tick_of w.sender m)
      go true e =
          let h = leb-true st.gap (gap + 1) e in
          let at : gap + 1 ≡ st.gap = omega arith in
          let sum : ticks + 1 ≡ number * st.gap = omega arith in
          let gaps = c.gaps in
          let final = i.final in
          let inside = i.inside in
          let few = few_frames c repeats in
          subst⁻¹ Told (ticks_frame st m c.limits ticks start number last gap early at (omega arith) (omega arith))
          (record { stage = sent i f sum })
      go false e =
          let h = leb-false st.gap (gap + 1) e in
          let gaps = c.gaps in
          let sum : ticks + 1 + st.gap ≡ number * st.gap + (gap + 1) = omega arith in
          subst⁻¹ Told (ticks_on st m c.limits ticks start number last gap early h (omega arith))
          (record { stage = sends i f h p sum stages.Passed.none stages.Answered.none })

  -- a tick that is not refused
  pub tick_lent : {w : World} {turn : Turn} {b : Begun} {reports : List sender.Outcome} (l : List ℕ)
      → At w turn b reports
      → LentMessage b l
      → Empty w
      → Then (by_sender (sender_tick l) w nobody w.back (tick_of w.sender l)) turn b reports
  unfolding begun_after tick_of lent_to tick_phase pick
  tick_lent l (opens size) lent (e, _) = absurd (cons≢nil e)
  tick_lent l (asks a i f t p q) lent (_, e) = absurd (cons≢nil e)
  tick_lent l (sends {turn} {ticks} {start} {number} {last} {gap} {wait} {misses} {buffer = buffer} i f g p t stages.Passed.none stages.Answered.none) lent e =
      let w = sends_world st rs m ticks start number last gap wait misses [] [] buffer in
      subst⁻¹ (λ (l : List ℕ). Then (by_sender (sender_tick l) w nobody [] (tick_of w.sender l)) turn (since m ticks 0 []) [])
      (lent refl)
      (streams misses i f g (a_tick_longer turn gap wait p) t)
  tick_lent l (sends i f g p t (announced _) q) lent (e, _) = absurd (cons≢nil e)
  tick_lent l (sends i f g p t (informed _ _) q) lent (e, _) = absurd (cons≢nil e)
  tick_lent l (sends i f g p t stages.Passed.none (stages.Answered.more _ _)) lent (_, e) = absurd (cons≢nil e)
  tick_lent l (sent i f t) lent (e, _) = absurd (cons≢nil e)
  tick_lent l (ends size t u cs) lent (_, e) = absurd (cons≢nil e)
  tick_lent l (over {ticks = ticks} {forward = forward} size t u cs) lent e =
      let later : frames_of m * st.gap ≤ ticks + 1 = omega arith in
      record { stage = rw (append-nil forward) (over size later u cs) }
