-- Every list of clean calls can be carried on to the report: what is on a line can be heard, and on an empty line one of the
-- ends may tick. Each such call brings the report nearer: fewer ticks are left, or with as many the ends are nearer to the
-- next one.
-- Assumes nothing.
use Prim.Native.Nat.{ℕ, zero, suc, ◌+◌, ◌-◌, ◌*◌, ◌≤◌, ◌<◌}
use mathlib.Core.Bool.{true, false}
use mathlib.Core.Path.{◌≡◌, refl, sym, ap}
use mathlib.Core.List.{List, [], ◌∷◌, ◌++◌}
use native.Mathlib.Omega.{arith}
use native.Mathlib.Nat.{add-zero}
use borrow.Author.Tests.{eq-eqb}
use lib.ListN.{length}
use Rattle.clean.specs.Figures.{figures_for}
use Rattle.frame.specs.Choice.{pick}
use Rattle.frame.specs.declared.Frame.{Frame}
use Rattle.receiver.specs.Hear as hearing
use Rattle.receiver.specs.Tick as ticking
use Rattle.receiver.specs.Told as receiver
use Rattle.receiver.specs.Window.{window_ack}
use Rattle.receiver.specs.declared.Misses.{Misses}
use Rattle.receiver.specs.declared.Settings as receiver-settings
use Rattle.sender.specs.Hear.{hear_of}
use Rattle.sender.specs.Told as sender
use Rattle.sender.specs.Tick.{lent_to, tick_of}
use Rattle.sender.specs.declared.Phase.TheVariants.{Sending}
use Rattle.sender.specs.declared.Settings.{Settings}
use Rattle.sender.specs.declared.Streamed.{Streamed}
use Rattle.delivery.proofs.Clean.{plain, next_stands, not_yet_lem, cleanly, fitting, clean_allowed}
use Rattle.delivery.proofs.CleanReceives.{hears_announcement, hears_accepted, waits_on}
use Rattle.delivery.proofs.CleanSends.{hears_ack, hears_end}
use Rattle.delivery.proofs.CleanStages.{Clear, Paced, Inside, sends_world, end_of_ack, clean_report, none_kept, none_repeated, none_passed, none_answered, Stage, opens, asks, sends, sent, ends, over}
use Rattle.delivery.proofs.CleanSteps.{Stands}
use Rattle.delivery.proofs.Sends.{tick_taken}
use Rattle.delivery.proofs.Stages.{sender_in, frames_of}
use Rattle.delivery.specs.Clean.{Turn, anyone, senders, receivers, turn_in, SenderMayTick, Empty, CleanCall, reports_in, ticks_since, GoesOn, CleanGoesOn}
use Rattle.delivery.specs.Demand3.{Condition}
use Rattle.delivery.specs.Run.{Past, next, run_of}
use Rattle.delivery.specs.Seen.{Begun, since, further, begun_after, begun_in, taken}
use Rattle.transport.specs.Step.{was_refused, emission, given_forward, given_back, step_of}
use Rattle.transport.specs.World.{World, Call, sender_tick, receiver_tick, hear_forward, hear_back}

-- how near the ends are to the sender's next tick: frames are to be heard, or the receiver is to tick
abbrev rank : List Frame → List Frame → Turn → ℕ
rank (f ∷ fs) back turn = 3
rank [] (f ∷ fs) turn = 2
rank [] [] anyone = 0
rank [] [] senders = 0
rank [] [] receivers = 1

rank_heard : (back : List Frame) (turn : Turn) → rank [] back turn ≤ 2
rank_heard [] anyone = omega arith
rank_heard [] senders = omega arith
rank_heard [] receivers = omega arith
rank_heard (f ∷ fs) turn = omega arith

rank_bound : (forward back : List Frame) (turn : Turn) → rank forward back turn ≤ 3
rank_bound (f ∷ fs) back turn = omega arith
rank_bound [] back turn = let h = rank_heard back turn in omega arith

rank_empty : (turn : Turn) → rank [] [] turn ≤ 1
rank_empty anyone = omega arith
rank_empty senders = omega arith
rank_empty receivers = omega arith

module _ {st : Settings} {rs : receiver-settings.Settings} {m : List ℕ} (c : Clear st rs m) where
  -- what to call next, and why it is clean
  data Advice (w : World) (turn : Turn) (b : Begun) (reports : List sender.Outcome) : Type 0 where
    done : reports ≡ clean_report st rs m ∷ [] → Advice w turn b reports
    hear_forward_lem : {f : Frame}
        → w.forward ≡ f ∷ []
        → was_refused (hearing.hear_of w.receiver f w.buffer).told.outcome ≡ false
        → Advice w turn b reports
    hear_back_lem : {f : Frame}
        → w.forward ≡ []
        → w.back ≡ f ∷ []
        → (hear_of w.sender f).emits ≡ false
        → Advice w turn b reports
    tick_receiver : Empty w → turn ≡ receivers → (ticking.tick_of w.receiver).emits ≡ false → Advice w turn b reports
    tick_sender : {ticks : ℕ}
        → Empty w
        → SenderMayTick turn
        → b ≡ since m ticks 0 []
        → ticks < frames_of m * st.gap
        → taken (tick_of w.sender m).outcome ≡ true
        → Advice w turn b reports

  -- a tick that is lent the message is taken
  lent_taken : (x : Streamed) → x.transfer.length ≡ length m → taken (tick_of (sender_in st (Sending x)) m).outcome ≡ true
  unfolding tick_of lent_to pick
  lent_taken x e = rw (eq-eqb (length m) x.transfer.length (sym e)) (tick_taken (sender_in st (Sending x)) (Sending x) m)

  -- a frame of the message is next, and nothing is on the lines: it is an end's turn
  advice_sends : (turn : Turn) {ticks start number last gap wait : ℕ} {misses : Misses} {forward back : List Frame} {buffer : List ℕ}
      → Inside m start number last
      → gap < st.gap
      → Paced turn gap wait
      → ticks + st.gap ≡ number * st.gap + gap
      → forward ≡ []
      → back ≡ []
      → Advice
      (sends_world st rs m ticks start number last gap wait misses forward back buffer)
      turn (since m ticks 0 []) []
  advice_sends anyone i g p t d e = tick_sender (d, e) tt refl (not_yet_lem c false i g t) (lent_taken _ refl)
  advice_sends senders i g p t d e = tick_sender (d, e) tt refl (not_yet_lem c false i g t) (lent_taken _ refl)
  advice_sends receivers {number = number} {last} {gap} {wait} {misses} i g p t d e =
      let patient = c.patient in
      tick_receiver (d, e) refl (ap (λ (a : receiver.Told). a.emits)
      (waits_on rs m number last wait misses (omega arith) c.timeouts))

  advice : {w : World} {turn : Turn} {b : Begun} {reports : List sender.Outcome} → Stage st rs m false w turn b reports
      → Advice w turn b reports
  advice (opens {buffer} size) =
      hear_forward_lem refl
      (ap (λ (h : receiver.Heard). was_refused h.told.outcome)
      (hears_announcement rs m buffer size c.long c.fits c.space))
  advice (asks {number = number} {last} a i f t p q) =
      hear_back_lem (none_passed st rs m p) (ap (λ (fs : List Frame). window_ack number last ∷ fs) (none_answered st rs m q))
      (ap (λ (a : sender.Told). a.emits) (hears_ack st m a i.first i.inside i.final))
  advice (sends {turn} i f g e t p q) = advice_sends turn i g e t (none_passed st rs m p) (none_answered st rs m q)
  advice (sent {number = number} {last} {wait} {misses} {buffer} i f t) =
      let inside = i.inside in
      let final = i.final in
      hear_forward_lem refl (hears_accepted rs m number last wait misses buffer f.size i.first (omega arith))
  advice (ends {ticks} {start} {last} size t u cs) =
      let fits = c.fits in
      hear_back_lem (none_kept st rs m u) (ap (λ (fs : List Frame). end_of_ack st rs m ∷ fs) (none_repeated st rs m cs))
      (ap (λ (a : sender.Told). a.emits) (hears_end st m ticks start (frames_of m) last (omega arith)))
  advice (over _ _ _ _) = done refl

  -- ---- what is left

  -- ticks of the sender first, then what comes before the next one
  abbrev left : World → Turn → Begun → ℕ
  left w turn b = 4 * (frames_of m * st.gap - ticks_since b) + rank w.forward w.back turn

  left_of : Past → ℕ
  left_of p = left p.world (turn_in p.events) (begun_in p.events)

  -- no tick of the sender has passed
  same_ticks : (b : Begun) (n : ℕ) (ds : List (List ℕ)) → ticks_since (further b 0 n ds) ≡ ticks_since b
  same_ticks Begun.never n ds = refl
  same_ticks (since message ticks reports deliveries) n ds = add-zero ticks

  -- a frame has been heard by the receiver
  nearer_forward : (p : Past) {f : Frame} → p.world.forward ≡ f ∷ []
      → left_of (next step_of p (hear_forward p.world.buffer)) < left_of p
  unfolding left_of step_of given_forward turn_in begun_in begun_after
  nearer_forward p {f} e =
      let h = (hearing.hear_of p.world.receiver f p.world.buffer).told in
      let near = rank_heard (p.world.back ++ emission h.emits h.frame) (turn_in p.events) in
      rw (e, same_ticks (begun_in p.events)) (omega arith)

  -- a frame has been heard by the sender, which emits none
  nearer_back : (p : Past) {f : Frame} → p.world.forward ≡ [] → p.world.back ≡ f ∷ []
      → (hear_of p.world.sender f).emits ≡ false
      → left_of (next step_of p hear_back) < left_of p
  unfolding left_of step_of given_back turn_in begun_in begun_after
  nearer_back p {f} d e q =
      let near = rank_empty (turn_in p.events) in
      rw (e, d, q, same_ticks (begun_in p.events)) (omega arith)

  -- the receiver has ticked, which emits nothing
  nearer_receiver : (p : Past) → Empty p.world → turn_in p.events ≡ receivers
      → (ticking.tick_of p.world.receiver).emits ≡ false
      → left_of (next step_of p receiver_tick) < left_of p
  unfolding left_of step_of turn_in begun_in begun_after
  nearer_receiver p (d, e) t q = rw (d, e, t, q, same_ticks (begun_in p.events)) (omega arith)

  -- the sender has ticked in its turn
  rank_turn : (turn : Turn) → SenderMayTick turn → rank [] [] turn ≡ 0
  rank_turn anyone may = refl
  rank_turn senders may = refl
  rank_turn receivers may = absurd may

  nearer_sender : (p : Past) {ticks : ℕ} → Empty p.world → SenderMayTick (turn_in p.events)
      → begun_in p.events ≡ since m ticks 0 []
      → ticks < frames_of m * st.gap
      → taken (tick_of p.world.sender m).outcome ≡ true
      → left_of (next step_of p (sender_tick m)) < left_of p
  unfolding left_of step_of turn_in begun_in begun_after
  nearer_sender p (d, e) may b early t =
      let a = tick_of p.world.sender m in
      let far = rank_bound (emission a.emits a.frame) [] receivers in
      let near = rank_turn (turn_in p.events) may in
      rw (d, e, b, t) (omega arith)

  -- ---- to the report

  abbrev Goes : Past → Type 0
  Goes = GoesOn (figures_for (length m) st.gap) m

  -- one clean call, and then the others
  carried : (p : Past) (d : Call) → Condition p d (step_of p.world d).event → CleanCall p d (step_of p.world d).event
      → Goes (next step_of p d) → Goes p
  unfolding run_of
  carried p d a q rest = record { calls = d ∷ rest.calls; clean = (a, q, rest.clean); reported = rest.reported }

  -- by the advice, where every past that is nearer can be carried on
  follow : (p : Past) → Stands c false p → ((later : Past) → Stands c false later → left_of later < left_of p → Goes later)
      → Advice p.world (turn_in p.events) (begun_in p.events) (reports_in p.events)
      → Goes p
  unfolding figures_for run_of step_of given_forward
  follow p s rest = go
    where
      on : (d : Call) → Condition p d (step_of p.world d).event → CleanCall p d (step_of p.world d).event
          → left_of (next step_of p d) < left_of p
          → Goes p
      on d a q nearer =
          carried p d a q
          (rest (next step_of p d)
          (next_stands c false step_of (plain c false) p d s a (clean_allowed p d _ q)) nearer)

      go : Advice p.world (turn_in p.events) (begun_in p.events) (reports_in p.events) → Goes p
      go (done e) = record { calls = []; clean = tt; reported = e }
      go (hear_forward_lem e q) = on (hear_forward p.world.buffer) (λ _. refl) (rw e q) (nearer_forward p e)
      go (hear_back_lem d e q) = on hear_back tt tt (nearer_back p d e q)
      go (tick_receiver e t q) = on receiver_tick tt (e, rw t tt) (nearer_receiver p e t q)
      go (tick_sender e may b early t) =
          on (sender_tick m) (λ _. rw b (λ _. refl)) (λ _. (e, may)) (nearer_sender p e may b early t)

  finish : (n : ℕ) (p : Past) → Stands c false p → left_of p < n → Goes p
  finish zero p s near = absurd (omega arith)
  finish (suc n) p s near = follow p s (λ later t nearer. finish n later t (omega arith)) (advice s)

pub clean_goes_on : CleanGoesOn
clean_goes_on =
    fitting step_of CleanCall GoesOn
    (cleanly false step_of (λ st rs m c. plain c false) CleanCall clean_allowed GoesOn
    (λ st rs m c p s. finish c (left_of c p + 1) p s (omega arith)))
