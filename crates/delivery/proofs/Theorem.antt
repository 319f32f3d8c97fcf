-- Demand 3. What the calls keep (`Lives`) and the receiver's time (`Timing`) hold from the start on, along every list of
-- calls that meets the conditions, and the promise is read off them. Demand 3 and the claim without an idle receiver
-- (`WhileOpen`) are two readings of one theorem: in the one no begin finds a connection open, in the other (Lax) no hold is
-- accepted.
use Prim.Native.Nat.{ℕ, ◌≤◌}
use mathlib.Core.Bool.{Bool, true, false, false≢true, ◌&&◌}
use mathlib.Core.Logic.{◌⊎◌, inl, inr}
use mathlib.Core.List.{List, [], ◌∷◌}
use mathlib.Core.Path.{◌≡◌, refl, subst}
use native.Mathlib.Omega.{arith}
use borrow.Author.Tests.{leb-true}
use lib.Dec.{leb}
use Rattle.frame.specs.Result.{accepted, refused}
use Rattle.frame.specs.Choice.{pick}
use Rattle.frame.specs.declared.Frame.{Frame}
use Rattle.receiver.specs.Make as receiver-making
use Rattle.receiver.specs.Told as receiver
use Rattle.receiver.specs.declared.Phase as receiver-phase
use Rattle.receiver.specs.declared.Phase.TheVariants as at
use Rattle.receiver.specs.declared.Receiver.{Receiver}
use Rattle.receiver.specs.declared.Settings as receiver-settings
use Rattle.sender.specs.Make as sender-making
use Rattle.sender.specs.Told as sender
use Rattle.sender.specs.declared.Phase.TheVariants.{Idle}
use Rattle.sender.specs.declared.Sender.{Sender}
use Rattle.sender.specs.declared.Settings.{Settings}
use Rattle.frame.proofs.Choice.{pick_elim, both_left, both_right}
use Rattle.delivery.proofs.Lives.{Stands, Acted, Received, tick_live, hear_live, begin_live, receiver_tick_live, receiver_pause_live, receiver_hear_live, lose_forward_live, lose_back_live, idle_live}
use Rattle.receiver.proofs.View as view
use Rattle.receiver.proofs.View.{receiver_in, Shut}
use Rattle.delivery.proofs.Stages.{sender_in, Live, resting, long, short}
use Rattle.delivery.proofs.Timing.{Timed, before, between, during, Listened, timed_later, tick_timed, pause_timed, hear_timed, in_time_lem, in_time_unheld, latest_under}
use Rattle.delivery.specs.WhileOpen.{LineCondition, LineConditions, Demand3WhileOpen}
use Rattle.delivery.specs.Demand3.{Condition, Conditions, Reported, Finished, NeverHeld, Unheld, Sent, Again, Promise, Demand3}
use Rattle.delivery.specs.Run.{Past, fresh, next, run_of}
use Rattle.delivery.specs.Seen.{taken, Begun, Opened, further, begun_after, begun_in, later, idle, opened_after, opened_in, receiver_ticks_by, receiver_reports, pauses_by, listened, holds_receiver, other, sort_of}
use Rattle.transport.specs.Step.{Stepped, unheard, by_sender, by_receiver, was_refused, Rest, gone, still, leaving, given_forward, given_back, step_of}
use Rattle.transport.specs.World.{World, Call, begin, sender_tick, receiver_tick, hold, resume, hear_forward, repeat_forward, lose_forward, hear_back, repeat_back, lose_back, Event, to_sender, to_receiver}

-- what holds of the world and the events after every call
record Holds (Lax : Type 0) (st : Settings) (rs : receiver-settings.Settings) (w : World) (events : List Event) : Type 0 where
  live : Live Lax st w.sender w.receiver w.forward w.back w.buffer (begun_in events)
  timed : Timed rs w.receiver (opened_in events)
  sent : Sent events
  again : Again events
  unheld : Lax → NeverHeld (opened_in events)

-- an event without an accepted hold
pub unheld_after : (e : Event) (o : Opened) → pauses_by (sort_of e.call) e.receiver ≡ 0 → NeverHeld o
    → NeverHeld (opened_after e o)
unfolding opened_after
unheld_after e o none h = pick_elim NeverHeld _ (λ _. refl) (λ _. go o h)
  where
    go : (o : Opened) → NeverHeld o
        → NeverHeld (later o (receiver_ticks_by (sort_of e.call)) (receiver_reports e.receiver) (pauses_by (sort_of e.call) e.receiver))
    go Opened.never h = tt
    go (Opened.since frames ticks reports pauses) h = rw (none, h) refl

module _ (Lax : Type 0) (st : Settings) (rs : receiver-settings.Settings) (events : List Event) where
  abbrev After : Stepped → Type 0
  After x = Holds Lax st rs x.world (x.event ∷ events)

  -- what is known of the holds, after a call that is none or was refused
  on : (x : Stepped) → (Lax → pauses_by (sort_of x.event.call) x.event.receiver ≡ 0)
      → (Lax → NeverHeld (opened_in events))
      → Lax → NeverHeld (opened_in (x.event ∷ events))
  unfolding opened_in
  on x none u lax = unheld_after x.event (opened_in events) (none lax) (u lax)

  -- a call that is no call of an end
  none_called : (c : Call) (w : World) → sort_of c ≡ other
      → Live Lax st w.sender w.receiver w.forward w.back w.buffer (further (begun_in events) 0 0 [])
      → Timed rs w.receiver (opened_in events)
      → (Lax → NeverHeld (opened_in events))
      → After (unheard c w)
  unfolding begun_in begun_after opened_in opened_after pick
  none_called c w o l t u =
      record { live = rw o l; timed = rw o (timed_later t); sent = tt; again = rw o tt; unheld = on (unheard c w) (λ _. rw o refl) u }

  -- a hearing of the sender
  sender_heard : (c : Call) (w : World) (left : List Frame) (f : Frame) {a : sender.Told} → sort_of c ≡ other
      → Acted Lax st w.receiver w.forward left w.buffer (begun_in events) (λ _. 0) a
      → Timed rs w.receiver (opened_in events)
      → (Lax → NeverHeld (opened_in events))
      → After (by_sender c w (to_sender f) left a)
  unfolding begun_in begun_after opened_in opened_after pick
  sender_heard c w left f {a} o k t u =
      record {
        live = rw o k.live;
        timed = rw o (timed_later t);
        sent = rw o k.sent;
        again = rw o tt;
        unheld = on (by_sender c w (to_sender f) left a) (λ _. rw o refl) u;
      }

  -- a hearing of the receiver
  receiver_heard : (c : Call) (w : World) (left : List Frame) (f : Frame) {h : receiver.Heard} → sort_of c ≡ other
      → Received Lax st w.sender left w.back w.buffer (begun_in events) h
      → Listened rs (opened_in events) f h.told
      → (Lax → NeverHeld (opened_in events))
      → After (by_receiver c w (to_receiver f) left h)
  unfolding begun_in begun_after opened_in opened_after
  receiver_heard c w left f {h} o k t u =
      record { live = rw o k.live; timed = rw o t.timed; sent = tt; again = rw o tt; unheld = on (by_receiver c w (to_receiver f) left h) (λ _. rw o refl) u }

  -- the first frame of forward is given to the receiver
  step_forward : (k : Rest) (c : Call) (lent : List ℕ) (w : World) → sort_of c ≡ other
      → 1 ≤ rs.timeout → rs.timeout ≤ 10000
      → Holds Lax st rs w events
      → (fs : List Frame)
      → w.forward ≡ fs
      → (listened (given_forward k c w lent fs).event.given (given_forward k c w lent fs).event.receiver ≡ true → lent ≡ w.buffer)
      → After (given_forward k c w lent fs)
  unfolding given_forward
  step_forward k c lent w o pos small h [] e d = none_called c w o (idle_live h.live) h.timed h.unheld
  step_forward k c lent w o pos small h (f ∷ rest) e d =
      receiver_heard c w (leaving k f rest) f o
      (receiver_hear_live k lent (rw e at h.live) d)
      (hear_timed rs pos small h.timed f lent)
      h.unheld

  -- the first frame of back is given to the sender
  step_back : (k : Rest) (c : Call) (w : World) → sort_of c ≡ other
      → Holds Lax st rs w events
      → (fs : List Frame)
      → w.back ≡ fs
      → After (given_back k c w fs)
  unfolding given_back
  step_back k c w o h [] e = none_called c w o (idle_live h.live) h.timed h.unheld
  step_back k c w o h (f ∷ rest) e = sender_heard c w (leaving k f rest) f o (hear_live k (rw e at h.live)) h.timed h.unheld

-- what a begin finds: the receiver is shut, or, where that is allowed, at a frame of its connection
module _ (Lax : Type 0) where
  shut_stands : (p : receiver-phase.Phase) → Shut p → Stands Lax p
  shut_stands at.Idle shut = tt
  shut_stands (at.Done y) shut = tt
  shut_stands (at.Open x) shut = absurd shut

  stands : {rs : receiver-settings.Settings} {r : Receiver} {o : Opened} → Timed rs r o → (idle o ≡ true) ⊎ Lax
      → (Lax → NeverHeld o)
      → Stands Lax r.phase
  stands (before {p} shut) i u = shut_stands p shut
  stands (between {p} shut) i u = shut_stands p shut
  stands (during w) (inl e) u = absurd (false≢true e)
  stands (during w) (inr lax) u = (lax, (w.free (u lax)).0, (w.low, w.high, w.long))

-- what is asked of one call, for both claims
abbrev Asked : Type 0 → Past → Call → Event → Type 0
Asked Lax p (begin m) e =
    taken e.sender ≡ true
    → ((idle (opened_in p.events) ≡ true) ⊎ Lax) × (p.world.forward ≡ []) × (p.world.back ≡ [])
Asked Lax p (sender_tick m) e = Condition p (sender_tick m) e
Asked Lax p receiver_tick e = Unit
Asked Lax p hold e = Lax → was_refused e.receiver ≡ true
Asked Lax p resume e = Unit
Asked Lax p (hear_forward b) e = Condition p (hear_forward b) e
Asked Lax p (repeat_forward b) e = Condition p (repeat_forward b) e
Asked Lax p lose_forward e = Unit
Asked Lax p hear_back e = Unit
Asked Lax p repeat_back e = Unit
Asked Lax p lose_back e = Unit

abbrev AllAsked : Type 0 → Past → List Call → Type 0
AllAsked Lax p [] = Unit
AllAsked Lax p (c ∷ calls) = Asked Lax p c (step_of p.world c).event × AllAsked Lax (next step_of p c) calls

-- the settings that making allows, as far as they are needed
pub record Limits (st : Settings) (rs : receiver-settings.Settings) : Type 0 where
  pub some : 1 ≤ st.limit
  pub few : st.limit ≤ 60000
  pub pos : 1 ≤ rs.timeout
  pub small : rs.timeout ≤ 10000

pub resume_no_hold : view.resume ≡ view.hold → ⊥
resume_no_hold e = subst IsResume e tt
  where
    IsResume : view.Pause → Type 0
    IsResume view.hold = ⊥
    IsResume view.resume = Unit

-- a refused hold is none
refused_is_none : (o : receiver.Outcome) → was_refused o ≡ true → pauses_by holds_receiver o ≡ 0
refused_is_none o e = rw e refl

module _ (Lax : Type 0) (st : Settings) (rs : receiver-settings.Settings) (limits : Limits st rs) where
  -- every call keeps what holds
  step : (w : World) (events : List Event) → Holds Lax st rs w events → (c : Call)
      → Asked Lax (record { world = w; events = events }) c (step_of w c).event
      → Holds Lax st rs (step_of w c).world ((step_of w c).event ∷ events)
  unfolding step_of begun_in begun_after opened_in opened_after pick
  step w events h (begin m) d =
      let k =
      begin_live limits.some h.live m
      (λ t.
      let found = d t in
      record { stands = stands Lax h.timed found.0 h.unheld; clear = found.1; clear_back = found.2 }) in
      record { live = k.live; timed = timed_later h.timed; sent = k.sent _; again = k.again; unheld = on Lax st rs events (step_of w (begin m)) (λ _. refl) h.unheld }
  step w events h (sender_tick m) d =
      let k = tick_live limits.few h.live m d in
      record { live = k.live; timed = timed_later h.timed; sent = k.sent; again = tt; unheld = on Lax st rs events (step_of w (sender_tick m)) (λ _. refl) h.unheld }
  step w events h receiver_tick d =
      let k = receiver_tick_live h.live in
      record { live = k.live; timed = tick_timed rs limits.pos limits.small h.timed; sent = tt; again = tt; unheld = on Lax st rs events (step_of w receiver_tick) (λ _. refl) h.unheld }
  step w events h hold d =
      let k = receiver_pause_live view.hold (λ lax _. d lax) h.live in
      record {
        live = k.live;
        timed = pause_timed rs limits.pos limits.small view.hold h.timed;
        sent = tt;
        again = tt;
        unheld = on Lax st rs events (step_of w hold) (λ lax. refused_is_none (step_of w hold).event.receiver (d lax)) h.unheld;
      }
  step w events h resume d =
      let k = receiver_pause_live view.resume (λ lax no. absurd (resume_no_hold no)) h.live in
      record {
        live = k.live;
        timed = pause_timed rs limits.pos limits.small view.resume h.timed;
        sent = tt;
        again = tt;
        unheld = on Lax st rs events (step_of w resume) (λ _. refl) h.unheld;
      }
  step w events h (hear_forward b) d = step_forward Lax st rs events gone (hear_forward b) b w refl limits.pos limits.small h w.forward refl d
  step w events h (repeat_forward b) d = step_forward Lax st rs events still (repeat_forward b) b w refl limits.pos limits.small h w.forward refl d
  step w events h lose_forward d = none_called Lax st rs events lose_forward _ refl (lose_forward_live h.live) h.timed h.unheld
  step w events h hear_back d = step_back Lax st rs events gone hear_back w refl h w.back refl
  step w events h repeat_back d = step_back Lax st rs events still repeat_back w refl h w.back refl
  step w events h lose_back d = none_called Lax st rs events lose_back _ refl (lose_back_live h.live) h.timed h.unheld

  -- so does every list of calls
  run : (calls : List Call) (p : Past) → Holds Lax st rs p.world p.events → AllAsked Lax p calls
      → Holds Lax st rs (run_of step_of p calls).world (run_of step_of p calls).events
  unfolding run_of
  run [] p h d = h
  run (c ∷ calls) p h d = run calls (next step_of p c) (step p.world p.events h c d.0) d.1

  -- the promise, read off what holds
  reported : {s : Sender} {r : Receiver} {forward back : List Frame} {buffer : List ℕ} (b : Begun) → Live Lax st s r forward back buffer b → Reported st.limit b
  reported Begun.never l = tt
  reported (Begun.since m n reports ds) (resting h) = (omega arith, λ _. h)
  reported (Begun.since m n reports ds) (long wide fits young v s) = (omega arith, λ late. absurd (omega arith))
  reported (Begun.since m n reports ds) (short w young v l e c) = (omega arith, λ late. absurd (omega arith))

  finished : {r : Receiver} {o : Opened} → Timed rs r o → Finished rs.timeout o
  finished (before shut) = tt
  finished (between shut) = (omega arith, λ _. refl)
  finished (during {x} w) =
      let k = in_time_lem rs limits.pos limits.small x w in
      let under = latest_under rs.timeout x.frames in
      (omega arith, λ late. absurd (omega (arith, k, under, late)))

  unheld_finished : {r : Receiver} {o : Opened} → Timed rs r o → Unheld rs.timeout o
  unheld_finished (before shut) = tt
  unheld_finished (between shut) = λ _ _. refl
  unheld_finished (during {x} w) =
      λ none late.
      let k = in_time_unheld rs limits.pos limits.small x w none in
      absurd (omega (arith, k, latest_under rs.timeout x.frames, late))

  promised : (w : World) (events : List Event) → Holds Lax st rs w events → Promise st.limit rs.timeout events
  promised w events h =
      record {
        sent = h.sent;
        reported = reported (begun_in events) h.live;
        again = h.again;
        finished = finished h.timed;
        unheld = unheld_finished h.timed;
      }

-- ---- from the ends that making answers

-- a made sender has the settings asked for, within their limits, and is Idle
pub data SenderMade (gap timeout limit : ℕ) : Sender → Type 0 where
  fits :
      sender-making.settings_fit gap timeout limit ≡ true
      → SenderMade gap timeout limit (sender_in (record { gap = gap; timeout = timeout; limit = limit }) Idle)

pub sender_made_lem : (gap timeout limit : ℕ) (s : Sender) → sender-making.make_of gap timeout limit ≡ accepted s → SenderMade gap timeout limit s
unfolding sender-making.make_of pick
sender_made_lem gap timeout limit s = go (sender-making.settings_fit gap timeout limit) refl
  where
    fresh_sender : Sender
    fresh_sender = sender_in (record { gap = gap; timeout = timeout; limit = limit }) Idle

    go : (b : Bool) → sender-making.settings_fit gap timeout limit ≡ b → pick b (accepted fresh_sender) (refused 1) ≡ accepted s
        → SenderMade gap timeout limit s
    go true e q = let z : fresh_sender ≡ s = cc in subst (SenderMade gap timeout limit) z (fits e)
    go false e q = let z : ◌≡◌ {A = ℕ} 0 1 = cc in absurd (omega arith)

pub data ReceiverMade (timeout window capacity : ℕ) : Receiver → Type 0 where
  fits :
      receiver-making.settings_fit timeout window capacity ≡ true
      → ReceiverMade timeout window capacity (receiver_in (record { timeout = timeout; window = window; capacity = capacity }) at.Idle)

pub receiver_made_lem : (timeout window capacity : ℕ) (r : Receiver) → receiver-making.make_of timeout window capacity ≡ accepted r
    → ReceiverMade timeout window capacity r
unfolding receiver-making.make_of pick
receiver_made_lem timeout window capacity r = go (receiver-making.settings_fit timeout window capacity) refl
  where
    fresh_receiver : Receiver
    fresh_receiver = receiver_in (record { timeout = timeout; window = window; capacity = capacity }) at.Idle

    go : (b : Bool) → receiver-making.settings_fit timeout window capacity ≡ b
        → pick b (accepted fresh_receiver) (refused 1) ≡ accepted r
        → ReceiverMade timeout window capacity r
    go true e q = let z : fresh_receiver ≡ r = cc in subst (ReceiverMade timeout window capacity) z (fits e)
    go false e q = let z : ◌≡◌ {A = ℕ} 0 1 = cc in absurd (omega arith)

pub limits_of : (gap timeout limit timeout' window capacity : ℕ)
    → sender-making.settings_fit gap timeout limit ≡ true
    → receiver-making.settings_fit timeout' window capacity ≡ true
    → Limits (record { gap = gap; timeout = timeout; limit = limit }) (record { timeout = timeout'; window = window; capacity = capacity })
limits_of gap timeout limit timeout' window capacity e d =
    let time = both_right (leb 1 timeout && leb timeout 10000) (leb 1 limit && leb limit 60000) (both_right (leb 1 gap && leb gap 10) _ e) in
    let wait = both_left (leb 1 timeout' && leb timeout' 10000) _ d in
    record {
      some = leb-true 1 limit (both_left (leb 1 limit) (leb limit 60000) time);
      few = leb-true limit 60000 (both_right (leb 1 limit) (leb limit 60000) time);
      pos = leb-true 1 timeout' (both_left (leb 1 timeout') (leb timeout' 10000) wait);
      small = leb-true timeout' 10000 (both_right (leb 1 timeout') (leb timeout' 10000) wait);
    }

promise_kept : (Lax : Type 0) (gap timeout limit timeout' window capacity : ℕ) {s : Sender} {r : Receiver}
    → SenderMade gap timeout limit s
    → ReceiverMade timeout' window capacity r
    → (buffer : List ℕ) (calls : List Call)
    → AllAsked Lax (fresh s r buffer) calls
    → Promise limit timeout' (run_of step_of (fresh s r buffer) calls).events
unfolding begun_in opened_in
promise_kept Lax gap timeout limit timeout' window capacity {s} {r} (fits e) (fits d) buffer calls c =
    let l = limits_of gap timeout limit timeout' window capacity e d in
    promised Lax _ _ l _ _
    (run Lax _ _ l calls (fresh s r buffer) (record { live = resting tt; timed = before tt; sent = tt; again = tt; unheld = λ _. tt }) c)

-- ---- the two claims

-- no begin finds a connection open
asks_idle : (p : Past) (c : Call) (e : Event) → Condition p c e → Asked ⊥ p c e
asks_idle p (begin m) e d = λ t. let found = d t in (inl found.0, found.1, found.2)
asks_idle p (sender_tick m) e d = d
asks_idle p receiver_tick e d = d
asks_idle p hold e d = λ lax. absurd lax
asks_idle p resume e d = d
asks_idle p (hear_forward b) e d = d
asks_idle p (repeat_forward b) e d = d
asks_idle p lose_forward e d = d
asks_idle p hear_back e d = d
asks_idle p repeat_back e d = d
asks_idle p lose_back e d = d

all_idle : (calls : List Call) (p : Past) → Conditions step_of p calls → AllAsked ⊥ p calls
all_idle [] p d = tt
all_idle (c ∷ calls) p d = (asks_idle p c (step_of p.world c).event d.0, all_idle calls (next step_of p c) d.1)

pub demand_3 : Demand3
demand_3 gap timeout limit s e timeout' window capacity r d buffer held calls c =
    promise_kept ⊥ gap timeout limit timeout' window capacity (sender_made_lem gap timeout limit s e) (receiver_made_lem timeout' window capacity r d) buffer calls (all_idle calls (fresh s r buffer) c)

-- no hold is accepted
asks_unheld : (p : Past) (c : Call) (e : Event) → LineCondition p c e → Asked Unit p c e
asks_unheld p (begin m) e d = λ t. let found = d t in (inr tt, found.0, found.1)
asks_unheld p (sender_tick m) e d = d
asks_unheld p receiver_tick e d = d
asks_unheld p hold e d = λ _. d
asks_unheld p resume e d = d
asks_unheld p (hear_forward b) e d = d
asks_unheld p (repeat_forward b) e d = d
asks_unheld p lose_forward e d = d
asks_unheld p hear_back e d = d
asks_unheld p repeat_back e d = d
asks_unheld p lose_back e d = d

all_unheld : (calls : List Call) (p : Past) → LineConditions step_of p calls → AllAsked Unit p calls
all_unheld [] p d = tt
all_unheld (c ∷ calls) p d =
    (asks_unheld p c (step_of p.world c).event d.0, all_unheld calls (next step_of p c) d.1)

pub demand_3_while_open : Demand3WhileOpen
demand_3_while_open gap timeout limit s e timeout' window capacity r d buffer held calls c =
    promise_kept Unit gap timeout limit timeout' window capacity (sender_made_lem gap timeout limit s e) (receiver_made_lem timeout' window capacity r d) buffer calls (all_unheld calls (fresh s r buffer) c)
