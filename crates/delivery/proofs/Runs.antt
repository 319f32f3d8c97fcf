-- Every run at a line of 64 is a run of demand 3's calls. The line that keeps all holds the frames of the other and, between
-- them, those that the other dropped; such a frame is lost once it is the first. So before each call the dropped frames in
-- front of both lines are lost, and then both give the same frame.
-- Assumes nothing.
use Prim.Native.Nat.{ℕ, ◌≤◌, ◌<◌}
use mathlib.Core.Path.{◌≡◌, refl, ap, ◌∙◌}
use mathlib.Core.Bool.{Bool, true, false}
use mathlib.Core.List.{List, [], ◌∷◌, ◌++◌, append-nil}
use native.Mathlib.Nat.{add-zero}
use native.Mathlib.Omega.{arith}
use borrow.Author.Tests.{leb-true, leb-false}
use lib.Dec.{leb}
use lib.ListN.{length, take, length-append}
use lib.Seq.{take_all, take-append-le}
use Rattle.delivery.proofs.Stages.{further_none}
use Rattle.delivery.proofs.Theorem.{demand_3}
use Rattle.delivery.specs.Capped.{Losses, none, lost_forward, lost_back, Among, start, follows, CappedRuns, CappedDemand3}
use Rattle.delivery.specs.Demand3.{Condition, Conditions, Promise}
use Rattle.delivery.specs.Run.{Past, next, run_of}
use Rattle.delivery.specs.Seen
use Rattle.delivery.specs.Seen.{further, Begun, Opened, begun_in, begun_after, opened_in, opened_after}
use Rattle.frame.specs.Choice.{pick}
use Rattle.frame.specs.declared.Frame.{Frame}
use Rattle.receiver.specs.Hear as hearing
use Rattle.receiver.specs.Hold.{hold_of, resume_of}
use Rattle.receiver.specs.Tick as ticking
use Rattle.receiver.specs.Told as receiver
use Rattle.receiver.specs.declared.Receiver.{Receiver}
use Rattle.sender.specs.Begin.{begin_of}
use Rattle.sender.specs.Hear.{hear_of}
use Rattle.sender.specs.Tick.{tick_of}
use Rattle.sender.specs.Told as sender
use Rattle.sender.specs.declared.Sender.{Sender}
use Rattle.transport.specs.Capped.{capped, capped_step}
use Rattle.transport.specs.Step.{emission, Stepped, uncalled, unheard, by_sender, by_receiver, Rest, gone, still, leaving, dropped, given_forward, given_back, step_of}
use Rattle.transport.specs.World.{World, Call, begin, sender_tick, receiver_tick, hold, resume, hear_forward, repeat_forward, lose_forward, hear_back, repeat_back, lose_back, Given, nobody, to_sender, to_receiver, Event}

-- ---- a list and the same with frames more

data Thinned : List Frame → List Frame → Type 0 where
  empty : Thinned [] []
  keep : (f : Frame) {kept all : List Frame} → Thinned kept all → Thinned (f ∷ kept) (f ∷ all)
  drop : (f : Frame) {kept all : List Frame} → Thinned kept all → Thinned kept (f ∷ all)

-- a frame joins both, or the longer one alone
join_both : (f : Frame) {kept all : List Frame} → Thinned kept all → Thinned (kept ++ f ∷ []) (all ++ f ∷ [])
join_both f empty = keep f empty
join_both f (keep g t) = keep g (join_both f t)
join_both f (drop g t) = drop g (join_both f t)

join_one : (f : Frame) {kept all : List Frame} → Thinned kept all → Thinned kept (all ++ f ∷ [])
join_one f empty = drop f empty
join_one f (keep g t) = keep g (join_one f t)
join_one f (drop g t) = drop g (join_one f t)

-- at most 64 of them are kept
record Fewer (kept all : List Frame) : Type 0 where
  thinned : Thinned kept all
  few : length kept ≤ 64

-- what an end emits joins both, at the line of 64 only where fewer than 64 are before it
emitted : (emits : Bool) (f : Frame) {kept all : List Frame} → Fewer kept all
    → Fewer (take 64 (kept ++ emission emits f)) (all ++ emission emits f)
emitted false f {kept} {all} t =
    let same : take 64 (kept ++ []) ≡ kept = rw append-nil (take_all 64 kept t.few) in
    rw (same, append-nil all) t
emitted true f {kept} {all} t = go (leb 64 (length kept)) refl
  where
    go : (full : Bool) → leb 64 (length kept) ≡ full → Fewer (take 64 (kept ++ f ∷ [])) (all ++ f ∷ [])
    go true e =
        let h : 64 ≤ length kept = leb-true 64 (length kept) e in
        let same : take 64 (kept ++ f ∷ []) ≡ kept = take-append-le 64 kept (f ∷ []) h ∙ take_all 64 kept t.few in
        rw same (record { thinned = join_one f t.thinned; few = t.few })
    go false e =
        let h : length kept < 64 = leb-false 64 (length kept) e in
        let l : length (kept ++ f ∷ []) ≤ 64 = rw length-append (omega arith) in
        rw (take_all 64 (kept ++ f ∷ []) l) (record { thinned = join_both f t.thinned; few = l })

-- a line that no frame joins
stays : {kept all : List Frame} → Fewer kept all → Fewer (take 64 kept) all
stays {kept} t = rw (take_all 64 kept t.few) t

-- ---- the dropped frames in front of both lines are lost

abbrev past : World → List Event → Past
past w events = record { world = w; events = events }

abbrev world : Sender → Receiver → List Frame → List Frame → List ℕ → World
world s r forward back buffer = record { sender = s; receiver = r; forward = forward; back = back; buffer = buffer }

-- calls that lead from one past to another, each meeting its condition
data Leads : Past → Past → Type 0 where
  here : {p : Past} → Leads p p
  then : {p q : Past} (c : Call) → Condition p c (step_of p.world c).event → Leads (next step_of p c) q → Leads p q

leads_on : {p q r : Past} → Leads p q → Leads q r → Leads p r
leads_on here m = m
leads_on (then c h l) m = then c h (leads_on l m)

-- losses on top of losses
more_losses : {events later last : List Event} → Losses events later → Losses later last → Losses events last
more_losses l none = l
more_losses l (lost_forward m) = lost_forward (more_losses l m)
more_losses l (lost_back m) = lost_back (more_losses l m)

-- both lists have the same first frame, or both are empty
data Level : List Frame → List Frame → Type 0 where
  empty : Level [] []
  first : (f : Frame) {rest all_rest : List Frame} → Thinned rest all_rest → Level (f ∷ rest) (f ∷ all_rest)

record Settled (s : Sender) (r : Receiver) (buffer : List ℕ) (forward back all_forward all_back : List Frame) (events : List Event) : Type 0 where
  front : List Frame
  rear : List Frame
  later : List Event
  level_front : Level forward front
  level_rear : Level back rear
  losses : Losses events later
  leads : Leads (past (world s r all_forward all_back buffer) events) (past (world s r front rear buffer) later)

settle_back : (s : Sender) (r : Receiver) (buffer : List ℕ) {forward front back all : List Frame} (events : List Event)
    → Level forward front
    → Thinned back all
    → Settled s r buffer forward back front all events
unfolding step_of
settle_back s r buffer events l empty =
    record { front = _; rear = _; later = events; level_front = l; level_rear = empty; losses = none; leads = here }
settle_back s r buffer events l (keep f t) =
    record { front = _; rear = _; later = events; level_front = l; level_rear = first f t; losses = none; leads = here }
settle_back s r buffer events l (drop f t) =
    let rest = settle_back s r buffer (uncalled lose_back ∷ events) l t in
    record {
      front = rest.front;
      rear = rest.rear;
      later = rest.later;
      level_front = rest.level_front;
      level_rear = rest.level_rear;
      losses = more_losses (lost_back none) rest.losses;
      leads = then lose_back tt rest.leads;
    }

settle : (s : Sender) (r : Receiver) (buffer : List ℕ) {forward back all_forward all_back : List Frame} (events : List Event)
    → Thinned forward all_forward
    → Thinned back all_back
    → Settled s r buffer forward back all_forward all_back events
unfolding step_of
settle s r buffer events empty u = settle_back s r buffer events empty u
settle s r buffer events (keep f t) u = settle_back s r buffer events (first f t) u
settle s r buffer events (drop f t) u =
    let rest = settle s r buffer (uncalled lose_forward ∷ events) t u in
    record {
      front = rest.front;
      rear = rest.rear;
      later = rest.later;
      level_front = rest.level_front;
      level_rear = rest.level_rear;
      losses = more_losses (lost_forward none) rest.losses;
      leads = then lose_forward tt rest.leads;
    }

-- ---- one call

-- the world at the line of 64 and the other: the same ends and buffer, and on the lines of the other frames more
data Shadow : World → World → Type 0 where
  shadow : (s : Sender) (r : Receiver) (buffer : List ℕ) {forward all_forward back all_back : List Frame} → Fewer forward all_forward
      → Fewer back all_back
      → Shadow (world s r forward back buffer) (world s r all_forward all_back buffer)

-- a step on each: what is seen is the same
record Alike (x y : Stepped) : Type 0 where
  event : x.event ≡ y.event
  after : Shadow (capped x.world) y.world

levelled : {kept all : List Frame} → Level kept all → length kept ≤ 64 → Fewer kept all
levelled empty few = record { thinned = empty; few = few }
levelled (first f t) few = record { thinned = keep f t; few = few }

left : (k : Rest) (f : Frame) {rest all : List Frame} → Thinned rest all → length (f ∷ rest) ≤ 64 → Fewer (leaving k f rest) (leaving k f all)
left gone f t few = record { thinned = t; few = omega arith }
left still f t few = record { thinned = keep f t; few = few }

lost : {kept all : List Frame} → Level kept all → length kept ≤ 64 → Fewer (dropped kept) (dropped all)
lost empty few = record { thinned = empty; few = few }
lost (first f t) few = record { thinned = t; few = omega arith }

by_sender_lem : (c : Call) (given : Given) (t : sender.Told) (s : Sender) (r : Receiver) (buffer : List ℕ) (back all_back : List Frame) {forward all_forward rest all_rest : List Frame}
    → Fewer forward all_forward → Fewer rest all_rest
    → Alike (by_sender c (world s r forward back buffer) given rest t) (by_sender c (world s r all_forward all_back buffer) given all_rest t)
unfolding capped
by_sender_lem c given t s r buffer back all_back x y =
    record { event = refl; after = shadow _ _ _ (emitted t.emits t.frame x) (stays y) }

by_receiver_lem : (c : Call) (given : Given) (h : receiver.Heard) (s : Sender) (r : Receiver) (buffer : List ℕ) (forward all_forward : List Frame) {back all_back rest all_rest : List Frame}
    → Fewer rest all_rest → Fewer back all_back
    → Alike (by_receiver c (world s r forward back buffer) given rest h) (by_receiver c (world s r all_forward all_back buffer) given all_rest h)
unfolding capped
by_receiver_lem c given h s r buffer forward all_forward x y =
    record { event = refl; after = shadow _ _ _ (stays x) (emitted h.told.emits h.told.frame y) }

by_nobody : (c : Call) (s : Sender) (r : Receiver) (buffer : List ℕ) {forward all_forward back all_back : List Frame} → Fewer forward all_forward → Fewer back all_back
    → Alike (unheard c (world s r forward back buffer)) (unheard c (world s r all_forward all_back buffer))
unfolding capped
by_nobody c s r buffer x y = record { event = refl; after = shadow _ _ _ (stays x) (stays y) }

gives_forward : (k : Rest) (c : Call) (b : List ℕ) (s : Sender) (r : Receiver) (buffer : List ℕ) {forward all_forward back all_back : List Frame}
    → Level forward all_forward → length forward ≤ 64 → Fewer back all_back
    → Alike (given_forward k c (world s r forward back buffer) b forward) (given_forward k c (world s r all_forward all_back buffer) b all_forward)
unfolding given_forward
gives_forward k c b s r buffer empty few y = by_nobody c s r buffer (levelled empty few) y
gives_forward k c b s r buffer (first f {rest} {all_rest} t) few y =
    by_receiver_lem c (to_receiver f) (hearing.hear_of r f b) s r buffer (f ∷ rest) (f ∷ all_rest) (left k f t few) y

gives_back : (k : Rest) (c : Call) (s : Sender) (r : Receiver) (buffer : List ℕ) {forward all_forward back all_back : List Frame}
    → Fewer forward all_forward → Level back all_back → length back ≤ 64
    → Alike (given_back k c (world s r forward back buffer) back) (given_back k c (world s r all_forward all_back buffer) all_back)
unfolding given_back
gives_back k c s r buffer x empty few = by_nobody c s r buffer x (levelled empty few)
gives_back k c s r buffer x (first f {rest} {all_rest} t) few =
    by_sender_lem c (to_sender f) (hear_of s f) s r buffer (f ∷ rest) (f ∷ all_rest) x (left k f t few)

-- every call, where both lines have the same first frame or none
steps_alike : (c : Call) (s : Sender) (r : Receiver) (buffer : List ℕ) {forward front back rear : List Frame}
    → Level forward front → length forward ≤ 64
    → Level back rear → length back ≤ 64
    → Alike (step_of (world s r forward back buffer) c) (step_of (world s r front rear buffer) c)
unfolding step_of
steps_alike (begin m) s r buffer {forward} {front} {back} {rear} x nx y ny =
    by_sender_lem (begin m) nobody (begin_of s m) s r buffer back rear (levelled x nx) (levelled y ny)
steps_alike (sender_tick m) s r buffer {forward} {front} {back} {rear} x nx y ny =
    by_sender_lem (sender_tick m) nobody (tick_of s m) s r buffer back rear (levelled x nx) (levelled y ny)
steps_alike receiver_tick s r buffer {forward} {front} x nx y ny =
    by_receiver_lem receiver_tick nobody (receiver.heard (ticking.tick_of r) buffer) s r buffer forward front (levelled x nx) (levelled y ny)
steps_alike hold s r buffer {forward} {front} x nx y ny =
    by_receiver_lem hold nobody (receiver.heard (hold_of r) buffer) s r buffer forward front (levelled x nx) (levelled y ny)
steps_alike resume s r buffer {forward} {front} x nx y ny =
    by_receiver_lem resume nobody (receiver.heard (resume_of r) buffer) s r buffer forward front (levelled x nx) (levelled y ny)
steps_alike (hear_forward b) s r buffer x nx y ny = gives_forward gone (hear_forward b) b s r buffer x nx (levelled y ny)
steps_alike (repeat_forward b) s r buffer x nx y ny = gives_forward still (repeat_forward b) b s r buffer x nx (levelled y ny)
steps_alike lose_forward s r buffer x nx y ny = by_nobody lose_forward s r buffer (lost x nx) (levelled y ny)
steps_alike hear_back s r buffer x nx y ny = gives_back gone hear_back s r buffer (levelled x nx) y ny
steps_alike repeat_back s r buffer x nx y ny = gives_back still repeat_back s r buffer (levelled x nx) y ny
steps_alike lose_back s r buffer x nx y ny = by_nobody lose_back s r buffer (levelled x nx) (lost y ny)

-- ---- a loss is no tick, report, delivery or opening

opened_same : (o : Opened) → Seen.later o 0 0 0 ≡ o
opened_same Opened.never = refl
opened_same (Opened.since frames ticks reports pauses) = rw (add-zero ticks, add-zero reports, add-zero pauses) refl

losses_begun : {events later : List Event} → Losses events later → begun_in later ≡ begun_in events
unfolding begun_in begun_after
losses_begun none = refl
losses_begun (lost_forward {later} l) = further_none (begun_in later) ∙ losses_begun l
losses_begun (lost_back {later} l) = further_none (begun_in later) ∙ losses_begun l

losses_opened : {events later : List Event} → Losses events later → opened_in later ≡ opened_in events
unfolding opened_in opened_after pick
losses_opened none = refl
losses_opened (lost_forward {later} l) = opened_same (opened_in later) ∙ losses_opened l
losses_opened (lost_back {later} l) = opened_same (opened_in later) ∙ losses_opened l

among_begun : {seen all : List Event} → Among seen all → begun_in all ≡ begun_in seen
unfolding begun_in
among_begun start = refl
among_begun (follows e a l) = ap (begun_after e) (losses_begun l ∙ among_begun a)

among_opened : {seen all : List Event} → Among seen all → opened_in all ≡ opened_in seen
unfolding opened_in
among_opened start = refl
among_opened (follows e a l) = ap (opened_after e) (losses_opened l ∙ among_opened a)

-- ---- the conditions

level_empty : {kept all : List Frame} → Level kept all → kept ≡ [] → all ≡ []
level_empty empty e = refl
level_empty (first f t) e = let z : ◌≡◌ {A = ℕ} 0 1 = cc in absurd (omega arith)

-- what is asked of a call at the line of 64 holds of it once the lines are level
meets : (c : Call) (s : Sender) (r : Receiver) (buffer : List ℕ) (e : Event) (seen events : List Event) {forward front back rear : List Frame}
    → Level forward front
    → Level back rear
    → begun_in events ≡ begun_in seen
    → opened_in events ≡ opened_in seen
    → Condition (past (world s r forward back buffer) seen) c e
    → Condition (past (world s r front rear buffer) events) c e
meets (begin m) s r buffer e seen events x y b o d =
    λ accepted. let found = d accepted in (rw o found.0, level_empty x found.1, level_empty y found.2)
meets (sender_tick m) s r buffer e seen events x y b o d = λ accepted. rw b (d accepted)
meets receiver_tick s r buffer e seen events x y b o d = tt
meets hold s r buffer e seen events x y b o d = tt
meets resume s r buffer e seen events x y b o d = tt
meets (hear_forward lent) s r buffer e seen events x y b o d = d
meets (repeat_forward lent) s r buffer e seen events x y b o d = d
meets lose_forward s r buffer e seen events x y b o d = tt
meets hear_back s r buffer e seen events x y b o d = tt
meets repeat_back s r buffer e seen events x y b o d = tt
meets lose_back s r buffer e seen events x y b o d = tt

-- ---- a list of calls

-- losses, and then the call: what is seen of it is what is seen at the line of 64
record Followed (w all : World) (events : List Event) (c : Call) : Type 0 where
  after : World
  later : List Event
  losses : Losses events later
  leads : Leads (past all events) (past after ((step_of w c).event ∷ later))
  same : Shadow (capped (step_of w c).world) after

follow : (c : Call) {seen events : List Event} {w all : World} → Shadow w all → Among seen events
    → Condition (past w seen) c (step_of w c).event
    → Followed w all events c
follow c {seen} {events} (shadow s r buffer {forward} {all_forward} {back} {all_back} x y) among d =
    let l = settle s r buffer events x.thinned y.thinned in
    let alike = steps_alike c s r buffer l.level_front x.few l.level_rear y.few in
    let met =
    meets c s r buffer (step_of (world s r forward back buffer) c).event seen l.later l.level_front l.level_rear
    (losses_begun l.losses ∙ among_begun among) (losses_opened l.losses ∙ among_opened among) d in
    record {
      after = (step_of (world s r l.front l.rear buffer) c).world;
      later = l.later;
      losses = l.losses;
      leads = leads_on l.leads (rw alike.event (then c (rw alike.event at met) here));
      same = alike.after;
    }

record FollowedAll (w all : World) (seen events : List Event) (calls : List Call) : Type 0 where
  after : World
  later : List Event
  leads : Leads (past all events) (past after later)
  among : Among (run_of capped_step (past w seen) calls).events later

follow_all : (calls : List Call) {seen events : List Event} {w all : World} → Shadow w all → Among seen events
    → Conditions capped_step (past w seen) calls
    → FollowedAll w all seen events calls
unfolding run_of capped_step
follow_all [] same among d = record { after = _; later = _; leads = here; among = among }
follow_all (c ∷ calls) {seen} {events} {w} same among d =
    let f = follow c same among d.0 in
    let rest = follow_all calls f.same (follows (step_of w c).event among f.losses) d.1 in
    record { after = rest.after; later = rest.later; leads = leads_on f.leads rest.leads; among = rest.among }

-- the calls that lead from one past to another are a list that meets the conditions
record Called (p q : Past) : Type 0 where
  calls : List Call
  meets : Conditions step_of p calls
  ends : run_of step_of p calls ≡ q

called : {p q : Past} → Leads p q → Called p q
unfolding run_of
called here = record { calls = []; meets = tt; ends = refl }
called (then c h l) =
    let rest = called l in
    record { calls = c ∷ rest.calls; meets = (h, rest.meets); ends = rest.ends }

pub capped_runs : CappedRuns
capped_runs s r buffer calls d =
    let none : Fewer [] [] = record { thinned = empty; few = omega arith } in
    let f = follow_all calls (shadow s r buffer none none) start d in
    let c = called f.leads in
    record { calls = c.calls; meets = c.meets; among = rw c.ends f.among }

-- ---- the promise

kept_among : (limit timeout : ℕ) {seen all : List Event} → Among seen all → Promise limit timeout all → Promise limit timeout seen
kept_among limit timeout start p = p
kept_among limit timeout (follows e a l) p =
    let b = among_begun (follows e a l) in
    record {
      sent = rw (← b) p.sent;
      reported = rw (← b) p.reported;
      again = rw (← among_begun a, ← losses_begun l) p.again;
      finished = rw (← among_opened (follows e a l)) p.finished;
      unheld = rw (← among_opened (follows e a l)) p.unheld;
    }

pub capped_demand_3 : CappedDemand3
capped_demand_3 gap timeout limit s e timeout' window capacity r d buffer size calls h =
    let run = capped_runs s r buffer calls h in
    kept_among limit timeout' run.among (demand_3 gap timeout limit s e timeout' window capacity r d buffer size run.calls run.meets)
