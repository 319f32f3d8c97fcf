-- E5: what holds of both ends and of both lists of messages between them holds from the start on along every list of calls
-- (Links), and the promise is read off it: each version reported stands in both lists and is at or above every shared one, so
-- that two of them are equal; and a failure has its reason: no version is shared, unless a limit or a greeting was met. The
-- reason is stated once, of the events of the whole run.
-- Assumes nothing.
use Prim.Native.Nat.{ℕ, ◌<◌, ◌-◌}
use mathlib.Core.Bool.{true}
use mathlib.Core.List.{List, [], ◌∷◌}
use mathlib.Core.Logic.{◌⊎◌, inl, inr, ⊎_elim}
use mathlib.Core.Path.{◌≡◌, refl, subst}
use native.Mathlib.Omega.{arith}
use lib.ListN.{length, get_or}
use Rattle.frame.specs.Result.{accepted}
use Rattle.version.proofs.Places.{Standing, at_standing, made_is, most_by, list_stands, listed_stands, listed_eight}
use Rattle.version.specs.List.{at, standing, rising, versions_in}
use Rattle.version.specs.Talk as talking
use Rattle.version.specs.Talk.{make_of}
use Rattle.version.specs.Told as told
use Rattle.version.specs.Told.{Outcome, quiet, agreed, failed, left}
use Rattle.version.specs.declared.Side.{Side}
use Rattle.version.specs.declared.Side.TheVariants.{Charger, Vehicle}
use Rattle.version.specs.declared.Talker.{Talker}
use Rattle.version.specs.declared.Versions.{Versions}
use Rattle.agreement.specs.Agreement.{NoneShared, HighestShared, Promise, Promised, Agreement, AgreementOfLent, EachSettled, StopsAside}
use Rattle.agreement.specs.Limit.{LimitAt, LimitKept}
use Rattle.agreement.specs.Run.{Past, fresh, next, run_of}
use Rattle.agreement.specs.Seen.{Seen, now, before, Never, Reported, MeetsLimit, MeetsGreeting}
use Rattle.agreement.specs.Step.{done_of, step_at}
use Rattle.agreement.specs.World.{World, Action, Call, Event}
use Rattle.agreement.proofs.Ends.{none, End, Reports, Small}
use Rattle.agreement.proofs.Limit.{limit}
use Rattle.agreement.proofs.Links.{Excused, Link, Acted, act}
use Rattle.agreement.proofs.Order as order
use Rattle.agreement.proofs.Unseen.{some}

-- what the vehicle reports, from the charger's side
turned : (mine theirs : List ℕ) (P : Type 0) (o : Outcome) → Reports theirs mine P o → Reports mine theirs P o
turned mine theirs P quiet r = tt
turned mine theirs P (told.refused number) r = tt
turned mine theirs P (agreed v) r = (r.1, r.0, λ c h k. r.2 c k h)
turned mine theirs P failed r = r
turned mine theirs P left r = tt

-- ---- both ends

-- what holds of the world and the events after every call; a and b are the charger's list and the vehicle's
pub record Inv (a b : List ℕ) (P : Type 0) (w : World) (events : List Event) : Type 0 where
  pub to_vehicle : Link a b P w.charger w.vehicle w.to_vehicle
  pub to_charger : Link b a P w.vehicle w.charger w.to_charger
  pub reported : (side : Side) (o : Outcome) → Reported side o events → Reports a b P o

-- the lists: their versions have three bytes, and rise
pub record Lists (a b : List ℕ) : Type 0 where
  pub small : Small a
  pub small' : Small b
  pub rises : rising a ≡ true
  pub rises' : rising b ≡ true

-- a failure that a tick or a greeting made
abbrev pub ExcusedIn : List Event → Type 0
ExcusedIn events = Seen (λ e past. Excused e.action e.outcome) events

-- what is seen stays seen
seen_on : {Q : Event → List Event → Type 0} (calls : List Call) (p : Past) → Seen Q p.events
    → Seen Q (run_of p calls).events
unfolding run_of
seen_on [] p s = s
seen_on (c ∷ calls) p s = seen_on calls (next p c) (before s)

module _ (a b : List ℕ) (lists : Lists a b) (P : Type 0) (lone : NoneShared a b → P) where
  reported_on : {events : List Event} (e : Event) → Reports a b P e.outcome
      → ((side : Side) (o : Outcome) → Reported side o events → Reports a b P o)
      → (side : Side) (o : Outcome)
      → Reported side o (e ∷ events)
      → Reports a b P o
  reported_on e new old side o (now q) = subst (Reports a b P) q.1 new
  reported_on e new old side o (before s) = old side o s

  module _ (w : World) (events : List Event) (i : Inv a b P w events) (action : Action) where
    pub lone' : NoneShared b a → P
    lone' no_one = lone (λ c h k. no_one c k h)

    -- a call of the charger, a call of the vehicle
    pub by_charger_lem : (Excused action (done_of w.charger w.to_charger action).told.outcome → P)
        → Acted a b P lists.small lists.rises lone w.charger w.vehicle w.to_vehicle
        (done_of w.charger w.to_charger action)
    by_charger_lem h =
        act a b P lists.small lists.rises lone w.charger w.vehicle w.to_charger w.to_vehicle action
        i.to_charger i.to_vehicle h

    pub by_vehicle_lem : (Excused action (done_of w.vehicle w.to_vehicle action).told.outcome → P)
        → Acted b a P lists.small' lists.rises' lone' w.vehicle w.charger w.to_charger
        (done_of w.vehicle w.to_vehicle action)
    by_vehicle_lem h =
        act b a P lists.small' lists.rises' lone' w.vehicle w.charger w.to_vehicle w.to_charger action
        i.to_vehicle i.to_charger h

    step : (side : Side) → (ExcusedIn ((step_at w side action).event ∷ events) → P)
        → Inv a b P (step_at w side action).world ((step_at w side action).event ∷ events)
    unfolding step_at
    step Charger h =
        let k = by_charger_lem (λ x. h (now x)) in
        record { to_vehicle = k.outgoing; to_charger = k.incoming; reported = reported_on _ k.reports i.reported }
    step Vehicle h =
        let k = by_vehicle_lem (λ x. h (now x)) in
        record {
          to_vehicle = k.incoming;
          to_charger = k.outgoing;
          reported = reported_on _ (turned a b P (step_at w Vehicle action).event.outcome k.reports) i.reported;
        }

  -- the reason serves for the whole run: whatever excuses a failure on the way is still seen at its end
  run : (calls : List Call) (p : Past) → Inv a b P p.world p.events → (ExcusedIn (run_of p calls).events → P)
      → Inv a b P (run_of p calls).world (run_of p calls).events
  unfolding run_of
  run [] p i h = i
  run (c ∷ calls) p i h =
      run calls (next p c) (step p.world p.events i c.action c.side (λ s. h (seen_on calls (next p c) s))) h

-- ---- from fresh ends

-- the last version of a rising list is at or above every other
module _ (v : Versions) (s : Standing v) where
  made_end : (side : Side) (control : ℕ) (theirs : List ℕ) (P : Type 0) (H : ℕ → Type 0)
      → End (standing v) theirs P H (talking.fresh side v control)
  made_end side control theirs P H =
      let inside : v.count - 1 < length (standing v) = omega (arith, s.whole, s.some) in
      let is : get_or (standing v) (v.count - 1) 0 ≡ at v (v.count - 1) = at_standing v (v.count - 1) inside in
      record {
        list = refl;
        inside = inside;
        above = λ c h k.
            let le =
            most_by (standing v) s.rises h.place (v.count - 1) h.inside inside
            (λ beyond. omega (arith, s.whole, h.inside)) in
            omega (arith, is, h.is);
        sure = tt;
      }

module _ (side : Side) (v : Versions) (eight : length v.numbers ≡ 8) (control : ℕ) (t : Talker)
    (made : make_of side v control ≡ accepted t) where
  pub stood : Standing v
  stood = list_stands v eight (made_is side v control t made).0

  started : (theirs : List ℕ) (P : Type 0) (H : ℕ → Type 0) → End (standing v) theirs P H t
  started theirs P H =
      subst (End (standing v) theirs P H) (made_is side v control t made).1 (made_end v stood side control theirs P H)

-- what holds after every list of calls from fresh ends
module _ (versions versions' : Versions) (eight : length versions.numbers ≡ 8) (eight' : length versions'.numbers ≡ 8)
    (control control' : ℕ) (charger vehicle : Talker)
    (made : make_of Charger versions control ≡ accepted charger)
    (made' : make_of Vehicle versions' control' ≡ accepted vehicle) where
  pub lists : Lists (standing versions) (standing versions')
  lists =
      let s = stood Charger versions eight control charger made in
      let s' = stood Vehicle versions' eight' control' vehicle made' in
      record { small = s.three; small' = s'.three; rises = s.rises; rises' = s'.rises }

  pub ran : (calls : List Call) (P : Type 0) → (NoneShared (standing versions) (standing versions') → P)
      → (ExcusedIn (run_of (fresh charger vehicle) calls).events → P)
      → Inv (standing versions) (standing versions') P (run_of (fresh charger vehicle) calls).world
      (run_of (fresh charger vehicle) calls).events
  ran calls P lone h =
      run _ _ lists P lone calls (fresh charger vehicle)
      (record {
        to_vehicle =
            record {
              fair = none;
              falling = order.done;
              reaching = none;
              end = started Vehicle versions' eight' control' vehicle made' (standing versions) P _;
            };
        to_charger =
            record {
              fair = none;
              falling = order.done;
              reaching = none;
              end = started Charger versions eight control charger made (standing versions') P _;
            };
        reported = λ side o r. absurd (some r);
      })
      h

-- ---- the promise

-- the reason of a failure, by the events of the whole run
abbrev Reason : List ℕ → List ℕ → List Event → Type 0
Reason a b events = Never MeetsLimit events → Never MeetsGreeting events → NoneShared a b

-- a failure that a tick made met the limit, one that a greeting made met a greeting
tick_met : (e : Event) (past : List Event) → LimitAt e past → Excused e.action e.outcome
    → MeetsLimit e past ⊎ MeetsGreeting e past
tick_met e past l (inl is, f) = inl (l.only is f)
tick_met e past l (inr is, f) = inr (is, f)

met_by : {events : List Event} → ExcusedIn events → LimitKept events → Seen MeetsLimit events ⊎ Seen MeetsGreeting events
met_by (now {e} {past} x) (l, k) =
    ⊎_elim (λ m. inl (now m)) (λ m. inr (now m)) (tick_met e past l x)
met_by (before s) (l, k) = ⊎_elim (λ m. inl (before m)) (λ m. inr (before m)) (met_by s k)

met : {events : List Event} → LimitKept events → ExcusedIn events → Seen MeetsLimit events ⊎ Seen MeetsGreeting events
met kept excused = met_by excused kept

module _ {a b : List ℕ} {w : World} {events : List Event} (i : Inv a b (Reason a b events) w events) where
  named : (side : Side) (v : ℕ) → Reported side (agreed v) events → HighestShared a b v
  named side v r =
      let x = i.reported side (agreed v) r in
      record {
        of_charger = x.0;
        of_vehicle = x.1;
        highest = λ other h k different. let le = x.2 other h k in omega arith;
      }

  promised : Promise a b events
  promised =
      record {
        settled = λ v u r s.
            let x = i.reported Charger (agreed v) r in
            let y = i.reported Vehicle (agreed u) s in
            let down = y.2 v x.0 x.1 in
            let up = x.2 u y.0 y.1 in
            (omega arith, named Charger v r);
        unshared = λ side r no_limit no_stop no_greeting. i.reported side failed r no_limit no_greeting;
      }

module _ (versions versions' : Versions) (eight : length versions.numbers ≡ 8) (eight' : length versions'.numbers ≡ 8)
    (control control' : ℕ) (charger vehicle : Talker)
    (made : make_of Charger versions control ≡ accepted charger)
    (made' : make_of Vehicle versions' control' ≡ accepted vehicle)
    (calls : List Call) where
  abbrev events : List Event
  events = (run_of (fresh charger vehicle) calls).events

  reasoned : Inv (standing versions) (standing versions') (Reason (standing versions) (standing versions') events)
      (run_of (fresh charger vehicle) calls).world events
  reasoned =
      let kept = limit versions versions' eight eight' control control' charger vehicle made made' calls in
      ran versions versions' eight eight' control control' charger vehicle made made' calls _
      (λ no_one no_limit no_greeting. no_one)
      (λ x no_limit no_greeting. absurd (⊎_elim no_limit no_greeting (met kept x)))

pub agreement : Agreement
agreement versions versions' eight eight' control control' charger vehicle made made' calls =
    promised (reasoned versions versions' eight eight' control control' charger vehicle made made' calls)

pub each_settled : EachSettled
each_settled versions versions' eight eight' control control' charger vehicle made made' calls side v r =
    named (reasoned versions versions' eight eight' control control' charger vehicle made made' calls) side v r

pub stops_aside : StopsAside
stops_aside versions versions' eight eight' control control' charger vehicle made made' calls side r no_limit no_greeting =
    (reasoned versions versions' eight eight' control control' charger vehicle made made' calls).reported side failed r
    no_limit no_greeting

-- a list that listing takes is kept in eight places, as it was lent
pub agreement_of_lent : AgreementOfLent
agreement_of_lent lent lent' versions versions' listed listed' control control' charger vehicle made made' calls =
    let s = (listed_stands lent versions listed).1 in
    let s' = (listed_stands lent' versions' listed').1 in
    let whole =
    agreement versions versions' (listed_eight lent versions listed) (listed_eight lent' versions' listed') control control'
    charger vehicle made made' calls in
    subst (λ (x : List ℕ). Promised x (versions_in lent') (fresh charger vehicle) calls) s
    (subst (λ (x : List ℕ). Promised (standing versions) x (fresh charger vehicle) calls) s' whole)
