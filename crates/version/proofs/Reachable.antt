-- Every talker that making and calls bring about is within its bounds, and there no count is cut and
-- every "at least" is "at". By the calls: a trigger's cell is one of the five of the case view, and
-- what its entry makes is within; a count that has not come to its limit is below it; a place that is
-- found is a place of the list.
-- Assumes nothing.
use Prim.Native.Nat.{ℕ, ◌≤◌, ◌<◌}
use mathlib.Core.Path.{◌≡◌, refl, sym, subst}
use mathlib.Core.Bool.{Bool, true, false}
use native.Mathlib.Omega.{arith}
use borrow.Author.Tests.{leb-false, ltb-true, ltb-false, eqb-true}
use lib.Dec.{eqb, ltb}
use lib.ListN.{length-take}
use lib.Seq.{get_or-take}
use Rattle.frame.proofs.Choice.{pick_elim}
use Rattle.frame.proofs.Laws.{at_bound}
use Rattle.frame.specs.Count.{increment_of}
use Rattle.frame.specs.Result.{Result, accepted, refused}
use Rattle.version.proofs.Cells.{Cell, rests, negotiates, starts, declines, goes_on, cell_is}
use Rattle.version.proofs.Inverse.{read_written}
use Rattle.version.proofs.Places.{made_is, list_is, three_bytes_lem, place_of_holds, place_below_highest}
use Rattle.version.specs.Calls.{Call, connect, tick, hear, stop, greet, functions_heard, answer_of}
use Rattle.std.specs.Prelude.{Some, None}
use Rattle.std.specs.declared.option.Option.{Option}
use Rattle.version.specs.List.{version_of, standing, find, find_below}
use Rattle.version.specs.Message.{read_of}
use Rattle.version.specs.Reachable.{Reachable, made, called, Timing, StateWithin, PeriodWithin, AgeWithin, Within, Exact, EveryReachable}
use Rattle.version.specs.Table.{Trigger, connected, period_due, success_other, success_below2, success2, failure_heard, continue_same, continue_lower, continue_higher, continue_none, greeted, stopped, limit_due, Entry, vehicle_s1}
use Rattle.version.specs.Talk.{make_of, place_or, keeps_timing, doing, triggered, connect_of, stop_of, greet_of, functions_state, functions_heard_of, success_trigger, higher_trigger, else_trigger, continue_at, continue_trigger, heard_trigger, hear_judged, hear_of, next_period, next_age, limit_is_due, period_is_due, aged, tick_talking, tick_settled, tick_state, tick_of}
use Rattle.version.specs.Told.{Told, own_version, moved}
use Rattle.version.specs.declared.Message.{Message}
use Rattle.version.specs.declared.Side.{Side}
use Rattle.version.specs.declared.Side.TheVariants.{Charger, Vehicle}
use Rattle.version.specs.declared.State.{State}
use Rattle.version.specs.declared.State.TheVariants.{S0, S1, S2, S3, S4, S5}
use Rattle.version.specs.declared.Talker.{Talker}
use Rattle.version.specs.declared.Verdict.{Verdict}
use Rattle.version.specs.declared.Verdict.TheVariants.{Continue, Success, Failure}
use Rattle.version.specs.declared.Versions.{Versions}

-- the state after a call is within its bounds
abbrev Keeps : Told → Type 0
Keeps a = Within a.next

-- ---- making

makes : (side : Side) (v : Versions) (control : ℕ) (t : Talker) → make_of side v control ≡ accepted t
    → Within t
makes side v control t e =
    let taken = made_is side v control t e in
    let list = list_is v taken.0 in
    subst Within taken.1
    (record {
      versions = taken.0;
      place = omega (arith, list.some);
      period = omega arith;
      age = omega arith;
      state = (refl, refl, (refl, refl, refl));
    })

-- ---- the trigger of a message

-- what a trigger says of the version at Ns
abbrev Agrees : Talker → Trigger → Type 0
Agrees t connected = Unit
Agrees t period_due = Unit
Agrees t success_other = Unit
Agrees t success_below2 = own_version t < version_of 2 0 0
Agrees t success2 = version_of 2 0 0 ≤ own_version t
Agrees t failure_heard = Unit
Agrees t continue_same = Unit
Agrees t continue_lower = Unit
Agrees t continue_higher = Unit
Agrees t continue_none = Unit
Agrees t greeted = Unit
Agrees t stopped = Unit
Agrees t limit_due = Unit

module _ (t : Talker) (version : ℕ) where
  success_agrees : Agrees t (success_trigger t version)
  unfolding success_trigger
  success_agrees =
      pick_elim (Agrees t) (eqb version (own_version t))
      (λ e.
      let same : version ≡ own_version t = eqb-true _ _ e in
      pick_elim (Agrees t) (ltb version (version_of 2 0 0))
      (λ less. let l : version < version_of 2 0 0 = ltb-true _ _ less in omega arith)
      (λ more. let m : version_of 2 0 0 ≤ version = ltb-false _ _ more in omega arith))
      (λ other. tt)

  higher_agrees : (p : Option ℕ) → Agrees t (higher_trigger p)
  higher_agrees None = tt
  higher_agrees (Some n) = tt

  else_agrees : Agrees t (else_trigger t version)
  unfolding else_trigger
  else_agrees =
      pick_elim (Agrees t) (ltb (own_version t) version) (λ less. tt)
      (λ more. higher_agrees (find_below t.versions version))

  continue_agrees : (p : Option ℕ) → Agrees t (continue_at t version p)
  continue_agrees None = else_agrees
  continue_agrees (Some n) = tt

  heard_agrees : (verdict : Verdict) → Agrees t (heard_trigger t version verdict)
  unfolding heard_trigger continue_trigger
  heard_agrees Continue = continue_agrees (find t.versions version)
  heard_agrees Success = success_agrees
  heard_agrees Failure = tt

-- ---- what an entry makes

-- of the result: continue and success are no failure
continues : Continue ≡ Failure → ⊥
continues e = let z : ◌≡◌ {A = ℕ} 0 1 = cc in omega arith

succeeds : Success ≡ Failure → ⊥
succeeds e = let z : ◌≡◌ {A = ℕ} 0 1 = cc in omega arith

keeps : (side : Side) → Timing side 0 (keeps_timing side)
keeps Charger = refl
keeps Vehicle = refl

module _ (t : Talker) (h : Within t) where
  -- in a state, with T1 and Tout0 below their limits, at a place of the list
  enters : (s : State) (verdict : Verdict) (place period age : ℕ) (timing : Bool)
      → place < t.versions.count → PeriodWithin period → AgeWithin age
      → StateWithin (moved t s verdict place period age timing) s
      → Within (moved t s verdict place period age timing)
  enters s verdict place period age timing p q a w =
      record { versions = h.versions; place = p; period = q; age = a; state = w }

  -- the state that it is in, with another T1 and Tout0
  stays_in : (s : State) → t.state ≡ s → (period age : ℕ) (timing : Bool) → PeriodWithin period → AgeWithin age
      → StateWithin (moved t s t.verdict t.place period age timing) s
      → Within (moved t t.state t.verdict t.place period age timing)
  stays_in s e period age timing q a w =
      subst (λ (x : State). Within (moved t x t.verdict t.place period age timing)) (sym e)
      (enters s t.verdict t.place period age timing h.place q a w)

  -- a place that is found, or the one where Ns is
  place_in : (p : Option ℕ) → ((n : ℕ) → p ≡ Some n → n < t.versions.count)
      → place_or p t.place < t.versions.count
  place_in None f = h.place
  place_in (Some n) f = f n refl

  found_in : (version : ℕ) → place_or (find t.versions version) t.place < t.versions.count
  found_in version =
      let v = t.versions in
      place_in (find v version)
      (λ n e. omega (arith, (place_of_holds (standing v) version n e).0, length-take v.count v.numbers))

  below_in : (version : ℕ) → place_or (find_below t.versions version) t.place < t.versions.count
  below_in version =
      let v = t.versions in
      place_in (find_below v version)
      (λ n e. omega (
        arith,
        (place_below_highest (standing v) (list_is v h.versions).rises version n e).inside,
        length-take v.count v.numbers,
      ))

  opens_within : Within (moved t S1 Continue t.place 0 0 false)
  opens_within = enters S1 Continue t.place 0 0 false h.place (omega arith) (omega arith) (continues, refl)

  fails_within : Within (moved t S4 Failure t.place 0 0 false)
  fails_within = enters S4 Failure t.place 0 0 false h.place (omega arith) (omega arith) (refl, (refl, refl, refl))

  -- S1, by the column
  negotiates_within : (version : ℕ) (k : Trigger) → t.state ≡ S1 → StateWithin t S1 → Agrees t k
      → Keeps (doing t version (vehicle_s1 k))
  unfolding doing
  negotiates_within version connected e w a = h
  negotiates_within version period_due e w a = stays_in S1 e 0 t.age t.timing (omega arith) h.age w
  negotiates_within version success_other e w a =
      enters S1 Continue t.place t.period t.age false h.place h.period h.age (continues, refl)
  negotiates_within version success_below2 e w a =
      enters S2 Success t.place 0 0 false h.place (omega arith) (omega arith) (refl, a, (refl, refl, refl))
  negotiates_within version success2 e w a =
      let timing = keeps_timing t.side in
      enters S3 Success t.place 0 0 timing h.place (omega arith) (omega arith) (refl, a, refl, keeps t.side)
  negotiates_within version failure_heard e w a = fails_within
  negotiates_within version continue_same e w a =
      enters S1 Success _ t.period t.age false (found_in version) h.period h.age (succeeds, refl)
  negotiates_within version continue_lower e w a = h
  negotiates_within version continue_higher e w a =
      enters S1 t.verdict _ t.period t.age false (below_in version) h.period h.age (w.0, refl)
  negotiates_within version continue_none e w a = fails_within
  negotiates_within version greeted e w a = fails_within
  negotiates_within version stopped e w a =
      enters S5 t.verdict t.place 0 0 false h.place (omega arith) (omega arith) (w.0, (refl, refl, refl))
  negotiates_within version limit_due e w a = fails_within

  -- a cell of either table
  cell_within : (version : ℕ) {s : State} {k : Trigger} {e : Entry} → Cell s k e → t.state ≡ s → StateWithin t s
      → Agrees t k
      → Keeps (doing t version e)
  unfolding doing
  cell_within version rests e w a = h
  cell_within version (negotiates {k}) e w a = negotiates_within version k e w a
  cell_within version starts e w a = opens_within
  cell_within version declines e w a = fails_within
  cell_within version goes_on e w a =
      stays_in S3 e 0 t.age t.timing (omega arith) h.age (w.0, w.1, w.2, restarts t.timing w.3)
    where
      restarts : (timing : Bool) → Timing t.side t.period timing → Timing t.side 0 timing
      restarts true f = f
      restarts false f = refl

  turns : (version : ℕ) (k : Trigger) → Agrees t k → Keeps (triggered t version k)
  turns version k a = cell_within version (cell_is t.side t.state k) refl h.state a

-- ---- calls

module _ (t : Talker) where
  not_due : period_is_due t ≡ false → PeriodWithin (next_period t)
  not_due e = let short : next_period t < 50 = leb-false _ _ e in omega arith

  not_over : limit_is_due t ≡ false → AgeWithin (next_age t)
  not_over e = let short : next_age t < 15000 = leb-false _ _ e in omega arith

module _ (t : Talker) (h : Within t) where
  ticks_talking : t.state ≡ S1 → StateWithin t S1 → Keeps (tick_talking t)
  unfolding tick_talking
  ticks_talking e w =
      pick_elim Keeps (limit_is_due t) (λ late. turns t h 0 limit_due tt)
      (λ early.
      let age = not_over t early in
      let waited = stays_in t h S1 e t.period (next_age t) t.timing h.period age w in
      pick_elim Keeps (period_is_due t) (λ due. turns (aged t t.period (next_age t)) waited 0 period_due tt)
      (λ soon. stays_in t h S1 e (next_period t) (next_age t) t.timing (not_due t soon) age w))

  ticks_settled : t.state ≡ S3 → StateWithin t S3 → Keeps (tick_settled t)
  unfolding tick_settled
  ticks_settled e w =
      pick_elim Keeps t.timing
      (λ on. pick_elim Keeps (period_is_due t) (λ due. turns t h 0 period_due tt)
      (λ soon. stays_in t h S3 e (next_period t) t.age t.timing (not_due t soon) h.age
      (w.0, w.1, w.2, runs on w.3)))
      (λ off. h)
    where
      runs : t.timing ≡ true → Timing t.side t.period t.timing
          → Timing t.side (next_period t) t.timing
      runs on f =
          let side : t.side ≡ Vehicle = subst (Timing t.side t.period) on f in
          subst (Timing t.side (next_period t)) (sym on) side

  ticks_in : (s : State) → t.state ≡ s → StateWithin t s → Keeps (tick_state t s)
  unfolding tick_state
  ticks_in S0 e w = h
  ticks_in S1 e w = ticks_talking e w
  ticks_in S2 e w = h
  ticks_in S3 e w = ticks_settled e w
  ticks_in S4 e w = h
  ticks_in S5 e w = h

  functions_in : (s : State) → t.state ≡ s → StateWithin t s → Keeps (functions_state t s)
  unfolding functions_state
  functions_in S0 e w = h
  functions_in S1 e w = h
  functions_in S2 e w = h
  functions_in S3 e w = stays_in t h S3 e 0 0 false (omega arith) (omega arith) (w.0, w.1, refl, refl)
  functions_in S4 e w = h
  functions_in S5 e w = h

  hears_judged : (r : Result Message) → Keeps (hear_judged t r)
  unfolding hear_judged
  hears_judged (accepted m) =
      turns t h m.version (heard_trigger t m.version m.verdict) (heard_agrees t m.version m.verdict)
  hears_judged (refused number) = h

  call_within : (c : Call) → Keeps (answer_of t c)
  unfolding connect_of tick_of hear_of stop_of greet_of functions_heard_of
  call_within connect = turns t h 0 connected tt
  call_within tick = ticks_in t.state refl h.state
  call_within (hear bytes) = hears_judged (read_of bytes)
  call_within stop = turns t h 0 stopped tt
  call_within greet = turns t h 0 greeted tt
  call_within functions_heard = functions_in t.state refl h.state

-- ---- the theorems

pub reachable_within : {t : Talker} → Reachable t → Within t
reachable_within (made {t = t} side versions control e) = makes side versions control t e
reachable_within (called {t = t} c r) = call_within t (reachable_within r) c

-- the version at Ns is one of the list, and so has three bytes
own_three : (t : Talker) → Within t → own_version t < 0x1000000
own_three t h =
    let v = t.versions in
    omega (
      arith,
      three_bytes_lem (standing v) (list_is v h.versions).three t.place,
      get_or-take v.count v.numbers t.place 0 h.place,
    )

pub within_exact : (t : Talker) → Within t → Exact t
unfolding increment_of
within_exact t h =
    record {
      grows = omega arith;
      ages = omega arith;
      due = at_bound 50 t.period (omega arith) (omega arith);
      over = at_bound 15000 t.age (omega arith) (omega arith);
      read = read_written _ (own_three t h);
    }

pub every_reachable : EveryReachable
every_reachable t r = let h = reachable_within r in (h, within_exact t h)
