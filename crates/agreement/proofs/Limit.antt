-- How far an end's talk has come, by its events, is what its state says: S0 before its connect, S1 with its age in ticks, and
-- the other states once it has reported. In S1 the age is below 15000, so that the tick that reaches it is the only one that
-- fails.
-- Assumes nothing.
use Prim.Native.Nat.{ℕ, ◌+◌, ◌<◌}
use mathlib.Core.List.{List, [], ◌∷◌}
use mathlib.Core.Path.{◌≡◌, refl, sym, subst}
use native.Mathlib.Omega.{arith}
use borrow.Author.Tests.{leb-true, leb-false}
use Rattle.frame.proofs.Choice.{pick_elim}
use Rattle.frame.specs.Count.{increment_of}
use Rattle.frame.specs.Result.{Result, accepted, refused}
use Rattle.version.proofs.Cells.{Cell, rests, negotiates, starts, declines, goes_on, cell_is}
use Rattle.version.proofs.Places.{made_is}
use Rattle.std.specs.Prelude.{Some, None}
use Rattle.std.specs.declared.option.Option.{Option}
use Rattle.version.specs.List.{find, find_below}
use Rattle.version.specs.Message.{read_of}
use Rattle.version.specs.Table.{Trigger, connected, period_due, success_other, success_below2, success2, failure_heard, continue_same, continue_lower, continue_higher, continue_none, greeted, stopped, limit_due, Entry, fails, vehicle_s1, cell_of}
use Rattle.version.specs.Talk.{make_of, doing, triggered, connect_of, stop_of, greet_of, functions_state, functions_heard_of, success_trigger, higher_trigger, else_trigger, continue_at, continue_trigger, heard_trigger, hear_judged, hear_of, next_age, limit_is_due, period_is_due, aged, tick_talking, tick_settled, tick_state, tick_of}
use Rattle.version.specs.Told.{Told, Outcome, quiet, agreed, failed, left}
use Rattle.version.specs.Told as told
use Rattle.version.specs.declared.Message.{Message}
use Rattle.version.specs.declared.Side.{Side}
use Rattle.version.specs.declared.Side.TheVariants.{Charger, Vehicle}
use Rattle.version.specs.declared.State.{State}
use Rattle.version.specs.declared.State.TheVariants.{S0, S1, S2, S3, S4, S5}
use Rattle.version.specs.declared.Talker.{Talker}
use Rattle.version.specs.declared.Verdict.{Verdict}
use Rattle.version.specs.declared.Verdict.TheVariants.{Continue, Success, Failure}
use Rattle.version.specs.declared.Versions.{Versions}
use Rattle.agreement.specs.Limit.{LimitAt, LimitKept, Limit}
use Rattle.agreement.specs.Run.{Past, fresh, next, run_of}
use Rattle.agreement.specs.Seen.{Talk, unconnected, since, over, before_limit, opened, ticked, talk_after, unless_reported, talk_in}
use Rattle.agreement.specs.Step.{Rest, gone, still, given_of, done_of, step_at}
use Rattle.agreement.specs.World.{World, Action, connect, tick, hear, repeat, lose, stop, greet, functions_heard, Call, Event}

-- what a state and its age say of the talk
abbrev StandsIn : State → ℕ → Talk → Type 0
StandsIn S0 age talk = talk ≡ unconnected
StandsIn S1 age talk = (talk ≡ since age) × (age < 15000)
StandsIn S2 age talk = talk ≡ over
StandsIn S3 age talk = talk ≡ over
StandsIn S4 age talk = talk ≡ over
StandsIn S5 age talk = talk ≡ over

abbrev Stands : Talk → Talker → Type 0
Stands talk t = StandsIn t.state t.age talk

-- ---- a hearing is no connect

abbrev Connects : Trigger → Type 0
Connects connected = Unit
Connects period_due = ⊥
Connects success_other = ⊥
Connects success_below2 = ⊥
Connects success2 = ⊥
Connects failure_heard = ⊥
Connects continue_same = ⊥
Connects continue_lower = ⊥
Connects continue_higher = ⊥
Connects continue_none = ⊥
Connects greeted = ⊥
Connects stopped = ⊥
Connects limit_due = ⊥

abbrev Otherwise : Trigger → Type 0
Otherwise k = Connects k → ⊥

module _ (t : Talker) (v : ℕ) where
  higher_otherwise : (p : Option ℕ) → Otherwise (higher_trigger p)
  higher_otherwise None h = h
  higher_otherwise (Some n) h = h

  continue_otherwise : (p : Option ℕ) → Otherwise (continue_at t v p)
  unfolding else_trigger
  continue_otherwise None =
      pick_elim Otherwise _ (λ lower h. h) (λ up. higher_otherwise (find_below t.versions v))
  continue_otherwise (Some n) = λ h. h

  success_otherwise : Otherwise (success_trigger t v)
  unfolding success_trigger
  success_otherwise =
      pick_elim Otherwise _ (λ same. pick_elim Otherwise _ (λ low h. h) (λ high h. h)) (λ other h. h)

  heard_otherwise : (verdict : Verdict) → Otherwise (heard_trigger t v verdict)
  unfolding heard_trigger continue_trigger
  heard_otherwise Continue = continue_otherwise (find t.versions v)
  heard_otherwise Success = success_otherwise
  heard_otherwise Failure = λ h. h

-- ---- calls that neither connect nor tick

module _ (talk : Talk) (t : Talker) where
  -- the talk after such a call
  abbrev Leaves : Told → Type 0
  Leaves a = Stands (unless_reported a.outcome talk) a.next

  negotiated : (v : ℕ) (k : Trigger) → StandsIn S1 t.age talk → Stands talk t → Leaves (doing t v (vehicle_s1 k))
  unfolding doing
  negotiated v connected s h = h
  negotiated v period_due s h = h
  negotiated v success_other s h = s
  negotiated v success_below2 s h = refl
  negotiated v success2 s h = refl
  negotiated v failure_heard s h = refl
  negotiated v continue_same s h = s
  negotiated v continue_lower s h = h
  negotiated v continue_higher s h = s
  negotiated v continue_none s h = refl
  negotiated v greeted s h = refl
  negotiated v stopped s h = refl
  negotiated v limit_due s h = refl

  cell_leaves : (v : ℕ) {state : State} {k : Trigger} {e : Entry} → Cell state k e → Otherwise k
      → StandsIn state t.age talk
      → Stands talk t
      → Leaves (doing t v e)
  unfolding doing
  cell_leaves v rests other s h = h
  cell_leaves v (negotiates {k}) other s h = negotiated v k s h
  cell_leaves v starts other s h = absurd (other tt)
  cell_leaves v declines other s h = refl
  cell_leaves v goes_on other s h = h

  triggered_leaves : (v : ℕ) (k : Trigger) → Otherwise k → Stands talk t → Leaves (triggered t v k)
  triggered_leaves v k other h = cell_leaves v (cell_is t.side t.state k) other h h

  judged_leaves : (j : Result Message) → Stands talk t → Leaves (hear_judged t j)
  unfolding hear_judged
  judged_leaves (accepted m) h =
      triggered_leaves m.version (heard_trigger t m.version m.verdict) (heard_otherwise t m.version m.verdict) h
  judged_leaves (refused number) h = h

  given_leaves : (k : Rest) (line : List (List ℕ)) → Stands talk t → Leaves (given_of k t line).told
  unfolding given_of hear_of
  given_leaves k [] h = h
  given_leaves k (m ∷ rest) h = judged_leaves (read_of m) h

  functions_leave : (s : State) → t.state ≡ s → Stands talk t → Leaves (functions_state t s)
  unfolding functions_state
  functions_leave S0 q h = h
  functions_leave S1 q h = h
  functions_leave S2 q h = h
  functions_leave S3 q h = let settled : talk ≡ over = rw q at h in rw q settled
  functions_leave S4 q h = h
  functions_leave S5 q h = h

  -- ---- a connect

  abbrev Opens : Told → Type 0
  Opens a = Stands (unless_reported a.outcome (opened talk)) a.next

  -- it finds the talk begun, or over
  found : opened talk ≡ talk → Stands talk t → Stands (opened talk) t
  found same h = rw same h

  connect_opens : (side : Side) (s : State) → StandsIn s t.age talk → Stands talk t
      → Opens (doing t 0 (cell_of side s connected))
  unfolding doing
  connect_opens Charger S0 s h = rw s (refl, omega arith)
  connect_opens Vehicle S0 s h = rw s (refl, omega arith)
  connect_opens Charger S1 s h = found (rw s.0 refl) h
  connect_opens Vehicle S1 s h = found (rw s.0 refl) h
  connect_opens Charger S2 s h = found (rw s refl) h
  connect_opens Vehicle S2 s h = found (rw s refl) h
  connect_opens Charger S3 s h = found (rw s refl) h
  connect_opens Vehicle S3 s h = found (rw s refl) h
  connect_opens Charger S4 s h = found (rw s refl) h
  connect_opens Vehicle S4 s h = found (rw s refl) h
  connect_opens Charger S5 s h = found (rw s refl) h
  connect_opens Vehicle S5 s h = found (rw s refl) h

-- ---- a tick

-- what a tick reports, by how far the talk had come
abbrev FailsAt : Outcome → Talk → Type 0
FailsAt o talk = (o ≡ failed → talk ≡ before_limit) × (talk ≡ before_limit → o ≡ failed)

-- the talk one tick later, or over at the limit
abbrev Ticks : Talk → Told → Type 0
Ticks talk a = Stands (unless_reported a.outcome (ticked talk)) a.next × FailsAt a.outcome talk

-- a report of nothing is no failure
abbrev Fails : Outcome → Type 0
Fails quiet = ⊥
Fails (told.refused number) = ⊥
Fails (agreed version) = ⊥
Fails failed = Unit
Fails left = ⊥

no_failure : quiet ≡ failed → ⊥
no_failure e = subst Fails (sym e) tt

-- a talk that is not begun, or over, is at no tick
abbrev At : ℕ → Talk → Type 0
At n unconnected = ⊥
At n (since ticks) = n ≡ ticks
At n over = ⊥

at_tick : {n : ℕ} {talk : Talk} → talk ≡ since n → At n talk
at_tick {n} e = subst (At n) (sym e) refl

-- a tick of which nothing is reported, where the talk is not at the limit
silent : (talk : Talk) → (At 14999 talk → ⊥) → FailsAt quiet talk
silent talk none = ((λ e. absurd (no_failure e)), (λ e. absurd (none (at_tick e))))

-- T1 is due: a message goes out, and the state stays
period_cell : (talk : Talk) (x : Talker) {state : State} {e : Entry} → Cell state period_due e → (At 14999 talk → ⊥)
    → Stands (ticked talk) x
    → Ticks talk (doing x 0 e)
unfolding doing
period_cell talk x rests none h = (h, silent talk none)
period_cell talk x negotiates none h = (h, silent talk none)
period_cell talk x goes_on none h = (h, silent talk none)

limit_fails : (side : Side) (state : State) → state ≡ S1 → cell_of side state limit_due ≡ fails
limit_fails Charger state q = rw q
limit_fails Vehicle state q = rw q

module _ (t : Talker) where
  talking_ticks : t.state ≡ S1 → t.age < 15000 → Ticks (since t.age) (tick_talking t)
  unfolding tick_talking doing increment_of
  talking_ticks q young =
      pick_elim (Ticks (since t.age)) (limit_is_due t)
      (λ late.
      let last : t.age ≡ 14999 = omega (arith, leb-true 15000 (next_age t) late) in
      rw (limit_fails t.side t.state q) (refl, ((λ e. rw last refl), (λ e. refl))))
      (λ early.
      let less : next_age t < 15000 = leb-false 15000 (next_age t) early in
      let one : next_age t ≡ t.age + 1 = omega arith in
      let none : At 14999 (since t.age) → ⊥ = λ e. omega arith in
      let stands : StandsIn S1 (next_age t) (since (t.age + 1)) = (rw one refl, less) in
      pick_elim (Ticks (since t.age)) (period_is_due t)
      (λ due.
      period_cell (since t.age) (aged t t.period (next_age t)) (cell_is t.side t.state period_due) none (rw q stands))
      (λ soon. (rw q stands, silent (since t.age) none)))

  settled_ticks : t.state ≡ S3 → Ticks over (tick_settled t)
  unfolding tick_settled
  settled_ticks q =
      pick_elim (Ticks over) t.timing
      (λ on.
      pick_elim (Ticks over) (period_is_due t)
      (λ due. period_cell over t (cell_is t.side t.state period_due) (λ e. e) (rw q refl))
      (λ soon. (rw q refl, silent over (λ e. e))))
      (λ off. (rw q refl, silent over (λ e. e)))

  state_ticks : (talk : Talk) (s : State) → t.state ≡ s → StandsIn s t.age talk → Ticks talk (tick_state t s)
  unfolding tick_state
  state_ticks talk S0 q h = rw h (rw q refl, silent unconnected (λ e. e))
  state_ticks talk S1 q h = rw h.0 (talking_ticks q h.1)
  state_ticks talk S2 q h = rw h (rw q refl, silent over (λ e. e))
  state_ticks talk S3 q h = rw h (settled_ticks q)
  state_ticks talk S4 q h = rw h (rw q refl, silent over (λ e. e))
  state_ticks talk S5 q h = rw h (rw q refl, silent over (λ e. e))

-- ---- every call

-- of one event, by its action: only a tick is asked
abbrev LimitOf : Action → Outcome → Talk → Type 0
LimitOf connect o talk = Unit
LimitOf tick o talk = FailsAt o talk
LimitOf hear o talk = Unit
LimitOf repeat o talk = Unit
LimitOf lose o talk = Unit
LimitOf stop o talk = Unit
LimitOf greet o talk = Unit
LimitOf functions_heard o talk = Unit

kept_at : (e : Event) (past : List Event) → LimitOf e.action e.outcome (talk_in e.side past) → LimitAt e past
kept_at e past l =
    let of : e.action ≡ tick → FailsAt e.outcome (talk_in e.side past) =
    λ q. subst (λ (x : Action). LimitOf x e.outcome (talk_in e.side past)) q l in
    record { fails = λ m. (of m.0).1 m.1; only = λ q f. (q, (of q).0 f) }

abbrev Counted : Talk → Action → Told → Type 0
Counted talk action a =
    Stands (unless_reported a.outcome (talk_after action talk)) a.next × LimitOf action a.outcome talk

done_counted : (talk : Talk) (t : Talker) (line : List (List ℕ)) (action : Action) → Stands talk t
    → Counted talk action (done_of t line action).told
unfolding done_of connect_of tick_of stop_of greet_of functions_heard_of
done_counted talk t line connect h = (connect_opens talk t t.side t.state h h, tt)
done_counted talk t line tick h = state_ticks t talk t.state refl h
done_counted talk t line hear h = (given_leaves talk t gone line h, tt)
done_counted talk t line repeat h = (given_leaves talk t still line h, tt)
done_counted talk t line lose h = (h, tt)
done_counted talk t line stop h = (triggered_leaves talk t 0 stopped (λ k. k) h, tt)
done_counted talk t line greet h = (triggered_leaves talk t 0 greeted (λ k. k) h, tt)
done_counted talk t line functions_heard h = (functions_leave talk t t.state refl h, tt)

record Times (w : World) (events : List Event) : Type 0 where
  charger : Stands (talk_in Charger events) w.charger
  vehicle : Stands (talk_in Vehicle events) w.vehicle
  limit : LimitKept events

step : (w : World) (events : List Event) → Times w events → (side : Side) (action : Action)
    → Times (step_at w side action).world ((step_at w side action).event ∷ events)
unfolding step_at talk_in
step w events i Charger action =
    let k = done_counted (talk_in Charger events) w.charger w.to_charger action i.charger in
    record { charger = k.0; vehicle = i.vehicle; limit = (kept_at _ events k.1, i.limit) }
step w events i Vehicle action =
    let k = done_counted (talk_in Vehicle events) w.vehicle w.to_vehicle action i.vehicle in
    record { charger = i.charger; vehicle = k.0; limit = (kept_at _ events k.1, i.limit) }

run : (calls : List Call) (p : Past) → Times p.world p.events
    → Times (run_of p calls).world (run_of p calls).events
unfolding run_of
run [] p i = i
run (c ∷ calls) p i = run calls (next p c) (step p.world p.events i c.side c.action)

-- making answers S0
made_stands : (side : Side) (v : Versions) (control : ℕ) (t : Talker) → make_of side v control ≡ accepted t
    → Stands unconnected t
made_stands side v control t e = subst (Stands unconnected) (made_is side v control t e).1 refl

pub limit : Limit
unfolding talk_in
limit versions versions' eight eight' control control' charger vehicle e e' calls =
    (run calls (fresh charger vehicle)
    (record {
      charger = made_stands Charger versions control charger e;
      vehicle = made_stands Vehicle versions' control' vehicle e';
      limit = tt;
    })
    ).limit
