-- What a fair message of the other end makes an end do, and every other call: each asks only what is known.
-- Assumes nothing.
use Prim.Native.Nat.{ℕ, ◌<◌, ◌≤◌}
use mathlib.Core.Bool.{true, false}
use mathlib.Core.List.{List}
use mathlib.Core.Path.{◌≡◌, refl, sym, ◌∙◌, subst}
use native.Mathlib.Omega.{arith}
use borrow.Author.Tests.{ltb-false, eqb-true}
use lib.Dec.{eqb, ltb}
use lib.ListN.{get_or}
use Rattle.frame.proofs.Choice.{pick_elim}
use Rattle.frame.specs.Result.{Result, accepted, refused}
use Rattle.version.proofs.Cells.{Cell, rests, negotiates, starts, declines, goes_on, cell_is}
use Rattle.version.proofs.Places.{at_standing, place_of_holds, place_of_none, place_below_highest, place_below_none}
use Rattle.std.specs.Prelude.{Some, None}
use Rattle.std.specs.declared.option.Option.{Option}
use Rattle.version.specs.List.{at, standing, rising, place_of, find, find_below}
use Rattle.version.specs.Message.{read_of}
use Rattle.version.specs.Table.{Trigger, connected, period_due, greeted, stopped, limit_due, Entry, fails, vehicle_s1, cell_of}
use Rattle.version.specs.Talk.{place_or, doing, triggered, connect_of, stop_of, greet_of, functions_state, functions_heard_of, success_trigger, higher_trigger, else_trigger, continue_at, continue_trigger, heard_trigger, hear_judged, hear_of, aged, tick_talking, tick_settled, tick_state, tick_of}
use Rattle.version.specs.Told.{Told, failed, own_version}
use Rattle.version.specs.declared.Message.{Message}
use Rattle.version.specs.declared.State.{State}
use Rattle.version.specs.declared.State.TheVariants.{S0, S1, S2, S3, S4, S5}
use Rattle.version.specs.declared.Talker.{Talker}
use Rattle.version.specs.declared.Verdict.{Verdict}
use Rattle.version.specs.declared.Verdict.TheVariants.{Continue, Success, Failure}
use Rattle.agreement.specs.Agreement.{Holds, NoneShared}
use Rattle.agreement.proofs.Ends.{Above, Sure, End, FairOf, Fair, FairBytes, Good, Allows, allowed, does, quiet_good, in_place, owns, Points}

-- no place of the list holds it
pub missing : (s : List ℕ) (v : ℕ) → place_of s v 0 ≡ None → Holds s v → ⊥
missing s v e h = place_of_none s v e h.place h.inside h.is

-- what is known, where a message is no failure, of the version that it names
module _ (H : ℕ → Type 0) where
  abbrev pub NamesOf : Verdict → ℕ → Type 0
  NamesOf Continue v = H v
  NamesOf Success v = H v
  NamesOf Failure v = Unit

  abbrev pub Names : Result Message → Type 0
  Names (accepted m) = NamesOf m.verdict m.version
  Names (refused number) = Unit

module _ (mine theirs : List ℕ) (P : Type 0) (H : ℕ → Type 0) (rises : rising mine ≡ true)
    (lone : NoneShared mine theirs → P) where
  -- the own list, as it is kept
  kept : (t : Talker) (c : ℕ) → End mine theirs P H t → Holds mine c → Holds (standing t.versions) c
  kept t c e h = rw e.list h

  lower_sure : (verdict : Verdict) (v w : ℕ) → (Holds theirs v → ⊥) → Sure mine theirs P H verdict v
      → Sure mine theirs P H verdict w
  lower_sure Continue v w no_other s = tt
  lower_sure Success v w no_other s = absurd (no_other s.0)
  lower_sure Failure v w no_other s = s

  module _ (t : Talker) (v : ℕ) (e : End mine theirs P H t) (h : Holds theirs v) (a : Above theirs mine v) (x : H v) where
    abbrev AllowsFor : Trigger → Type 0
    AllowsFor k = Allows mine theirs P H t v (vehicle_s1 k)

    -- a version that is not in the own list is above every shared one
    shared_below : find t.versions v ≡ None → (c : ℕ) → Holds mine c → Holds theirs c → c < v
    shared_below none c hc kc =
        let le : c ≤ v = a c kc hc in
        let ne : c ≡ v → ⊥ = λ same. missing (standing t.versions) v none (kept t v e (rw same at hc)) in
        omega arith

    -- the own version is higher: Ns goes to the highest below the one heard, or there is none and nothing is shared
    higher : find t.versions v ≡ None → v ≤ own_version t
        → (p : Option ℕ) → find_below t.versions v ≡ p → AllowsFor (higher_trigger p)
    higher none over None q =
        lone (λ c hc kc.
        let r = kept t c e hc in
        let low : c < v = shared_below none c hc kc in
        let high : v ≤ get_or (standing t.versions) r.place 0 =
        place_below_none (standing t.versions) v q r.place r.inside in
        omega (arith, r.is))
    higher none over (Some n) q =
        let top = place_below_highest (standing t.versions) (rw e.list rises) v n q in
        let is : get_or (standing t.versions) n 0 ≡ at t.versions n = at_standing t.versions n top.inside in
        let alone : Holds theirs (own_version t) → ⊥ =
        λ k. let low = shared_below none (own_version t) (owns mine theirs P H e) k in omega arith in
        let points : Points mine theirs P H t n t.verdict =
        record {
          inside = rw e.list at top.inside;
          above = λ c hc kc.
              let r = kept t c e hc in
              let low : c < v = shared_below none c hc kc in
              let most = top.most r.place r.inside (omega (arith, r.is)) in
              omega (arith, r.is, is);
          sure = lower_sure t.verdict (own_version t) (at t.versions n) alone e.sure;
          falls = omega (arith, is, top.less);
        } in
        subst (λ (x : Option ℕ). Points mine theirs P H t (place_or x t.place) t.verdict) (sym q) points

    not_found : find t.versions v ≡ None → AllowsFor (else_trigger t v)
    unfolding else_trigger
    not_found q =
        pick_elim AllowsFor (ltb (own_version t) v) (λ lower. tt)
        (λ up. higher q (ltb-false (own_version t) v up) (find_below t.versions v) refl)

    continued : (p : Option ℕ) → find t.versions v ≡ p → AllowsFor (continue_at t v p)
    continued None q = not_found q
    continued (Some n) q =
        let found = place_of_holds (standing t.versions) v n q in
        let is : at t.versions n ≡ v = sym (at_standing t.versions n found.0) ∙ found.1 in
        let holds : Holds (standing t.versions) v = record { place = n; inside = found.0; is = found.1 } in
        let mine_too : Holds mine v = rw e.list at holds in
        let points : Points mine theirs P H t n Success =
        record {
          inside = rw e.list at found.0;
          above = rw is (λ c hc kc. a c kc hc);
          sure = rw is (h, x);
          falls = rw is (e.above v mine_too h);
        } in
        subst (λ (x : Option ℕ). Points mine theirs P H t (place_or x t.place) Success) (sym q) points

    agreeing : AllowsFor (success_trigger t v)
    unfolding success_trigger
    agreeing =
        pick_elim AllowsFor (eqb v (own_version t))
        (λ same.
        let sure : Sure mine theirs P H Success v = (h, x) in
        let holds : Sure mine theirs P H Success (own_version t) =
        subst (Sure mine theirs P H Success) (eqb-true v (own_version t) same) sure in
        pick_elim AllowsFor _ (λ low. holds) (λ high. holds))
        (λ other. tt)

  -- what a fair message of the other end asks is known
  heard_allows : (t : Talker) (v : ℕ) (verdict : Verdict) → End mine theirs P H t → FairOf theirs mine P verdict v
      → NamesOf H verdict v
      → Allows mine theirs P H t v (vehicle_s1 (heard_trigger t v verdict))
  unfolding heard_trigger continue_trigger
  heard_allows t v Continue e f x = continued t v e f.0 f.1 x (find t.versions v) refl
  heard_allows t v Success e f x = agreeing t v e f.0 f.1 x
  heard_allows t v Failure e f x = f

  -- a trigger, where what its cell asks is known
  triggered_good : (t : Talker) (v : ℕ) → End mine theirs P H t → (k : Trigger) → Allows mine theirs P H t v (vehicle_s1 k)
      → Good mine theirs P H t (triggered t v k)
  triggered_good t v e k h =
      does mine theirs P H t v e (cell_of t.side t.state k)
      (allowed mine theirs P H t v (cell_is t.side t.state k) h)

  hear_judged_lem : (t : Talker) (j : Result Message) → End mine theirs P H t → Fair theirs mine P j → Names H j
      → Good mine theirs P H t (hear_judged t j)
  unfolding hear_judged
  hear_judged_lem t (accepted m) e f x =
      triggered_good t m.version e (heard_trigger t m.version m.verdict)
      (heard_allows t m.version m.verdict e f x)
  hear_judged_lem t (refused number) e f x = absurd f

  pub hear_good : (t : Talker) (bytes : List ℕ) → End mine theirs P H t → FairBytes theirs mine P bytes → Names H (read_of bytes)
      → Good mine theirs P H t (hear_of t bytes)
  unfolding hear_of
  hear_good t bytes e f x = hear_judged_lem t (read_of bytes) e f x

  -- ---- the other calls

  pub connect_good : (t : Talker) → End mine theirs P H t → Good mine theirs P H t (connect_of t)
  unfolding connect_of
  connect_good t e = triggered_good t 0 e connected tt

  pub stop_good : (t : Talker) → End mine theirs P H t → Good mine theirs P H t (stop_of t)
  unfolding stop_of
  stop_good t e = triggered_good t 0 e stopped tt

  functions_good : (t : Talker) (s : State) → End mine theirs P H t → Good mine theirs P H t (functions_state t s)
  unfolding functions_state
  functions_good t S0 e = quiet_good mine theirs P H t t e (omega arith)
  functions_good t S1 e = quiet_good mine theirs P H t t e (omega arith)
  functions_good t S2 e = quiet_good mine theirs P H t t e (omega arith)
  functions_good t S3 e =
      quiet_good mine theirs P H t _ (in_place mine theirs P H t t.state t.verdict 0 0 false e e.sure) (omega arith)
  functions_good t S4 e = quiet_good mine theirs P H t t e (omega arith)
  functions_good t S5 e = quiet_good mine theirs P H t t e (omega arith)

  pub functions_heard_good : (t : Talker) → End mine theirs P H t → Good mine theirs P H t (functions_heard_of t)
  unfolding functions_heard_of
  functions_heard_good t e = functions_good t t.state e

  -- a call that fails only with a reason: a greeting, a tick at the limit
  failing_allows : (t : Talker) {state : State} {k : Trigger} {e : Entry} → vehicle_s1 k ≡ fails → Cell state k e
      → ((doing t 0 e).outcome ≡ failed → P) → Allows mine theirs P H t 0 e
  unfolding doing
  failing_allows t q rests h = tt
  failing_allows t q negotiates h = rw q (h (rw q))
  failing_allows t q starts h = tt
  failing_allows t q declines h = h refl
  failing_allows t q goes_on h = tt

  pub greet_good : (t : Talker) → End mine theirs P H t → ((greet_of t).outcome ≡ failed → P) → Good mine theirs P H t (greet_of t)
  unfolding greet_of
  greet_good t e h =
      does mine theirs P H t 0 e (cell_of t.side t.state greeted)
      (failing_allows t refl (cell_is t.side t.state greeted) h)

  -- a tick's answer, where a failure has its reason
  abbrev Ticked : Talker → Told → Type 0
  Ticked t a = (a.outcome ≡ failed → P) → Good mine theirs P H t a

  aged_end : (t : Talker) (period age : ℕ) → End mine theirs P H t → End mine theirs P H (aged t period age)
  aged_end t period age e = in_place mine theirs P H t t.state t.verdict period age t.timing e e.sure

  talking_good : (t : Talker) → End mine theirs P H t → Ticked t (tick_talking t)
  unfolding tick_talking
  talking_good t e =
      pick_elim (Ticked t) _
      (λ late h.
      does mine theirs P H t 0 e (cell_of t.side t.state limit_due)
      (failing_allows t refl (cell_is t.side t.state limit_due) h))
      (λ early.
      pick_elim (Ticked t) _
      (λ due h.
      let g = triggered_good (aged t t.period _) 0 (aged_end t t.period _ e) period_due tt in
      record { after = g.after; said = g.said; reports = g.reports; falls = g.falls })
      (λ soon h. quiet_good mine theirs P H t _ (aged_end t _ _ e) (omega arith)))

  settled_good : (t : Talker) → End mine theirs P H t → Ticked t (tick_settled t)
  unfolding tick_settled
  settled_good t e =
      pick_elim (Ticked t) _
      (λ on.
      pick_elim (Ticked t) _
      (λ due h. triggered_good t 0 e period_due tt)
      (λ soon h. quiet_good mine theirs P H t _ (aged_end t _ _ e) (omega arith)))
      (λ off h. quiet_good mine theirs P H t t e (omega arith))

  tick_state_good : (t : Talker) (s : State) → End mine theirs P H t → Ticked t (tick_state t s)
  unfolding tick_state
  tick_state_good t S0 e h = quiet_good mine theirs P H t t e (omega arith)
  tick_state_good t S1 e h = talking_good t e h
  tick_state_good t S2 e h = quiet_good mine theirs P H t t e (omega arith)
  tick_state_good t S3 e h = settled_good t e h
  tick_state_good t S4 e h = quiet_good mine theirs P H t t e (omega arith)
  tick_state_good t S5 e h = quiet_good mine theirs P H t t e (omega arith)

  pub tick_good : (t : Talker) → End mine theirs P H t → Ticked t (tick_of t)
  unfolding tick_of
  tick_good t e h = tick_state_good t t.state e h
