-- What follows at every moment: an end whose success stands hears that version or a failure, since versions on the line fall
-- and are at or above every shared one; a success heard is where the end is; and a version that does not rise, in a rising
-- list, is a place that does not rise.
-- Assumes nothing.
use Prim.Native.Nat.{ℕ, ◌<◌, ◌≤◌}
use mathlib.Core.Bool.{Bool, true, false, false≢true}
use mathlib.Core.List.{List, ◌∷◌}
use mathlib.Core.Path.{◌≡◌, refl, ap, subst}
use native.Mathlib.Omega.{arith}
use borrow.Author.Tests.{eqb-false}
use lib.Dec.{eqb}
use Rattle.frame.proofs.Choice.{pick_elim}
use Rattle.frame.specs.Result.{Result, accepted, refused}
use Rattle.version.proofs.Places.{rising_below}
use Rattle.std.specs.Prelude.{Some, None}
use Rattle.std.specs.declared.option.Option.{Option}
use Rattle.version.specs.List.{standing, rising, find}
use Rattle.version.specs.Message.{read_of}
use Rattle.version.specs.Table.{Trigger}
use Rattle.version.specs.Talk.{success_trigger, continue_at, continue_trigger, heard_trigger}
use Rattle.version.specs.Told.{own_version}
use Rattle.version.specs.declared.Message.{Message}
use Rattle.version.specs.declared.Side.{Side}
use Rattle.version.specs.declared.Side.TheVariants.{Charger, Vehicle}
use Rattle.version.specs.declared.Talker.{Talker}
use Rattle.version.specs.declared.Verdict.{Verdict}
use Rattle.version.specs.declared.Verdict.TheVariants.{Continue, Success, Failure}
use Rattle.agreement.specs.Agreement.{Holds}
use Rattle.agreement.specs.Steady.{end_of, unquestioned, First, Understood, Steadiness}
use Rattle.agreement.specs.Step.{step_at}
use Rattle.agreement.specs.World.{World, Action, Event}
use Rattle.agreement.proofs.Ends.{Line, more, Sure, End, owns, owns_at, FairOf, Fair}
use Rattle.agreement.proofs.Hears.{missing, NamesOf, Names}
use Rattle.agreement.proofs.Links.{Link}
use Rattle.agreement.proofs.Order.{AtMost, Caught, ReachesOf, Reaches}
use Rattle.agreement.proofs.Theorem.{Inv, Lists, by_charger_lem, by_vehicle_lem, lists, ran}

first : {Q : List ℕ → Type 0} {b : List ℕ} {bs : List (List ℕ)} → Line Q (b ∷ bs) → Q b
first (more p l) = p

-- a continue and a success are no failure
abbrev is_failure : Verdict → Bool
is_failure Continue = false
is_failure Success = false
is_failure Failure = true

-- ---- the first message on the line to an end

module _ (mine theirs : List ℕ) (P : Type 0) (H : ℕ → Type 0) (t : Talker) (e : End mine theirs P H t) where
  abbrev Quiet : Trigger → Type 0
  Quiet k = unquestioned k ≡ true

  same_place : (v : ℕ) → v ≡ own_version t → (p : Option ℕ) → find t.versions v ≡ p → Quiet (continue_at t v p)
  same_place v same None q = absurd (missing (standing t.versions) v q (rw same (rw e.list (owns mine theirs P H e))))
  same_place v same (Some n) q = refl

  -- where the own success stands, every version heard is the own one
  own_again : Holds theirs (own_version t) → (verdict : Verdict) (v : ℕ) → NamesOf (λ w. w ≤ own_version t) verdict v
      → FairOf theirs mine P verdict v
      → (verdict ≡ Failure → ⊥)
      → v ≡ own_version t
  own_again k Continue v le f other = let ge = f.1 (own_version t) k (owns mine theirs P H e) in omega arith
  own_again k Success v le f other = let ge = f.1 (own_version t) k (owns mine theirs P H e) in omega arith
  own_again k Failure v le f other = absurd (other refl)

  own_success : (v : ℕ) → v ≡ own_version t → Quiet (success_trigger t v)
  unfolding success_trigger
  own_success v same =
      pick_elim Quiet (eqb v (own_version t)) (λ yes. pick_elim Quiet _ (λ low. refl) (λ high. refl))
      (λ other. absurd (eqb-false v (own_version t) other same))

  -- so that the column is that of the same version
  own_heard : Holds theirs (own_version t) → (verdict : Verdict) (v : ℕ) → NamesOf (λ w. w ≤ own_version t) verdict v
      → FairOf theirs mine P verdict v
      → Quiet (heard_trigger t v verdict)
  unfolding heard_trigger continue_trigger
  own_heard k Continue v le f =
      same_place v (own_again k Continue v le f (λ q. false≢true (ap is_failure q))) (find t.versions v) refl
  own_heard k Success v le f = own_success v (own_again k Success v le f (λ q. false≢true (ap is_failure q)))
  own_heard k Failure v le f = refl

  -- where a success is heard
  success_heard : (verdict : Verdict) (v : ℕ) → verdict ≡ Success → FairOf theirs mine P verdict v
      → ReachesOf (own_version t) verdict v
      → v ≡ own_version t
  success_heard verdict v s f r =
      let fair : FairOf theirs mine P Success v = subst (λ (x : Verdict). FairOf theirs mine P x v) s f in
      let reach : own_version t ≤ v = subst (λ (x : Verdict). ReachesOf (own_version t) x v) s r in
      let low = e.above v fair.2 fair.0 in
      omega arith

module _ (mine theirs : List ℕ) (P : Type 0) (peer t : Talker) (bytes : List ℕ) (rest : List (List ℕ))
    (k : Link theirs mine P peer t (bytes ∷ rest)) where
  abbrev H : ℕ → Type 0
  H = Caught (own_version peer) (bytes ∷ rest)

  standing_sure : t.verdict ≡ Success → Sure mine theirs P H Success (own_version t)
  standing_sure s = subst (λ (x : Verdict). Sure mine theirs P H x (own_version t)) s k.end.sure

  -- what is known of the first message, as it is read
  module _ (s : t.verdict ≡ Success) (m : Message) (q : read_of bytes ≡ accepted m) where
    named_low : NamesOf (λ w. w ≤ own_version t) m.verdict m.version
    named_low =
        let low : AtMost (own_version t) bytes = first (standing_sure s).1.1 in
        subst (Names (λ w. w ≤ own_version t)) q low

    fair_as_read : FairOf theirs mine P m.verdict m.version
    fair_as_read = subst (Fair theirs mine P) q (first k.fair)

    stands_on : unquestioned (heard_trigger t m.version m.verdict) ≡ true
    stands_on =
        own_heard mine theirs P H t k.end (standing_sure s).0 m.verdict m.version named_low fair_as_read

    hears_again : (m.verdict ≡ Failure → ⊥) → m.version ≡ own_version t
    hears_again other =
        own_again mine theirs P H t k.end (standing_sure s).0 m.verdict m.version named_low fair_as_read other

  success_named : (m : Message) → read_of bytes ≡ accepted m → m.verdict ≡ Success → m.version ≡ own_version t
  success_named m q s =
      success_heard mine theirs P H t k.end m.verdict m.version s (subst (Fair theirs mine P) q (first k.fair))
      (subst (Reaches (own_version t)) q (first k.reaching))

  fair_read : (j : Result Message) → read_of bytes ≡ j → Fair theirs mine P j → Understood bytes
  fair_read (accepted m) q f = record { message = m; is = q }
  fair_read (refused number) q f = absurd f

  reads : Understood bytes
  reads = fair_read (read_of bytes) refl (first k.fair)

-- ---- both ends

-- in a rising list, the lower version has the lower place
lower_place : (mine : List ℕ) → rising mine ≡ true → (theirs : List ℕ) (P : Type 0) (H G : ℕ → Type 0) (t n : Talker)
    → End mine theirs P H t
    → End mine theirs P G n
    → own_version n ≤ own_version t
    → n.place ≤ t.place
lower_place mine up theirs P H G t n e f le =
    let no : t.place < n.place → ⊥ =
    λ less.
    let lt = rising_below mine up t.place n.place less f.inside in
    omega (arith, owns_at mine theirs P H e, owns_at mine theirs P G f) in
    omega arith

module _ (a b : List ℕ) (l : Lists a b) (w : World) (events : List Event) (i : Inv a b Unit w events) where
  -- what is said of an end and the message that it would hear
  abbrev Said : (Talker → List ℕ → Type 0) → Side → Type 0
  Said Q side = (bytes : List ℕ) → First w side bytes → Q (end_of w side) bytes

  by_side : (Q : Talker → List ℕ → Type 0)
      → ((mine theirs : List ℕ) (peer t : Talker) (bytes : List ℕ) (rest : List (List ℕ))
      → Link theirs mine Unit peer t (bytes ∷ rest) → Q t bytes)
      → (side : Side)
      → Said Q side
  by_side Q h Charger bytes f =
      h a b w.vehicle w.charger bytes f.rest
      (subst (λ (x : List (List ℕ)). Link b a Unit w.vehicle w.charger x) f.is i.to_charger)
  by_side Q h Vehicle bytes f =
      h b a w.charger w.vehicle bytes f.rest
      (subst (λ (x : List (List ℕ)). Link a b Unit w.charger w.vehicle x) f.is i.to_vehicle)

  fell : (side called : Side) (action : Action) → (end_of (step_at w called action).world side).place ≤ (end_of w side).place
  unfolding step_at
  fell Charger Charger action =
      let k = by_charger_lem a b l Unit (λ _. tt) w events i action (λ _. tt) in
      lower_place a l.rises b Unit _ _ _ _ i.to_charger.end k.incoming.end k.falls
  fell Charger Vehicle action = omega arith
  fell Vehicle Charger action = omega arith
  fell Vehicle Vehicle action =
      let k = by_vehicle_lem a b l Unit (λ _. tt) w events i action (λ _. tt) in
      lower_place b l.rises' a Unit _ _ _ _ i.to_vehicle.end k.incoming.end k.falls

-- no failure needs a reason here
pub steady : Steadiness
steady versions versions' eight eight' control control' charger vehicle made made' calls =
    let i = ran versions versions' eight eight' control control' charger vehicle made made' calls Unit (λ _. tt) (λ _. tt) in
    let l = lists versions versions' eight eight' control control' charger vehicle made made' in
    let of = by_side (standing versions) (standing versions') l _ _ i in
    record {
      stands = λ side s bytes f.
          of (λ t x. t.verdict ≡ Success → (m : Message) → read_of x ≡ accepted m
          → unquestioned (heard_trigger t m.version m.verdict) ≡ true)
          (λ mine theirs peer t x rest k. stands_on mine theirs Unit peer t x rest k) side bytes f s;
      again = λ side s bytes f.
          of (λ t x. t.verdict ≡ Success → (m : Message) → read_of x ≡ accepted m → (m.verdict ≡ Failure → ⊥)
          → m.version ≡ own_version t)
          (λ mine theirs peer t x rest k. hears_again mine theirs Unit peer t x rest k) side bytes f s;
      consistent =
          of (λ t x. (m : Message) → read_of x ≡ accepted m → m.verdict ≡ Success → m.version ≡ own_version t)
          (λ mine theirs peer t x rest k. success_named mine theirs Unit peer t x rest k);
      understood = of (λ t x. Understood x) (λ mine theirs peer t x rest k. reads mine theirs Unit peer t x rest k);
      falls = λ side call. fell (standing versions) (standing versions') l _ _ i side call.side call.action;
    }
