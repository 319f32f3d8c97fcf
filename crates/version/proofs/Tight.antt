-- The bounds of reachable talkers are met. A charger of version 2.0.0 that connects and hears nothing
-- repeats its message every 50 ticks and stays in S1: tick n finds Tout0 at n, and T1 too below 50.
-- Assumes nothing.
use Prim.Native.Nat.{ℕ, zero, suc, ◌<◌}
use mathlib.Core.Path.{◌≡◌, refl, sym, ap, ◌∙◌, subst}
use mathlib.Core.List.{[], ◌∷◌}
use native.Mathlib.Omega.{arith}
use borrow.Author.Tests.{leb-true}
use Rattle.frame.proofs.Choice.{pick_elim}
use Rattle.frame.specs.Choice.{pick}
use Rattle.frame.specs.Count.{increment_of}
use Rattle.frame.specs.Result.{accepted}
use Rattle.version.specs.Calls.{connect, tick}
use Rattle.version.specs.List.{version_of, rising, placed, three_bytes, is_list}
use Rattle.version.specs.Reachable.{Reachable, made, called, Tight}
use Rattle.version.specs.Table.{period_due, repeats, cell_of}
use Rattle.version.specs.Talk.{fresh, make_of, repeating, doing, triggered, connect_of, next_period, next_age, limit_is_due, period_is_due, aged, tick_talking, tick_state, tick_of}
use Rattle.version.specs.Told.{Told}
use Rattle.version.specs.declared.Side.{Side}
use Rattle.version.specs.declared.Side.TheVariants.{Charger, Vehicle}
use Rattle.version.specs.declared.State.{State}
use Rattle.version.specs.declared.State.TheVariants.{S1}
use Rattle.version.specs.declared.Talker.{Talker}

abbrev charger : Talker
charger = fresh Charger (placed (version_of 2 0 0 ∷ [])) 0

charger_made : make_of Charger (placed (version_of 2 0 0 ∷ [])) 0 ≡ accepted charger
unfolding make_of is_list rising three_bytes pick
charger_made = refl

start : Reachable charger
start = made Charger (placed (version_of 2 0 0 ∷ [])) 0 charger_made

-- n ticks after the first message
after : ℕ → Talker
after zero = (connect_of charger).next
after (suc n) = (tick_of (after n)).next

after_reachable : (n : ℕ) → Reachable (after n)
unfolding after
after_reachable zero = called connect start
after_reachable (suc n) = called tick (after_reachable n)

record Ticking (n : ℕ) (t : Talker) : Type 0 where
  state : t.state ≡ S1
  age : t.age ≡ n
  period : n < 50 → t.period ≡ n

abbrev Ticks : ℕ → Told → Type 0
Ticks n a = Ticking n a.next

-- S1, T1 到时: both tables repeat the message
repeats_in : (side : Side) → cell_of side S1 period_due ≡ repeats
repeats_in Charger = refl
repeats_in Vehicle = refl

repeated : (t : Talker) → t.state ≡ S1 → triggered t 0 period_due ≡ repeating t
unfolding doing
repeated t e =
    ap (λ (s : State). doing t 0 (cell_of t.side s period_due)) e
    ∙ ap (doing t 0) (repeats_in t.side)

module _ (n : ℕ) (early : suc n < 15000) (t : Talker) (w : Ticking n t) where
  ticks_on : Ticks (suc n) (tick_talking t)
  unfolding tick_talking increment_of
  ticks_on =
      let age = w.age in
      pick_elim (Ticks (suc n)) (limit_is_due t)
      (λ late. let l = leb-true 15000 (next_age t) late in absurd (omega arith))
      (λ _. pick_elim (Ticks (suc n)) (period_is_due t)
      (λ due.
      let d = leb-true 50 (next_period t) due in
      let waited : Talker = aged t t.period (next_age t) in
      subst (Ticks (suc n)) (sym (repeated waited w.state))
      (record {
        state = w.state;
        age = omega arith;
        period = λ soon. let p = w.period (omega arith) in absurd (omega arith);
      }))
      (λ _. record {
        state = w.state;
        age = omega arith;
        period = λ soon. let p = w.period (omega arith) in omega arith;
      }))

  ticking_on : Ticks (suc n) (tick_of t)
  unfolding tick_of tick_state
  ticking_on = subst (λ (s : State). Ticks (suc n) (tick_state t s)) (sym w.state) ticks_on

ticking : (n : ℕ) → n < 15000 → Ticking n (after n)
unfolding after connect_of doing
ticking zero h = record { state = refl; age = refl; period = λ soon. refl }
ticking (suc n) h = ticking_on n h (after n) (ticking n (omega arith))

pub tight : Tight
tight =
    record {
      place = record { talker = charger; reachable = start; holds = refl };
      period = record {
        talker = after 49;
        reachable = after_reachable 49;
        holds = (ticking 49 (omega arith)).period (omega arith);
      };
      age = record {
        talker = after 14999;
        reachable = after_reachable 14999;
        holds = (ticking 14999 (omega arith)).age;
      };
    }
