-- Every connection has its report by its latest tick: the receiver's time alone tells it, which every call keeps.
-- Assumes nothing.
use Prim.Native.Nat.{◌≤◌}
use mathlib.Core.List.{List, [], ◌∷◌}
use mathlib.Core.Path.{◌≡◌, refl, subst}
use native.Mathlib.Omega.{arith}
use Rattle.receiver.specs.Told as receiver
use Rattle.receiver.specs.declared.Receiver.{Receiver}
use Rattle.receiver.specs.declared.Settings as receiver-settings
use Rattle.sender.specs.declared.Sender.{Sender}
use Rattle.delivery.proofs.Keeps.{Kept, Keeps, Holds, Steps, kept_step, capped_step_lem, from-fresh}
use Rattle.delivery.proofs.Timing.{Timed, before, between, during, in_time_lem, in_time_unheld}
use Rattle.delivery.specs.Demand3.{Conditions}
use Rattle.delivery.specs.Latest.{ReportedByLatest, LatestAfter, LatestOn, Latest}
use Rattle.delivery.specs.Run.{Line, Past, fresh, next, run_of}
use Rattle.delivery.specs.Seen.{Opened, opened_in}
use Rattle.transport.specs.Capped.{capped_step}
use Rattle.transport.specs.Step.{step_of}
use Rattle.transport.specs.World.{Call, Given}

-- nothing else is kept
abbrev Nothing : Kept
Nothing p q forward back = Unit

abbrev Any : receiver.Outcome → Type 0
Any o = Unit

abbrev Says : Sender → Given → receiver.Outcome → Type 0
Says s g o = Unit

time_alone : Keeps Nothing Any Says
time_alone =
    record {
      sender_begins = λ st m d k. tt;
      sender_ticks_lem = λ st m k. tt;
      sender_hears = λ st r k. tt;
      receiver_ticks_lem = λ k v. tt;
      receiver_pauses = λ d k v. tt;
      receiver_hears = λ r k v. tt;
      loses_forward = λ k. tt;
      loses_back = λ k. tt;
      cut = λ n k. tt;
      says_nobody = λ s o. tt;
      says_sender = λ s o k. tt;
      says_receiver = λ s k v. tt;
    }

module _ (rs : receiver-settings.Settings) (pos : 1 ≤ rs.timeout) (small : rs.timeout ≤ 10000) where
  by_latest : {r : Receiver} {o : Opened} → Timed rs r o → ReportedByLatest rs.timeout o
  by_latest (before shut) = tt
  by_latest (between shut) = (λ _. refl, λ _ _. refl)
  by_latest (during {x} w) = (
    λ late. absurd (omega (arith, in_time_lem rs pos small x w, late)),
    λ none late. absurd (omega (arith, in_time_unheld rs pos small x w none, late)),
  )

  -- it is the receiver's own T
  its_own : {r : Receiver} {o : Opened} → Timed rs r o → rs ≡ r.settings
  its_own (before shut) = refl
  its_own (between shut) = refl
  its_own (during w) = refl

  run : (line : Line) → Steps time_alone rs pos small line → (calls : List Call) (p : Past)
      → Holds time_alone rs pos small p.world p.events
      → Conditions line p calls
      → ReportedByLatest rs.timeout (opened_in (run_of line p calls).events)
  unfolding Steps run_of
  run line k [] p h d = by_latest h.timed
  run line k (call ∷ calls) p h d =
      let a = k p.world p.events h call d.0 (λ _. tt) in
      run line k calls (next line p call) a.0.holds d.1

latest_on : (line : Line)
    → ((rs : receiver-settings.Settings) (pos : 1 ≤ rs.timeout) (small : rs.timeout ≤ 10000) → Steps time_alone rs pos small line)
    → LatestOn line
latest_on line k =
    from-fresh time_alone tt (LatestAfter line)
    (λ rs pos small s r buffer calls h c.
    subst (λ (rs : receiver-settings.Settings). ReportedByLatest rs.timeout (opened_in (run_of line (fresh s r buffer) calls).events))
    (its_own rs pos small h.timed)
    (run rs pos small line (k rs pos small) calls (fresh s r buffer) h c))

pub latest_report : Latest
latest_report =
    record { line = latest_on step_of (kept_step time_alone); capped = latest_on capped_step (capped_step_lem time_alone) }
