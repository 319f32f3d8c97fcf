-- The player's events are calls that meet the conditions of demand 3: one begin comes, at empty lines and to an idle
-- receiver, and every call is lent the one message and the one buffer. So demand 3's promise holds of what is printed. None of
-- them is a hold, so that the rules for holds are never met; and no frame is refused 14.
-- Assumes nothing.
use Prim.Native.Nat.{ℕ}
use mathlib.Core.Bool.{Bool, true, false}
use mathlib.Core.List.{List, [], ◌∷◌}
use mathlib.Core.Path.{◌≡◌, refl, subst}
use lib.ListN.{replicate}
use Rattle.delivery.proofs.Runs.{capped_demand_3}
use Rattle.delivery.specs.Demand3.{LentMessage, Condition, Conditions, Promise}
use Rattle.delivery.proofs.Filler.{never_unclean}
use Rattle.delivery.proofs.Unmet.{never_met}
use Rattle.delivery.specs.Clean.{CallsMeet}
use Rattle.delivery.specs.Filler.{FilledAfter}
use Rattle.delivery.specs.Unmet.{NoHoldBy, NoHold, UnmetAfter}
use Rattle.receiver.specs.Told as receiver
use Rattle.delivery.specs.Run.{Past, fresh, FromFresh, next, run_of}
use Rattle.delivery.specs.Seen.{Sort, begins, ticks_sender, ticks_receiver, holds_receiver, other, sort_of, taken, Begun, further, begun_by, begun_in, begun_after, opened_in}
use Rattle.frame.proofs.Choice.{pick_elim}
use Rattle.player.proofs.Opened.{opened}
use Rattle.player.specs.Claim.{PlayerMeets, newest_first, PlayerKeeps, OfPlayer, PlayerUnmet, PlayerFilled, PackKeeps}
use Rattle.player.specs.Events.{call_for, turn_for, events_from, world_after, run_from, calls_for, calls_from}
use Rattle.player.specs.Played as played
use Rattle.transport.proofs.Events.{call_of_lem}
use Rattle.transport.proofs.Making.{make_answers}
use Rattle.transport.specs.Capped.{capped_step}
use Rattle.transport.specs.Step.{step_of}
use Rattle.transport.specs.World.{World, Call, begin, Event}

-- ---- the conditions

-- the begun message, if any, is m
abbrev About : List ℕ → Begun → Type 0
About m Begun.never = Unit
About m (Begun.since message ticks reports deliveries) = m ≡ message

about_further : (m : List ℕ) (b : Begun) (ticks reports : ℕ) (ds : List (List ℕ)) → About m b → About m (further b ticks reports ds)
about_further m Begun.never ticks reports ds a = tt
about_further m (Begun.since message t r d) ticks reports ds a = a

-- no other begin comes, and no hold
abbrev Goes : Sort → Type 0
Goes (begins message) = ⊥
Goes ticks_sender = Unit
Goes ticks_receiver = Unit
Goes holds_receiver = ⊥
Goes other = Unit

about_by : (m : List ℕ) (s : Sort) (accepted : Bool) (b : Begun) → Goes s → About m b → About m (begun_by s accepted b)
about_by m (begins message) accepted b g a = absurd g
about_by m ticks_sender accepted b g a = a
about_by m ticks_receiver accepted b g a = a
about_by m holds_receiver accepted b g a = absurd g
about_by m other accepted b g a = a

about_step : (m : List ℕ) (w : World) (c : Call) (events : List Event) → Goes (sort_of c) → About m (begun_in events)
    → About m (begun_in ((capped_step w c).event ∷ events))
unfolding begun_in begun_after capped_step
about_step m w c events g a =
    about_by m (sort_of (step_of w c).event.call) _ _ (rw call_of_lem g) (about_further m (begun_in events) _ _ _ a)

lent_message : (m : List ℕ) (b : Begun) → About m b → LentMessage b m
lent_message m Begun.never a = tt
lent_message m (Begun.since message ticks reports ds) a = λ _. a

-- an event's call: no begin and no hold, and it meets its condition
goes_event : (m : List ℕ) (w : World) (event : ℕ) → Goes (sort_of (call_for w m event))
unfolding call_for
goes_event m w event =
    let P : Call → Type 0 = λ c. Goes (sort_of c) in
    pick_elim P _ (λ _. tt)
    (λ _. pick_elim P _ (λ _. tt)
    (λ _. pick_elim P _ (λ _. tt)
    (λ _. pick_elim P _ (λ _. tt)
    (λ _. pick_elim P _ (λ _. tt) (λ _. pick_elim P _ (λ _. tt) (λ _. pick_elim P _ (λ _. tt) (λ _. tt)))))))

meets_event : (m : List ℕ) (p : Past) (event : ℕ) → About m (begun_in p.events)
    → Condition p (call_for p.world m event) (turn_for p.world m event).event
unfolding call_for turn_for
meets_event m p event a =
    let P : Call → Type 0 = λ c. Condition p c (capped_step p.world c).event in
    pick_elim P _ (λ _. λ _. lent_message m (begun_in p.events) a)
    (λ _. pick_elim P _ (λ _. tt)
    (λ _. pick_elim P _ (λ _. λ _. refl)
    (λ _. pick_elim P _ (λ _. tt)
    (λ _. pick_elim P _ (λ _. λ _. refl) (λ _. pick_elim P _ (λ _. tt) (λ _. pick_elim P _ (λ _. tt) (λ _. tt)))))))

meets_events : (m events : List ℕ) (p : Past) → About m (begun_in p.events) → Conditions capped_step p (calls_for p.world m events)
unfolding calls_for turn_for
meets_events m [] p a = tt
meets_events m (event ∷ events) p a =
    let c = call_for p.world m event in (
      meets_event m p event a,
      meets_events m events (next capped_step p c) (about_step m p.world c p.events (goes_event m p.world event) a),
    )

about_begin : (m : List ℕ) (accepted : Bool) → About m (begun_by (begins m) accepted Begun.never)
about_begin m true = refl
about_begin m false = tt

pub player_meets : PlayerMeets
unfolding calls_from capped_step step_of begun_in begun_after opened_in
player_meets ends buffer m events =
    let p = fresh ends.sender ends.receiver buffer in (
      λ _. (refl, refl, refl),
      meets_events m events (next capped_step p (begin m)) (about_begin m (taken (capped_step p.world (begin m)).event.sender)),
    )

-- ---- the promise

-- the calls lead where the events do, and their events are those that the player prints
pub same_run : (m events : List ℕ) (p : Past)
    → run_of capped_step p (calls_for p.world m events)
    ≡ record { world = world_after p.world m events; events = newest_first p.events (events_from p.world m events) }
unfolding run_of calls_for events_from world_after newest_first turn_for
same_run m [] p = refl
same_run m (event ∷ events) p = same_run m events (next capped_step p (call_for p.world m event))

pub player_keeps : PlayerKeeps
unfolding run_from calls_from run_of newest_first
player_keeps gap timeout limit patience window capacity ends e buffer m events size =
    let made = make_answers gap timeout limit patience window capacity ends e in
    let p = fresh ends.sender ends.receiver buffer in
    subst (λ (past : Past). Promise limit patience past.events) (same_run m events (next capped_step p (begin m)))
    (capped_demand_3 gap timeout limit ends.sender made.sender patience window capacity ends.receiver made.receiver buffer size (calls_from p.world m events) (player_meets ends buffer m events))

pub pack_keeps : PackKeeps
unfolding played.run_of
pack_keeps bytes q e =
    let k = q.bodies.settings in
    player_keeps k.gap k.timeout k.limit k.patience k.window k.capacity q.ends (opened bytes q e).made (replicate 1785 0) _ _ refl

-- ---- no hold

goes_unheld : (s : Sort) (o : receiver.Outcome) → Goes s → NoHoldBy s o
goes_unheld (begins message) o g = tt
goes_unheld ticks_sender o g = tt
goes_unheld ticks_receiver o g = tt
goes_unheld holds_receiver o g = absurd g
goes_unheld other o g = tt

unheld_events : (m events : List ℕ) (p : Past) → Conditions capped_step p (calls_for p.world m events)
    → CallsMeet NoHold capped_step p (calls_for p.world m events)
unfolding calls_for turn_for
unheld_events m [] p d = tt
unheld_events m (event ∷ events) p d =
    let c = call_for p.world m event in (
      d.0,
      goes_unheld (sort_of c) (capped_step p.world c).event.receiver (goes_event m p.world event),
      unheld_events m events (next capped_step p c) d.1,
    )

-- what is said of every list of calls, from fresh ends on, is said of the player's
of_player : (Says : Past → List Call → Type 0) → FromFresh Says → OfPlayer Says
of_player Says from gap timeout limit patience window capacity ends e buffer m events =
    let made = make_answers gap timeout limit patience window capacity ends e in
    from gap timeout limit ends.sender made.sender patience window capacity ends.receiver made.receiver buffer _

pub player_unmet : PlayerUnmet
unfolding calls_from
player_unmet gap timeout limit patience window capacity ends e buffer m events =
    let p = fresh ends.sender ends.receiver buffer in
    let meets = player_meets ends buffer m events in
    of_player (UnmetAfter capped_step) never_met.capped gap timeout limit patience window capacity ends e buffer m events
    (meets.0, tt, unheld_events m events (next capped_step p (begin m)) meets.1)

pub player_filled : PlayerFilled
player_filled gap timeout limit patience window capacity ends e buffer m events =
    of_player (FilledAfter capped_step) never_unclean.capped gap timeout limit patience window capacity ends e buffer m events
    (player_meets ends buffer m events)
