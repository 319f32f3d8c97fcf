-- The rule of a hold is never met where none is accepted: what `Climbs` says is kept by every call, and so (`Keeps`) along
-- every such list.
-- Assumes nothing.
use Prim.Native.Nat.{◌≤◌}
use mathlib.Core.Bool.{true, false}
use mathlib.Core.List.{List, [], ◌∷◌}
use mathlib.Core.Path.{◌≡◌, refl}
use Rattle.frame.specs.Choice.{pick}
use Rattle.receiver.proofs.View.{Shut}
use Rattle.receiver.specs.Hear.{is_held}
use Rattle.receiver.specs.Told as receiver
use Rattle.receiver.specs.declared.Phase as receiver-phase
use Rattle.receiver.specs.declared.Phase.TheVariants as at
use Rattle.receiver.specs.declared.Receiver.{Receiver}
use Rattle.receiver.specs.declared.Settings as receiver-settings
use Rattle.sender.specs.Hear.{ack_below}
use Rattle.sender.specs.declared.Sender.{Sender}
use Rattle.delivery.proofs.Climbs.{Climb, off, sender_ticks_lem, sender_hears, sender_begins, receiver_ticks_lem, receiver_pauses, receiver_hears, cut, loses_forward, loses_back, unmet}
use Rattle.delivery.proofs.Keeps.{Keeps, Holds, Steps, kept_step, capped_step_lem, from-fresh}
use Rattle.delivery.proofs.Theorem.{unheld_after}
use Rattle.delivery.proofs.Timing.{Timed, before, between, during}
use Rattle.delivery.specs.Clean.{CallsMeet}
use Rattle.delivery.specs.Demand3.{NeverHeld}
use Rattle.delivery.specs.Run.{Line, Past, fresh, next, run_of}
use Rattle.delivery.specs.Seen.{Sort, begins, ticks_sender, ticks_receiver, holds_receiver, other, sort_of, Opened, opened_in, pauses_by}
use Rattle.delivery.specs.Unmet.{NoHoldBy, NoHold, Unmet, AllUnmet, UnmetAfter, NeverMetOn, NeverMet}
use Rattle.transport.specs.Capped.{capped_step}
use Rattle.transport.specs.Step.{was_refused, step_of}
use Rattle.transport.specs.World.{Call, Given}

-- no hold was accepted: none stands
shut_unheld : (p : receiver-phase.Phase) → Shut p → is_held p ≡ false
shut_unheld at.Idle s = refl
shut_unheld (at.Done y) s = refl
shut_unheld (at.Open x) s = absurd s

unheld : {rs : receiver-settings.Settings} {r : Receiver} {o : Opened} → Timed rs r o → NeverHeld o → is_held r.phase ≡ false
unheld (before {p} s) u = shut_unheld p s
unheld (between {p} s) u = shut_unheld p s
unheld (during w) u = (w.free u).0

no_pause : (s : Sort) (o : receiver.Outcome) → NoHoldBy s o → pauses_by s o ≡ 0
no_pause (begins message) o n = refl
no_pause ticks_sender o n = refl
no_pause ticks_receiver o n = refl
no_pause holds_receiver o n = rw n refl
no_pause other o n = refl

-- no hold is accepted
abbrev Refused : receiver.Outcome → Type 0
Refused o = was_refused o ≡ true

abbrev Says : Sender → Given → receiver.Outcome → Type 0
Says s g o = Unmet s g

climbs : Keeps Climb Refused Says
climbs =
    record {
      sender_begins = λ st m. sender_begins st m;
      sender_ticks_lem = λ st m. sender_ticks_lem st m;
      sender_hears = λ st k. sender_hears st k;
      receiver_ticks_lem = receiver_ticks_lem;
      receiver_pauses = receiver_pauses;
      receiver_hears = receiver_hears;
      loses_forward = loses_forward;
      loses_back = loses_back;
      cut = cut;
      says_nobody = λ s o. tt;
      says_sender = λ s o c. unmet c;
      says_receiver = λ s c v. tt;
    }

module _ (rs : receiver-settings.Settings) (pos : 1 ≤ rs.timeout) (small : rs.timeout ≤ 10000) where
  run : (line : Line) → Steps climbs rs pos small line → (calls : List Call) (p : Past)
      → Holds climbs rs pos small p.world p.events
      → NeverHeld (opened_in p.events)
      → CallsMeet NoHold line p calls
      → AllUnmet line p calls × NeverHeld (opened_in (run_of line p calls).events)
  unfolding Steps run_of opened_in
  run line k [] p h u d = (tt, u)
  run line k (c ∷ calls) p h u d =
      let e = (line p.world c).event in
      let a = k p.world p.events h c d.0 (λ is. rw is at d.1) in
      let none : pauses_by (sort_of e.call) e.receiver ≡ 0 = rw a.1 (no_pause (sort_of c) e.receiver d.1) in
      let rest = run line k calls (next line p c) a.0.holds (unheld_after e (opened_in p.events) none u) d.2 in
      ((a.0.says, unheld h.timed u, rest.0), rest.1)

never_met_on : (line : Line)
    → ((rs : receiver-settings.Settings) (pos : 1 ≤ rs.timeout) (small : rs.timeout ≤ 10000) → Steps climbs rs pos small line)
    → NeverMetOn line
unfolding opened_in
never_met_on line k =
    from-fresh climbs (off tt) (UnmetAfter line)
    (λ rs pos small s r buffer calls h c. run rs pos small line (k rs pos small) calls (fresh s r buffer) h tt c)

pub never_met : NeverMet
unfolding ack_below pick
never_met =
    record {
      line = never_met_on step_of (kept_step climbs);
      capped = never_met_on capped_step (capped_step_lem climbs);
      ignored = λ s t taken start count e. rw e;
    }
