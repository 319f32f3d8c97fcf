-- What every call keeps of both phases and both lists holds along every list of calls that meets the conditions of demand 3, on
-- either line: a frame that a full line drops only shortens a list. The receiver's time goes along, since it tells that a
-- begin finds the receiver shut.
-- Assumes nothing.
use Prim.Native.Nat.{ℕ, ◌≤◌}
use mathlib.Core.Bool.{true, false≢true}
use mathlib.Core.List.{List, [], ◌∷◌, ◌++◌}
use mathlib.Core.Path.{◌≡◌, refl}
use lib.ListN.{take}
use Rattle.frame.specs.Choice.{pick}
use Rattle.frame.specs.declared.Frame.{Frame}
use Rattle.receiver.proofs.View as view
use Rattle.receiver.proofs.View.{Shut, Ticks, Pauses, Hears, tick_does, pause_does, hear_does}
use Rattle.receiver.specs.Told as receiver
use Rattle.receiver.specs.declared.Phase as receiver-phase
use Rattle.receiver.specs.declared.Phase.TheVariants as at
use Rattle.receiver.specs.declared.Receiver.{Receiver}
use Rattle.receiver.specs.declared.Settings as receiver-settings
use Rattle.sender.specs.Begin.{begin_of}
use Rattle.sender.specs.Hear.{hear_of}
use Rattle.sender.specs.Tick.{tick_of}
use Rattle.sender.specs.Told.{Told}
use Rattle.sender.specs.declared.Phase.{Phase}
use Rattle.sender.specs.declared.Phase.TheVariants.{Idle}
use Rattle.sender.specs.declared.Sender.{Sender}
use Rattle.sender.specs.declared.Settings.{Settings}
use Rattle.delivery.proofs.Stages.{sender_in}
use Rattle.delivery.proofs.Theorem.{resume_no_hold, limits_of, SenderMade, ReceiverMade, fits, sender_made_lem, receiver_made_lem}
use Rattle.delivery.proofs.Timing.{Timed, before, between, during, timed_later, tick_timed, pause_timed, hear_timed}
use Rattle.delivery.specs.Demand3.{Condition}
use Rattle.delivery.specs.Run.{Line, Past, fresh, FromFresh}
use Rattle.delivery.specs.Seen.{taken, holds_receiver, other, sort_of, Opened, opened_in, opened_after, idle}
use Rattle.transport.proofs.Events.{call_of_lem}
use Rattle.transport.specs.Capped.{capped, capped_step}
use Rattle.transport.specs.Step.{Stepped, emission, unheard, Rest, gone, still, leaving, dropped, given_forward, given_back, step_of}
use Rattle.transport.specs.World.{World, Call, Event, Given, nobody, to_sender, to_receiver, begin, sender_tick, receiver_tick, hold, resume}
use Rattle.transport.specs.World.{hear_forward, repeat_forward, lose_forward, hear_back, repeat_back, lose_back}

-- no connection is open in the events: none is at the receiver
shut : {rs : receiver-settings.Settings} {r : Receiver} {o : Opened} → Timed rs r o → idle o ≡ true → Shut r.phase
shut (before s) e = s
shut (between s) e = s
shut (during w) e = absurd (false≢true e)

-- K is what is kept: of the sender's phase, the receiver's, forward and back. After a call of the sender that told a, and
-- after one of the receiver that told t:
abbrev pub Kept : Type 1
Kept = Phase → receiver-phase.Phase → (forward back : List Frame) → Type 0

abbrev pub AfterSender : Kept → receiver-phase.Phase → (forward back : List Frame) → Told → Type 0
AfterSender K q forward back a = K a.next.phase q (forward ++ emission a.emits a.frame) back

abbrev pub AfterReceiver : Kept → Phase → (forward back : List Frame) → receiver.Told → Type 0
AfterReceiver K p forward back t = K p t.next.phase forward (back ++ emission t.emits t.frame)

-- Every call keeps it. Holding is what is asked of a hold; Says is what is said of a hearing, by the sender that it found, the
-- frame that was given and the receiver's outcome.
pub record Keeps (K : Kept) (Holding : receiver.Outcome → Type 0)
    (Says : Sender → Given → receiver.Outcome → Type 0) : Type 0 where
  pub sender_begins : {p : Phase} {q : receiver-phase.Phase} {forward back : List Frame} (st : Settings) (m : List ℕ)
      → (taken (begin_of (sender_in st p) m).outcome ≡ true → Shut q × (forward ≡ []) × (back ≡ []))
      → K p q forward back
      → AfterSender K q forward back (begin_of (sender_in st p) m)
  pub sender_ticks_lem : {p : Phase} {q : receiver-phase.Phase} {forward back : List Frame} (st : Settings) (m : List ℕ)
      → K p q forward back
      → AfterSender K q forward back (tick_of (sender_in st p) m)
  pub sender_hears : {p : Phase} {q : receiver-phase.Phase} {forward rest : List Frame} {f : Frame} (st : Settings) (k : Rest)
      → K p q forward (f ∷ rest)
      → AfterSender K q forward (leaving k f rest) (hear_of (sender_in st p) f)
  pub receiver_ticks_lem : {p : Phase} {q : receiver-phase.Phase} {forward back : List Frame} {rs : receiver-settings.Settings}
      {t : receiver.Told}
      → K p q forward back
      → Ticks rs q t
      → AfterReceiver K p forward back t
  pub receiver_pauses : {p : Phase} {q : receiver-phase.Phase} {forward back : List Frame} {rs : receiver-settings.Settings}
      {k : view.Pause} {t : receiver.Told}
      → (k ≡ view.hold → Holding t.outcome)
      → K p q forward back
      → Pauses rs k q t
      → AfterReceiver K p forward back t
  pub receiver_hears : {p : Phase} {q : receiver-phase.Phase} {f : Frame} {rest back : List Frame}
      {rs : receiver-settings.Settings} {lent : List ℕ} {h : receiver.Heard} (k : Rest)
      → K p q (f ∷ rest) back
      → Hears rs f lent q h
      → AfterReceiver K p (leaving k f rest) back h.told
  pub loses_forward : {p : Phase} {q : receiver-phase.Phase} {forward back : List Frame} → K p q forward back
      → K p q (dropped forward) back
  pub loses_back : {p : Phase} {q : receiver-phase.Phase} {forward back : List Frame} → K p q forward back
      → K p q forward (dropped back)
  pub cut : {p : Phase} {q : receiver-phase.Phase} {forward back : List Frame} (n : ℕ) → K p q forward back
      → K p q (take n forward) (take n back)
  pub says_nobody : (s : Sender) (o : receiver.Outcome) → Says s nobody o
  pub says_sender : {q : receiver-phase.Phase} {forward rest : List Frame} {f : Frame} (s : Sender) (o : receiver.Outcome)
      → K s.phase q forward (f ∷ rest)
      → Says s (to_sender f) o
  pub says_receiver : {q : receiver-phase.Phase} {f : Frame} {rest back : List Frame} {rs : receiver-settings.Settings}
      {lent : List ℕ} {h : receiver.Heard} (s : Sender)
      → K s.phase q (f ∷ rest) back
      → Hears rs f lent q h
      → Says s (to_receiver f) h.told.outcome

module _ {K : Kept} {Holding : receiver.Outcome → Type 0} {Says : Sender → Given → receiver.Outcome → Type 0}
    (all : Keeps K Holding Says)
    (rs : receiver-settings.Settings) (pos : 1 ≤ rs.timeout) (small : rs.timeout ≤ 10000) where
  -- what holds of the world and the events after every call
  pub record Holds (w : World) (events : List Event) : Type 0 where
    pub kept : K w.sender.phase w.receiver.phase w.forward w.back
    pub timed : Timed rs w.receiver (opened_in events)

  module _ (events : List Event) where
    -- after a step, and what is said of it
    pub record After (w : World) (x : Stepped) : Type 0 where
      pub holds : Holds x.world (x.event ∷ events)
      pub says : Says w.sender x.event.given x.event.receiver

    nobody_called : (c : Call) (w v : World) → sort_of c ≡ other → Holds v events → After w (unheard c v)
    unfolding opened_in opened_after pick
    nobody_called c w v o h =
        record {
          holds = record { kept = h.kept; timed = rw o (timed_later h.timed) };
          says = all.says_nobody w.sender _;
        }

    step_forward : (k : Rest) (c : Call) (lent : List ℕ) (w : World) → sort_of c ≡ other → Holds w events → (fs : List Frame)
        → w.forward ≡ fs
        → After w (given_forward k c w lent fs)
    unfolding given_forward opened_in opened_after
    step_forward k c lent w o h [] e = nobody_called c w w o h
    step_forward k c lent w o h (f ∷ rest) e =
        let kept = rw e at h.kept in
        let v = hear_does w.receiver f lent in
        record {
          holds =
              record {
                kept = all.receiver_hears k kept v;
                timed = rw o (hear_timed rs pos small h.timed f lent).timed;
              };
          says = all.says_receiver w.sender kept v;
        }

    step_back : (k : Rest) (c : Call) (w : World) → sort_of c ≡ other → Holds w events → (fs : List Frame) → w.back ≡ fs
        → After w (given_back k c w fs)
    unfolding given_back opened_in opened_after pick
    step_back k c w o h [] e = nobody_called c w w o h
    step_back k c w o h (f ∷ rest) e =
        let kept = rw e at h.kept in
        record {
          holds =
              record { kept = all.sender_hears w.sender.settings k kept; timed = rw o (timed_later h.timed) };
          says = all.says_sender w.sender _ kept;
        }

  step : (w : World) (events : List Event) → Holds w events → (c : Call)
      → Condition (record { world = w; events = events }) c (step_of w c).event
      → (sort_of c ≡ holds_receiver → Holding (step_of w c).event.receiver)
      → After events w (step_of w c)
  unfolding step_of opened_in opened_after pick
  step w events h (begin m) d n =
      record {
        holds =
            record {
              kept =
                  all.sender_begins w.sender.settings m
                  (λ t. let found = d t in (shut h.timed found.0, found.1, found.2)) h.kept;
              timed = timed_later h.timed;
            };
        says = all.says_nobody w.sender _;
      }
  step w events h (sender_tick m) d n =
      record {
        holds = record { kept = all.sender_ticks_lem w.sender.settings m h.kept; timed = timed_later h.timed };
        says = all.says_nobody w.sender _;
      }
  step w events h receiver_tick d n =
      record {
        holds =
            record {
              kept = all.receiver_ticks_lem h.kept (tick_does w.receiver);
              timed = tick_timed rs pos small h.timed;
            };
        says = all.says_nobody w.sender _;
      }
  step w events h hold d n =
      record {
        holds =
            record {
              kept = all.receiver_pauses (λ _. n refl) h.kept (pause_does view.hold w.receiver);
              timed = pause_timed rs pos small view.hold h.timed;
            };
        says = all.says_nobody w.sender _;
      }
  step w events h resume d n =
      record {
        holds =
            record {
              kept = all.receiver_pauses (λ e. absurd (resume_no_hold e)) h.kept (pause_does view.resume w.receiver);
              timed = pause_timed rs pos small view.resume h.timed;
            };
        says = all.says_nobody w.sender _;
      }
  step w events h (hear_forward b) d n = step_forward events gone (hear_forward b) b w refl h w.forward refl
  step w events h (repeat_forward b) d n = step_forward events still (repeat_forward b) b w refl h w.forward refl
  step w events h lose_forward d n =
      nobody_called events lose_forward w _ refl (record { kept = all.loses_forward h.kept; timed = h.timed })
  step w events h hear_back d n = step_back events gone hear_back w refl h w.back refl
  step w events h repeat_back d n = step_back events still repeat_back w refl h w.back refl
  step w events h lose_back d n =
      nobody_called events lose_back w _ refl (record { kept = all.loses_back h.kept; timed = h.timed })

  -- a line, each of whose steps keeps what holds, and whose events are of the calls
  unfoldable pub Steps : Line → Type 0
  Steps line =
      (w : World) (events : List Event) → Holds w events → (c : Call)
      → Condition (record { world = w; events = events }) c (line w c).event
      → (sort_of c ≡ holds_receiver → Holding (line w c).event.receiver)
      → After events w (line w c) × ((line w c).event.call ≡ c)

  pub kept_step : Steps step_of
  unfolding Steps
  kept_step w events h c d n = (step w events h c d n, call_of_lem w c)

  pub capped_step_lem : Steps capped_step
  unfolding Steps capped_step capped
  capped_step_lem w events h c d n =
      let a = step w events h c d n in (
        record {
          holds = record { kept = all.cut 64 a.holds.kept; timed = a.holds.timed };
          says = a.says;
        },
        call_of_lem w c,
      )

-- ---- from the ends that making answers

module _ {K : Kept} {Holding : receiver.Outcome → Type 0} {Said : Sender → Given → receiver.Outcome → Type 0}
    (all : Keeps K Holding Said) (start : K Idle at.Idle [] []) (Says : Past → List Call → Type 0) where
  made : (gap timeout limit patience window capacity : ℕ) {s : Sender} {r : Receiver}
      → ((rs : receiver-settings.Settings) (pos : 1 ≤ rs.timeout) (small : rs.timeout ≤ 10000)
      (buffer : List ℕ) (calls : List Call)
      → Holds all rs pos small (fresh s r buffer).world []
      → Says (fresh s r buffer) calls)
      → SenderMade gap timeout limit s
      → ReceiverMade patience window capacity r
      → (buffer : List ℕ) (calls : List Call)
      → Says (fresh s r buffer) calls
  unfolding opened_in
  made gap timeout limit patience window capacity k (fits e) (fits d) buffer calls =
      let t = limits_of gap timeout limit patience window capacity e d in
      k _ t.pos t.small buffer calls (record { kept = start; timed = before tt })

  -- what is said where it holds at the start is said of them
  pub from-fresh :
      ((rs : receiver-settings.Settings) (pos : 1 ≤ rs.timeout) (small : rs.timeout ≤ 10000) (s : Sender) (r : Receiver)
      (buffer : List ℕ) (calls : List Call)
      → Holds all rs pos small (fresh s r buffer).world []
      → Says (fresh s r buffer) calls)
      → FromFresh Says
  from-fresh k gap timeout limit s e patience window capacity r d =
      made gap timeout limit patience window capacity (λ rs pos small. k rs pos small s r)
      (sender_made_lem gap timeout limit s e) (receiver_made_lem patience window capacity r d)
