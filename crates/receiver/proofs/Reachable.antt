-- Every state that making and calls bring a receiver to is within its bounds, and in such a state the definitions'
-- tests and counts are those of documents 01 and 02. By induction on the calls: each choice of a definition is taken on both
-- sides, with the outcome of its test in hand.
-- Assumes nothing.
use Prim.Native.Nat.{ℕ, ◌+◌, ◌-◌, ◌≤◌, ◌<◌}
use mathlib.Core.Path.{◌≡◌, subst}
use mathlib.Core.Bool.{Bool, true, false, false≢true}
use mathlib.Core.List.{List}
use native.Mathlib.Omega.{arith}
use Rattle.frame.specs.Result.{Result, accepted}
use Rattle.frame.specs.Count.{frame_count_of, increment_of}
use Rattle.frame.specs.Frames.{byte_of, word_at}
use Rattle.frame.specs.declared.Frame.{Frame}
use Rattle.frame.proofs.Choice.{pick_elim}
use Rattle.frame.proofs.Laws.{frame_count_bounds, up_to, at_bound}
use Rattle.receiver.proofs.Laws.{settings_within}
use Rattle.receiver.proofs.View.{receiver_in, Ticks, rests, waits, retries, repeats, expires, tick_does, Counted, first_after_ack, second_after_ack, first_after_frame, first_again, Pause, hold, resume, Pauses, denied, holds, resumes, pause_does, nacks, opens, again, ended, above, delivers, asks, goes_on, Hears, refuses, ignores, announced, informed, closes, short, short_only_lem, hear_does}
use Rattle.receiver.specs.Misses.{acknowledged}
use Rattle.receiver.specs.Make.{settings_fit, idle_with, make_of}
use Rattle.receiver.specs.Reachable.{Reachable, new, ticked, held, resumed, hearing, SettingsWithin, Announced, MissesWithin, OpenWithin, PhaseWithin, Within, Exact, EveryReachable}
use Rattle.receiver.specs.State.{opened, moved, marked}
use Rattle.receiver.specs.Told.{Told, Heard}
use Rattle.receiver.specs.Window.{window_of}
use Rattle.receiver.specs.declared.Connection.{Connection}
use Rattle.receiver.specs.declared.Misses.{Misses}
use Rattle.receiver.specs.declared.Misses.TheVariants.{NoneAfterAck, OneAfterAck, TwoAfterAck, NoneAfterFrame, OneAfterFrame}
use Rattle.receiver.specs.declared.Phase.{Phase}
use Rattle.receiver.specs.declared.Phase.TheVariants.{Open}
use Rattle.receiver.specs.declared.Receiver.{Receiver}
use Rattle.receiver.specs.declared.Settings.{Settings}

-- the answer's next state is within
abbrev Next : Told → Type 0
Next t = Within t.next

abbrev NextHeard : Heard → Type 0
NextHeard h = Within h.told.next

-- ---- making

-- what is made is within
abbrev MadeWithin : Result Receiver → Type 0
MadeWithin m = (r : Receiver) → m ≡ accepted r → Within r

made_within : (timeout window capacity : ℕ) → MadeWithin (make_of timeout window capacity)
unfolding make_of
made_within timeout window capacity =
    pick_elim MadeWithin (settings_fit timeout window capacity)
    (λ fit r e.
    let same : idle_with timeout window capacity ≡ r = cc in
    subst Within same (record { settings = settings_within timeout window capacity fit; phase = tt }))
    (λ unfit r e. let z : ◌≡◌ {A = ℕ} 0 1 = cc in absurd (omega arith))

-- a window that is asked for: at least one frame, within N and C
window_low_lem : (s : Settings) → 1 ≤ s.window → (expected frames : ℕ) → expected ≤ frames
    → expected ≤ window_of s expected frames
unfolding window_of
window_low_lem s some expected frames h = omega arith

-- an LM_ACK that goes with a held mark, and a timeout that is not the third of its type: after either the wait is one after an
-- LM_ACK, so that the mark does not matter
acknowledged_within : (m : Misses) (expected : ℕ) (was mark : Bool) → MissesWithin m expected was
    → MissesWithin (acknowledged m) expected mark
acknowledged_within NoneAfterAck expected was mark h = tt
acknowledged_within OneAfterAck expected was mark h = tt
acknowledged_within TwoAfterAck expected was mark h = tt
acknowledged_within NoneAfterFrame expected was mark h = tt
acknowledged_within OneAfterFrame expected was mark h = h

counted_within : {m n : Misses} → Counted m n → (expected : ℕ) (was mark : Bool) → MissesWithin m expected was
    → MissesWithin n expected mark
counted_within first_after_ack expected was mark h = tt
counted_within second_after_ack expected was mark h = tt
counted_within first_after_frame expected was mark h = h.0
counted_within first_again expected was mark h = tt

module _ (s : Settings) (w : SettingsWithin s) where
  -- a connection with a window just asked for
  asked : (x : Connection) (expected : ℕ) (misses : Misses) → Announced s x.frames x.length → 1 ≤ expected → expected ≤ x.frames
      → x.holds ≤ 20 → (x.held ≡ true → 2 ≤ expected) → MissesWithin misses expected x.held
      → Within (receiver_in s (Open (moved x expected (window_of s expected x.frames) 0 misses)))
  unfolding window_of
  asked x expected misses a low high few begun typed =
      record {
        settings = w;
        phase = record {
          announced = a;
          first = low;
          inside = window_low_lem s w.window_low expected x.frames high;
          final = omega arith;
          window = omega arith;
          waits = w.timeout_low;
          held_timeouts = few;
          begun = begun;
          typed = typed;
        };
      }

  -- a connection with another held mark: e and misses are what they were
  paused : (x : Connection) (mark : Bool) (last wait count : ℕ) → OpenWithin s x → x.expected ≤ last → last ≤ x.frames
      → last ≤ x.expected + s.window - 1 → wait < s.timeout → count ≤ 20 → (mark ≡ true → 2 ≤ x.expected)
      → Within (receiver_in s (Open (marked x mark last wait count)))
  paused x mark last wait count o low high size early few begun =
      record {
        settings = w;
        phase = record {
          announced = o.announced;
          first = o.first;
          inside = low;
          final = high;
          window = size;
          waits = early;
          held_timeouts = few;
          begun = begun;
          typed = acknowledged_within x.misses x.expected x.held mark o.typed;
        };
      }

  -- ---- a tick

  ticks_within : {p : Phase} {t : Told} → PhaseWithin s p → Ticks s p t → Next t
  ticks_within o (rests _) = record { settings = w; phase = o }
  ticks_within o (waits early) =
      record {
        settings = w;
        phase = record {
          announced = o.announced;
          first = o.first;
          inside = o.inside;
          final = o.final;
          window = o.window;
          waits = early;
          held_timeouts = o.held_timeouts;
          begun = o.begun;
          typed = o.typed;
        };
      }
  ticks_within o (retries {x} {misses} _ _ counted) =
      asked x _ misses o.announced o.first (omega arith) o.held_timeouts o.begun
      (counted_within counted x.expected x.held x.held o.typed)
  ticks_within o (repeats {x} _ _ more) =
      paused x x.held x.last 0 (x.holds + 1) o o.inside o.final o.window w.timeout_low (omega arith) o.begun
  ticks_within o expires = record { settings = w; phase = tt }

  -- ---- a hold or a resume

  pauses_within : {k : Pause} {p : Phase} {t : Told} → PhaseWithin s p → Pauses s k p t → Next t
  unfolding window_of
  pauses_within o denied = record { settings = w; phase = o }
  pauses_within o (holds {x} begun _) =
      paused x true x.last x.wait x.holds o o.inside o.final o.window o.waits o.held_timeouts (λ _. begun)
  pauses_within o (resumes {x} _) =
      paused x false _ x.wait x.holds o (window_low_lem s w.window_low x.expected x.frames (omega arith)) (omega arith) (omega arith)
      o.waits o.held_timeouts (λ no. absurd (false≢true no))

  -- ---- a hearing

  hears_within : {f : Frame} {buffer : List ℕ} {p : Phase} {h : Heard} → PhaseWithin s p → Hears s f buffer p h → NextHeard h
  unfolding frame_count_of
  hears_within o (refuses _ _) = record { settings = w; phase = o }
  hears_within o ignores = record { settings = w; phase = o }
  hears_within o (announced _ _ (nacks _ _)) = record { settings = w; phase = o }
  hears_within {f} o (announced _ _ (opens _ low high fits room)) =
      let a : Announced s (byte_of f 1) (word_at f 2 3) = record { long = low; space = room; fits = fits; byte = omega arith } in
      asked (opened (byte_of f 1) (word_at f 2 3) 1) 1 NoneAfterAck a (omega arith) (omega arith) (omega arith)
      (λ no. absurd (false≢true no)) tt
  hears_within o (announced _ _ again) = record { settings = w; phase = o }
  hears_within o (informed _ _ _ (ended _)) = record { settings = w; phase = o }
  hears_within o (informed _ _ _ (above _)) = record { settings = w; phase = tt }
  hears_within o (informed _ _ _ (delivers _ _)) = record { settings = w; phase = o.announced }
  hears_within o (informed _ _ _ (asks {x} _ more _)) =
      asked x (x.expected + 1) NoneAfterAck o.announced (omega arith) (omega arith) o.held_timeouts (λ _. omega arith) tt
  hears_within o (informed _ _ _ (goes_on free _ more part)) =
      record {
        settings = w;
        phase = record {
          announced = o.announced;
          first = omega arith;
          inside = omega (arith, part);
          final = o.final;
          window = omega arith;
          waits = w.timeout_low;
          held_timeouts = o.held_timeouts;
          begun = λ _. omega arith;
          typed = (omega arith, free);
        };
      }
  hears_within o (closes _) = record { settings = w; phase = tt }
  hears_within o (short _) = record { settings = w; phase = o }
  hears_within o (short_only_lem _) = record { settings = w; phase = o }

pub reachable_within : {r : Receiver} → Reachable r → Within r
reachable_within (new timeout window capacity e) = made_within timeout window capacity _ e
reachable_within (ticked {r} h) = let w = reachable_within h in ticks_within r.settings w.settings w.phase (tick_does r)
reachable_within (held {r} h) =
    let w = reachable_within h in pauses_within r.settings w.settings w.phase (pause_does hold r)
reachable_within (resumed {r} h) =
    let w = reachable_within h in pauses_within r.settings w.settings w.phase (pause_does resume r)
reachable_within (hearing {r} h f buffer) =
    let w = reachable_within h in
    hears_within r.settings w.settings w.phase (hear_does r f buffer)

-- In a state within, the definitions' tests and counts are the documents' own.
pub within_exact : (r : Receiver) (x : Connection) → Within r → r.phase ≡ Open x → Exact r x
unfolding increment_of
within_exact r x w p =
    let o : OpenWithin r.settings x = subst (PhaseWithin r.settings) p w.phase in
    let fits = frame_count_bounds x.length in
    let n = o.announced.fits in
    record {
      wait = omega arith;
      due = at_bound r.settings.timeout x.wait (omega arith) (omega arith);
      twenty_first = up_to (x.holds + 1) 21 (omega arith);
      before = λ on. let begun = o.begun on in (omega arith, omega arith);
      count = omega arith;
      again = window_low_lem r.settings w.settings.window_low x.expected x.frames (omega arith);
      next = λ more. window_low_lem r.settings w.settings.window_low (x.expected + 1) x.frames (omega arith);
      some = omega arith;
      part = omega arith;
      whole = omega arith;
      full = λ more. omega arith;
    }

pub reachable_exact : (r : Receiver) (x : Connection) → Reachable r → r.phase ≡ Open x → Exact r x
reachable_exact r x h p = within_exact r x (reachable_within h) p

pub every_reachable : EveryReachable
every_reachable r h = (reachable_within h, λ x p. reachable_exact r x h p)
