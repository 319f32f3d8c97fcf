-- Every sender that calls can make is within its limits, and there no count is cut, every "at least" is "at" and a frame has
-- a byte of the message. By the calls: each leaves a sender that is within its limits so. A count that has not come to its
-- limit is below it; a window starts from 1 to N and ends from its start to N, and 7 (N - 1) is below L.
-- Assumes nothing.
use Prim.Native.Nat.{ℕ, ◌+◌, ◌≤◌, ◌<◌}
use mathlib.Core.Path.{◌≡◌, refl, subst}
use mathlib.Core.Bool.{and-eq-true_iff}
use mathlib.Core.List.{List}
use native.Mathlib.Omega.{arith}
use borrow.Author.Tests.{leb-true, leb-false}
use lib.Dec.{eqb}
use Rattle.frame.specs.Result.{accepted}
use Rattle.frame.proofs.Choice.{pick_elim}
use Rattle.frame.proofs.Laws.{increment_is, up_to, at_bound}
use Rattle.frame.specs.Count.{frame_count_of, increment_of}
use Rattle.sender.proofs.View.{Windowed, sending, waiting, Asked, from_first, from_taken, Ticks, rests, opening_on_lem, opening_again_lem, sending_on_lem, sending_next_lem, waiting_on_lem, waiting_again_lem, short_on_lem, short_again_lem, fails, fails_short, Hears, refuses, ignores, above, takes, takes_hold, nacked, finished, finished_short, Calls, begins_long, begins_short, posts, ticks, hears, call_does}
use Rattle.sender.specs.Begin.{begin_long, begin_short}
use Rattle.sender.specs.Call.{Call}
use Rattle.sender.specs.Hear.{taking, taking_hold}
use Rattle.sender.specs.Make.{settings_fit, idle_with, make_of}
use Rattle.sender.specs.Reachable.{Reachable, fresh, called, SettingsWithin, TransferWithin, LongWithin, PhaseWithin, Within, Counts, OfTransfer, OfWait, OfMisses, OfSending, OfFrame, StartsInside, Exact, EveryReachable}
use Rattle.sender.specs.State.{aged, counted, in_phase}
use Rattle.sender.specs.Tick.{after_frame}
use Rattle.sender.specs.Told.{Told}
use Rattle.sender.specs.declared.Phase.{Phase}
use Rattle.sender.specs.declared.Phase.TheVariants.{Idle, Opening, Sending, Waiting, Short}
use Rattle.sender.specs.declared.Sender.{Sender}
use Rattle.sender.specs.declared.Settings.{Settings}
use Rattle.sender.specs.declared.Streamed.{Streamed}
use Rattle.sender.specs.declared.Transfer.{Transfer}

-- the state after a call is within its limits
abbrev Keeps : Told → Type 0
Keeps a = Within a.next

-- ---- making

makes : (gap timeout limit : ℕ) (s : Sender) → make_of gap timeout limit ≡ accepted s → Within s
unfolding make_of
makes gap timeout limit s =
    pick_elim (λ m. m ≡ accepted s → Within s) (settings_fit gap timeout limit)
    (λ fit e.
    let all = (and-eq-true_iff _ _).0 fit in
    let g = (and-eq-true_iff _ _).0 all.0 in
    let rest = (and-eq-true_iff _ _).0 all.1 in
    let t = (and-eq-true_iff _ _).0 rest.0 in
    let l = (and-eq-true_iff _ _).0 rest.1 in
    let same : idle_with gap timeout limit ≡ s = cc in
    subst Within same
    (record {
      settings = record {
        gap = (leb-true _ _ g.0, leb-true _ _ g.1);
        timeout = (leb-true _ _ t.0, leb-true _ _ t.1);
        limit = (leb-true _ _ l.0, leb-true _ _ l.1);
      };
      phase = tt;
    }))
    (λ unfit e. let z : ◌≡◌ {A = ℕ} 0 1 = cc in absurd (omega arith))

-- ---- calls, of a sender whose settings are within their limits

module _ (s : Sender) (h : Within s) where
  -- in another phase, within its limits
  enters : (p : Phase) → PhaseWithin s.settings p → Within (in_phase s p)
  enters p w = record { settings = h.settings; phase = w }

  idles : Within (in_phase s Idle)
  idles = enters Idle tt

  -- ---- a tick

  -- a transfer that is a tick older, short of M, and perhaps has emitted a frame more
  older : (t : Transfer) → TransferWithin s.settings t → increment_of t.age < s.settings.limit
      → TransferWithin s.settings (aged t) × TransferWithin s.settings (counted (aged t))
  unfolding increment_of
  older t w young =
      let l = h.settings.limit in
      (record { age = young; emitted = omega arith }, record { age = young; emitted = omega arith })

  older_long : (t : Transfer) → LongWithin s.settings t → increment_of t.age < s.settings.limit
      → LongWithin s.settings (aged t) × LongWithin s.settings (counted (aged t))
  older_long t w young =
      let c = older t w.counted young in (
        record { counted = c.0; length = w.length; frames = w.frames },
        record { counted = c.1; length = w.length; frames = w.frames },
      )

  after : (x : Streamed) → PhaseWithin s.settings (Sending x)
      → LongWithin s.settings (counted (aged x.transfer))
      → PhaseWithin s.settings (after_frame x)
  unfolding after_frame
  after x w l =
      let start = w.1 in
      let window = w.2 in
      pick_elim (PhaseWithin s.settings) _
      (λ last. (l, omega arith, omega arith, h.settings.timeout.0, w.4))
      (λ more.
      let e : x.next < x.last = leb-false _ _ more in
      (l, omega arith, omega arith, h.settings.gap.0, w.4))

  ticks_within : {m : List ℕ} {p : Phase} {t : Told} → Ticks s m p t → PhaseWithin s.settings p → Keeps t
  ticks_within rests w = h
  ticks_within (opening_on_lem {x} young early) w = enters _ ((older_long x.transfer w.0 young).0, early, w.2)
  ticks_within (opening_again_lem {x} young few) w =
      enters _ ((older_long x.transfer w.0 young).1, h.settings.timeout.0, few)
  ticks_within (sending_on_lem {x} young early) w =
      enters _ ((older_long x.transfer w.0 young).0, w.1, w.2, early, w.4)
  ticks_within (sending_next_lem {x} young) w = enters _ (after x w (older_long x.transfer w.0 young).1)
  ticks_within (waiting_on_lem {x} young early) w =
      enters _ ((older_long x.transfer w.0 young).0, w.1, w.2, early, w.4)
  ticks_within (waiting_again_lem {x} young few) w =
      enters _ ((older_long x.transfer w.0 young).1, w.1, w.2, h.settings.timeout.0, few)
  ticks_within (short_on_lem {x} young early) w =
      let c = older x.transfer w.0.counted young in
      enters _ (record { counted = c.0; length = w.0.length; frames = w.0.frames }, early)
  ticks_within (short_again_lem {x} young) w =
      let c = older x.transfer w.0.counted young in
      enters _ (record { counted = c.1; length = w.0.length; frames = w.0.frames }, h.settings.timeout.0)
  ticks_within (fails _ _) w = idles
  ticks_within fails_short w = idles

  -- ---- a hearing

  -- the last start taken is at most N, and the misses are few
  window_within : {p : Phase} {t : Transfer} {taken misses : ℕ} → Windowed p t taken misses → PhaseWithin s.settings p
      → LongWithin s.settings t × (taken ≤ t.frames) × (misses < 3)
  window_within sending w = (w.0, w.1.2, w.4)
  window_within waiting w = (w.0, w.1.2, w.4)

  -- so are those after a window that is taken
  asked_within : {p : Phase} {t : Transfer} {start misses : ℕ} → Asked p t start misses → PhaseWithin s.settings p
      → LongWithin s.settings t × (misses < 3)
  asked_within (from_first _) w = (w.0, omega arith)
  asked_within (from_taken {taken = taken} {start = start} window _) w =
      let l = window_within window w in
      (l.0, pick_elim (λ n. n < 3) (eqb start taken) (λ same. l.2) (λ other. omega arith))

  hears_within : {p : Phase} {t : Told} → Hears s p t → PhaseWithin s.settings p → Keeps t
  unfolding taking taking_hold
  hears_within (refuses _) w = h
  hears_within ignores w = h
  hears_within (above _) w = idles
  hears_within (takes asked from some inside) w =
      let l = asked_within asked w in
      enters _ (l.0, omega arith, omega arith, h.settings.gap.0, l.1)
  hears_within (takes_hold window from before) w =
      let l = window_within window w in
      enters _ (l.0, omega arith, omega arith, h.settings.gap.0, omega arith)
  hears_within (nacked _) w = idles
  hears_within (finished _) w = idles
  hears_within finished_short w = idles

  -- ---- every call

  calls_within : {c : Call} {t : Told} → Calls s c t → Keeps t
  unfolding begin_long begin_short frame_count_of
  calls_within (refuses _) = h
  calls_within (begins_long _ low high) =
      enters _ (
        record {
          counted = record { age = h.settings.limit.0; emitted = omega arith };
          length = (low, high);
          frames = (refl, omega arith, omega arith);
        },
        h.settings.timeout.0,
        omega arith,
      )
  calls_within (begins_short _ low high) =
      enters _ (
        record {
          counted = record { age = h.settings.limit.0; emitted = omega arith };
          length = (low, high);
          frames = refl;
        },
        h.settings.timeout.0,
      )
  calls_within (posts _ _) = h
  calls_within (ticks _ does) = ticks_within does h.phase
  calls_within (hears does) = hears_within does h.phase

-- ---- the theorems

pub reachable_within : {s : Sender} → Reachable s → Within s
reachable_within (fresh {s = s} gap timeout limit e) = makes gap timeout limit s e
reachable_within (called {s = s} call r) = calls_within s (reachable_within r) (call_does s call)

-- a count below its limit
counts : (count limit : ℕ) → count < limit → limit ≤ 60000 → Counts count limit
counts count limit below most =
    record { grows = increment_is count (omega arith); exact = at_bound limit count (omega arith) below }

-- a frame from 1 to N of a message of L bytes starts inside it
inside : (r : Settings) (t : Transfer) (number : ℕ) → LongWithin r t → number ≤ t.frames → StartsInside t number
unfolding frame_count_of
inside r t number w most message long = omega (arith, w.length.0, w.frames.0)

module _ (r : Settings) (w : SettingsWithin r) where
  of_transfer : (P : Transfer → Type 0) → ((t : Transfer) → TransferWithin r t → P t) → (p : Phase) → PhaseWithin r p
      → OfTransfer p P
  of_transfer P k Idle h = tt
  of_transfer P k (Opening x) h = k x.transfer h.0.counted
  of_transfer P k (Sending x) h = k x.transfer h.0.counted
  of_transfer P k (Waiting x) h = k x.transfer h.0.counted
  of_transfer P k (Short x) h = k x.transfer h.0.counted

  -- the frames emitted are at most a tick's count more, and so below 65535
  emitted_grows : (t : Transfer) → TransferWithin r t → increment_of t.emitted ≡ t.emitted + 1
  unfolding increment_of
  emitted_grows t c = omega (arith, w.limit.1, c.age, c.emitted.1)

  of_wait : (p : Phase) → PhaseWithin r p → OfWait p (λ wait. Counts wait r.timeout)
  of_wait Idle h = tt
  of_wait (Opening x) h = counts _ _ h.1 (omega (arith, w.timeout.1))
  of_wait (Sending x) h = tt
  of_wait (Waiting x) h = counts _ _ h.3 (omega (arith, w.timeout.1))
  of_wait (Short x) h = counts _ _ h.1 (omega (arith, w.timeout.1))

  of_misses : (p : Phase) → PhaseWithin r p → OfMisses p (λ misses. Counts misses 3)
  of_misses Idle h = tt
  of_misses (Opening x) h = counts _ 3 h.2 (omega arith)
  of_misses (Sending x) h = counts _ 3 h.4 (omega arith)
  of_misses (Waiting x) h = counts _ 3 h.4 (omega arith)
  of_misses (Short x) h = tt

  of_sending : (P : Streamed → Type 0) → ((x : Streamed) → PhaseWithin r (Sending x) → P x) → (p : Phase) → PhaseWithin r p
      → OfSending p P
  of_sending P k Idle h = tt
  of_sending P k (Opening x) h = tt
  of_sending P k (Sending x) h = k x h
  of_sending P k (Waiting x) h = tt
  of_sending P k (Short x) h = tt

  of_frame : (p : Phase) → PhaseWithin r p → OfFrame p StartsInside
  of_frame Idle h = tt
  of_frame (Opening x) h = tt
  of_frame (Sending x) h = inside r x.transfer x.next h.0 (omega arith)
  of_frame (Waiting x) h = inside r x.transfer x.last h.0 h.2.1
  of_frame (Short x) h = tt

pub within_exact : (s : Sender) → Within s → Exact s
within_exact s h =
    let r = s.settings in
    let w = h.settings in
    record {
      age = of_transfer r w _ (λ t c. counts t.age r.limit c.age w.limit.1) s.phase h.phase;
      emitted = of_transfer r w _ (λ t c. emitted_grows r w t c) s.phase h.phase;
      wait = of_wait r w s.phase h.phase;
      gap = of_sending r w _ (λ x c. counts x.gap r.gap c.3 (omega (arith, w.gap.1))) s.phase h.phase;
      misses = of_misses r w s.phase h.phase;
      last = of_sending r w _ (λ x c. up_to x.next x.last c.2.1) s.phase h.phase;
      part = of_frame r w s.phase h.phase;
    }

pub reachable_exact : {s : Sender} → Reachable s → Exact s
reachable_exact {s} r = within_exact s (reachable_within r)

pub every_reachable : EveryReachable
every_reachable s r = (reachable_within r, reachable_exact r)
