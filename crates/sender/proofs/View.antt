-- What each call of the sender does, one constructor for each effect, with what its tests found where a proof needs it. A
-- proof about every call matches on these and unfolds no rule.
-- Assumes nothing.
use Prim.Native.Nat.{ℕ, ◌+◌, ◌≤◌, ◌<◌}
use mathlib.Core.Path.{◌≡◌, refl}
use mathlib.Core.Bool.{true}
use mathlib.Core.List.{List}
use borrow.Author.Tests.{leb-true, leb-false, ltb-false, eqb-true}
use lib.Dec.{leb}
use lib.ListN.{length}
use Rattle.frame.proofs.Choice.{pick_elim, both_left, both_right}
use Rattle.frame.specs.Count.{increment_of}
use Rattle.frame.specs.Frames.{sm_urm_of}
use Rattle.frame.specs.declared.Frame.{Frame}
use Rattle.sender.proofs.Choices.{limit_elim, lent_elim, over_elim, timeout_elim, bad_elim, hear_elim}
use Rattle.sender.specs.Begin.{begin_long, begin_short, begin_idle, begin_phase, begin_of, post_of}
use Rattle.sender.specs.Call.{Call, begin, tick, hear, post, answer_of}
use Rattle.sender.specs.Hear.{taking, misses_at, taking_hold, ack_opening, ack_below, ack_window, hear_ack, hear_nack, if_whole, hear_end, if_first, hear_short_ack, hear_of}
use Rattle.sender.specs.State.{aged}
use Rattle.sender.specs.Tick.{opening_on, opening_again, tick_opening, sending_next, sending_on, tick_sending, waiting_on, waiting_again, tick_waiting, short_on, short_again, tick_short, tick_phase, lent_to}
use Rattle.sender.specs.Told.{Told, refusing, silently, emitting, failing_with, failing, finishing}
use Rattle.sender.specs.declared.Announced.{Announced}
use Rattle.sender.specs.declared.Awaited.{Awaited}
use Rattle.sender.specs.declared.Phase.{Phase}
use Rattle.sender.specs.declared.Phase.TheVariants.{Idle, Opening, Sending, Waiting, Short}
use Rattle.sender.specs.declared.Sender.{Sender}
use Rattle.sender.specs.declared.Single.{Single}
use Rattle.sender.specs.declared.Streamed.{Streamed}
use Rattle.sender.specs.declared.Transfer.{Transfer}

-- a phase in which a window has been taken: the transfer, the last start taken and the misses
pub data Windowed : Phase → Transfer → ℕ → ℕ → Type 0 where
  sending : {x : Streamed} → Windowed (Sending x) x.transfer x.start x.misses
  waiting : {x : Awaited} → Windowed (Waiting x) x.transfer x.start x.misses

-- a phase of a long transfer, and the transfer
pub data Long : Phase → Transfer → Type 0 where
  opening : {x : Announced} → Long (Opening x) x.transfer
  windowed : {p : Phase} {t : Transfer} {taken misses : ℕ} → Windowed p t taken misses → Long p t

-- a phase that takes a window from this start on: the transfer, the start and the misses after it
pub data Asked : Phase → Transfer → ℕ → ℕ → Type 0 where
  from_first : {x : Announced} {start : ℕ} → start ≡ 1 → Asked (Opening x) x.transfer start 0
  from_taken : {p : Phase} {t : Transfer} {taken misses start : ℕ}
      → Windowed p t taken misses
      → taken ≤ start
      → Asked p t start (misses_at start taken misses)

-- ---- a tick, lent the begun length

pub data Ticks (s : Sender) (m : List ℕ) : Phase → Told → Type 0 where
  rests : Ticks s m Idle (silently s)
  opening_on_lem : {x : Announced}
      → increment_of x.transfer.age < s.settings.limit
      → increment_of x.wait < s.settings.timeout
      → Ticks s m (Opening x) (opening_on s x)
  opening_again_lem : {x : Announced}
      → increment_of x.transfer.age < s.settings.limit
      → increment_of x.misses < 3
      → Ticks s m (Opening x) (opening_again s x)
  sending_on_lem : {x : Streamed}
      → increment_of x.transfer.age < s.settings.limit
      → increment_of x.gap < s.settings.gap
      → Ticks s m (Sending x) (sending_on s x)
  sending_next_lem : {x : Streamed}
      → increment_of x.transfer.age < s.settings.limit
      → Ticks s m (Sending x) (sending_next s x m)
  waiting_on_lem : {x : Awaited}
      → increment_of x.transfer.age < s.settings.limit
      → increment_of x.wait < s.settings.timeout
      → Ticks s m (Waiting x) (waiting_on s x)
  waiting_again_lem : {x : Awaited}
      → increment_of x.transfer.age < s.settings.limit
      → increment_of x.misses < 3
      → Ticks s m (Waiting x) (waiting_again s x m)
  short_on_lem : {x : Single}
      → increment_of x.transfer.age < s.settings.limit
      → increment_of x.wait < s.settings.timeout
      → Ticks s m (Short x) (short_on s x)
  short_again_lem : {x : Single}
      → increment_of x.transfer.age < s.settings.limit
      → Ticks s m (Short x) (short_again s x m)
  fails : {p : Phase} {t : Transfer} (cause : ℕ) → Long p t → Ticks s m p (failing_with s (aged t) cause)
  fails_short : {x : Single} → Ticks s m (Short x) (failing s (aged x.transfer) 3)

-- ---- a hearing

pub data Hears (s : Sender) : Phase → Told → Type 0 where
  refuses : {p : Phase} (number : ℕ) → Hears s p (refusing s number)
  ignores : {p : Phase} → Hears s p (silently s)
  above : {p : Phase} {t : Transfer} → Long p t → Hears s p (failing_with s t 4)
  takes : {p : Phase} {t : Transfer} {start count misses : ℕ}
      → Asked p t start misses
      → 1 ≤ start
      → 1 ≤ count
      → start ≤ t.frames
      → Hears s p (taking s t start count misses)
  takes_hold : {p : Phase} {t : Transfer} {taken misses start : ℕ}
      → Windowed p t taken misses
      → 1 ≤ start
      → start + 1 ≡ taken
      → Hears s p (taking_hold s t taken start)
  nacked : {p : Phase} {t : Transfer} → Long p t → Hears s p (failing s t 1)
  finished : {p : Phase} {t : Transfer} {taken misses : ℕ} → Windowed p t taken misses → Hears s p (finishing s t)
  finished_short : {x : Single} → Hears s (Short x) (finishing s x.transfer)

-- ---- every call

pub data Calls (s : Sender) : Call → Told → Type 0 where
  refuses : {c : Call} (number : ℕ) → Calls s c (refusing s number)
  begins_long : {m : List ℕ}
      → s.phase ≡ Idle
      → 9 ≤ length m
      → length m ≤ 1785
      → Calls s (begin m) (begin_long s m)
  begins_short : {m : List ℕ}
      → s.phase ≡ Idle
      → 1 ≤ length m
      → length m ≤ 8
      → Calls s (begin m) (begin_short s m)
  posts : {m : List ℕ} → 1 ≤ length m → length m ≤ 8 → Calls s (post m) (emitting s (sm_urm_of m))
  ticks : {m : List ℕ} {t : Told} → lent_to s.phase m ≡ true → Ticks s m s.phase t → Calls s (tick m) t
  hears : {f : Frame} {t : Told} → Hears s s.phase t → Calls s (hear f) t

-- ---- the calls do this

module _ (s : Sender) where
  begin_does : (m : List ℕ) (p : Phase) → s.phase ≡ p → Calls s (begin m) (begin_phase s p m)
  unfolding begin_phase begin_idle
  begin_does m Idle idle =
      let P : Told → Type 0 = Calls s (begin m) in
      pick_elim P _
      (λ fits.
      let low = leb-true 1 (length m) (both_left _ _ fits) in
      let high = leb-true (length m) 1785 (both_right (leb 1 (length m)) _ fits) in
      pick_elim P _ (λ few. begins_short idle low (leb-true _ _ few))
      (λ many. begins_long idle (leb-false _ _ many) high))
      (λ unfit. refuses 2)
  begin_does m (Opening x) busy = refuses 3
  begin_does m (Sending x) busy = refuses 3
  begin_does m (Waiting x) busy = refuses 3
  begin_does m (Short x) busy = refuses 3

  post_does : (m : List ℕ) → Calls s (post m) (post_of s m)
  unfolding post_of
  post_does m =
      pick_elim (Calls s (post m)) _
      (λ fits. posts (leb-true 1 (length m) (both_left _ _ fits)) (leb-true (length m) 8 (both_right (leb 1 (length m)) _ fits)))
      (λ unfit. refuses 2)

  tick_does : (m : List ℕ) (p : Phase) → Ticks s m p (tick_phase s p m)
  unfolding tick_phase tick_opening tick_sending tick_waiting tick_short
  tick_does m Idle = rests
  tick_does m (Opening x) =
      let P : Told → Type 0 = Ticks s m (Opening x) in
      over_elim P s x.transfer _ (fails 3 opening)
      (λ young. timeout_elim P s x.transfer x.wait x.misses (fails 2 opening) (opening_again_lem young) (opening_on_lem young))
  tick_does m (Sending x) =
      let P : Told → Type 0 = Ticks s m (Sending x) in
      over_elim P s x.transfer _ (fails 3 (windowed sending))
      (λ young. limit_elim P s.settings.gap x.gap (sending_next_lem young) (sending_on_lem young))
  tick_does m (Waiting x) =
      let P : Told → Type 0 = Ticks s m (Waiting x) in
      over_elim P s x.transfer _ (fails 3 (windowed waiting))
      (λ young. timeout_elim P s x.transfer x.wait x.misses (fails 2 (windowed waiting)) (waiting_again_lem young) (waiting_on_lem young))
  tick_does m (Short x) =
      let P : Told → Type 0 = Ticks s m (Short x) in
      over_elim P s x.transfer _ fails_short
      (λ young. limit_elim P s.settings.timeout x.wait (short_again_lem young) (short_on_lem young))

  window_does : {p : Phase} {t : Transfer} {taken misses : ℕ} → Windowed p t taken misses → (start count : ℕ)
      → Hears s p (ack_window s t taken misses start count)
  unfolding ack_window ack_below
  window_does {p} {t} {taken} w start count =
      let P : Told → Type 0 = Hears s p in
      bad_elim P s t start count ignores (above (windowed w))
      (λ from some inside. pick_elim P _
      (λ below. pick_elim P _ (λ hold. takes_hold w from (eqb-true _ _ (both_left _ _ hold))) (λ old. ignores))
      (λ on. takes (from_taken w (ltb-false start taken on)) from some inside))

  ack_does : (p : Phase) (start count : ℕ) → Hears s p (hear_ack s p start count)
  unfolding hear_ack ack_opening
  ack_does Idle start count = ignores
  ack_does (Opening x) start count =
      let P : Told → Type 0 = Hears s (Opening x) in
      bad_elim P s x.transfer start count ignores (above opening)
      (λ from some inside. pick_elim P _ (λ one. takes (from_first (eqb-true _ _ one)) from some inside) (λ other. ignores))
  ack_does (Sending x) start count = window_does sending start count
  ack_does (Waiting x) start count = window_does waiting start count
  ack_does (Short x) start count = ignores

  nack_does : (p : Phase) → Hears s p (hear_nack s p)
  unfolding hear_nack
  nack_does Idle = ignores
  nack_does (Opening x) = nacked opening
  nack_does (Sending x) = nacked (windowed sending)
  nack_does (Waiting x) = nacked (windowed waiting)
  nack_does (Short x) = ignores

  end_does : (p : Phase) (frames length : ℕ) → Hears s p (hear_end s p frames length)
  unfolding hear_end if_whole
  end_does Idle frames length = ignores
  end_does (Opening x) frames length = ignores
  end_does (Sending x) frames length = pick_elim (Hears s (Sending x)) _ (λ whole. finished sending) (λ other. ignores)
  end_does (Waiting x) frames length = pick_elim (Hears s (Waiting x)) _ (λ whole. finished waiting) (λ other. ignores)
  end_does (Short x) frames length = ignores

  short_ack_does : (p : Phase) (first : ℕ) → Hears s p (hear_short_ack s p first)
  unfolding hear_short_ack if_first
  short_ack_does Idle first = ignores
  short_ack_does (Opening x) first = ignores
  short_ack_does (Sending x) first = ignores
  short_ack_does (Waiting x) first = ignores
  short_ack_does (Short x) first = pick_elim (Hears s (Short x)) _ (λ same. finished_short) (λ other. ignores)

pub hear_does : (s : Sender) (f : Frame) → Hears s s.phase (hear_of s f)
hear_does s f =
    let p = s.phase in
    hear_elim (Hears s p) s f refuses (λ two. ack_does s p _ _) (nack_does s p) (end_does s p _ _) (short_ack_does s p _)

pub call_does : (s : Sender) (c : Call) → Calls s c (answer_of s c)
unfolding begin_of
call_does s (begin m) = begin_does s m s.phase refl
call_does s (tick m) = lent_elim (Calls s (tick m)) s m (refuses 4) (λ lent. ticks lent (tick_does s m s.phase))
call_does s (hear f) = hears (hear_does s f)
call_does s (post m) = post_does s m
