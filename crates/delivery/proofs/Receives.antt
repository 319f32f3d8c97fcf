-- What the receiver does in a long transfer, at a tick, a hold, a resume and each frame that the sender of that transfer emits.
use Prim.Native.Nat.{ℕ, ◌+◌, ◌≤◌, ◌<◌}
use mathlib.Core.Bool.{false, false≢true, ◌&&◌}
use mathlib.Core.List.{List}
use mathlib.Core.Path.{◌≡◌, refl, sym, ◌∙◌}
use native.Mathlib.Omega.{arith}
use lib.ListN.{length, take, drop}
use borrow.Author.Tests.{eqb-true}
use lib.Dec.{eqb}
use Rattle.frame.specs.Choice.{pick}
use Rattle.frame.specs.Frames.{byte_of, fill_to, part_from, word_at, announcement_of, information_of}
use Rattle.frame.specs.Reading.{read_of, named_of, all_filler}
use Rattle.frame.proofs.Choice.{pick_elim, both_right}
use Rattle.frame.proofs.Laws.{word_whole}
use Rattle.frame.specs.declared.Frame.{Frame}
use Rattle.receiver.proofs.View.{receiver_in, Ticks, rests, waits, retries, repeats, expires, Pause, Pauses, denied, holds, resumes, Announced, nacks, opens, again, Informed, ended, above, delivers, asks, goes_on, Hears, refuses, ignores, announced, informed, closes, short, short_only_lem}
use Rattle.receiver.specs.Hear.{ending, storing, announced_again, announce_open, hear_announcement, hear_numbered, hear_unless_held, hear_kind, hear_read, hear_of}
use Rattle.receiver.specs.State.{moved}
use Rattle.receiver.specs.Told.{Told, Heard, heard, refusing, silently, emitting, failing_with}
use Rattle.receiver.specs.declared.Connection.{Connection}
use Rattle.receiver.specs.declared.Misses.{Misses}
use Rattle.receiver.specs.declared.Phase.{Phase}
use Rattle.receiver.specs.declared.Phase.TheVariants.{Idle, Done, Open}
use Rattle.receiver.specs.declared.Settings.{Settings}
use Rattle.sender.specs.Tick.{information_at}
use Rattle.delivery.proofs.Pieces.{next_stored, last_stored}
use Rattle.delivery.proofs.Stages as stages
use Rattle.delivery.proofs.Stages.{frames_of, Other, Replies, grants, Early, Halfway, opened, stray}
use Rattle.transport.specs.Step.{was_refused}
use Rattle.transport.proofs.Refusals.{Unrefused, announced_taken, informed_taken}

-- ---- the frames of a transfer, as the receiver reads them

-- a hearing is refused or ignored, or the frame is read as what it is
pub data Read (rs : Settings) (q : Phase) (lent : List ℕ) (P : Heard → Type 0) : Heard → Type 0 where
  refused : (number : ℕ) → Read rs q lent P (heard (refusing (receiver_in rs q) number) lent)
  ignored : Read rs q lent P (heard (silently (receiver_in rs q)) lent)
  read : {h : Heard} → Unrefused h → P h → Read rs q lent P h

module _ {rs : Settings} {lent : List ℕ} where
  -- of any frame of kind 1: number 0 announces, a number from 1 informs
  announcement_taken : (f : Frame) {q : Phase} {h : Heard} → f.kind ≡ 1 → byte_of f 0 ≡ 0 → Hears rs f lent q h
      → Read rs q lent (Announced rs (byte_of f 1) (word_at f 2 3) lent q) h
  announcement_taken f one first (refuses number _) = refused number
  announcement_taken f one first ignores = ignored
  announcement_taken f one first (announced _ _ a) = read (announced_taken a) a
  announcement_taken f one first (informed _ _ z _) = absurd (omega arith)
  announcement_taken f one first (closes k) = absurd (omega arith)
  announcement_taken f one first (short k) = absurd (omega arith)
  announcement_taken f one first (short_only_lem k) = absurd (omega arith)

  information_taken : (f : Frame) {q : Phase} {h : Heard} → f.kind ≡ 1 → 1 ≤ byte_of f 0 → Hears rs f lent q h
      → Read rs q lent (λ g. (length lent ≡ 1785) × Informed rs (byte_of f 0) (drop 1 f.bytes) lent q g) h
  information_taken f one low (refuses n _) = refused n
  information_taken f one low ignores = ignored
  information_taken f one low (announced _ z _) = absurd (omega arith)
  information_taken f one low (informed held _ _ i) = read (informed_taken i) (held, i)
  information_taken f one low (closes k) = absurd (omega arith)
  information_taken f one low (short k) = absurd (omega arith)
  information_taken f one low (short_only_lem k) = absurd (omega arith)

  pub reads_announcement : {q : Phase} {h : Heard} (frames l : ℕ) → l < 65536 → Hears rs (announcement_of frames l) lent q h
      → Read rs q lent (Announced rs frames l lent q) h
  unfolding announcement_of
  reads_announcement frames l small h = rw (word_whole l small) at (announcement_taken (announcement_of frames l) refl refl h)

  pub reads_information : {q : Phase} {h : Heard} (number : ℕ) (m : List ℕ) → 1 ≤ number → Hears rs (information_at number m) lent q h
      → Read rs q lent (λ g. (length lent ≡ 1785) × Informed rs number (fill_to 7 (part_from number m)) lent q g) h
  unfolding information_of
  reads_information number m low h = information_taken (information_at number m) refl low h

-- an announcement while the receiver is past the first frame of another transfer: refused or ignored
pub early_reads : (rs : Settings) (frames l : ℕ) (lent : List ℕ) (q : Phase) → Early q
    → Read rs q lent (λ _. ⊥) (hear_of (receiver_in rs q) (announcement_of frames l) lent)
unfolding hear_of hear_read hear_kind hear_unless_held hear_numbered hear_announcement announce_open read_of named_of all_filler pick announcement_of
early_reads rs frames l lent Idle e = absurd e
early_reads rs frames l lent (Done y) e = absurd e
early_reads rs frames l lent (Open x) e =
    let P : Heard → Type 0 = Read rs (Open x) lent (λ _. ⊥) in
    let past = e.0 in
    pick_elim P (eqb (length lent) 1785)
    (λ _. pick_elim P x.held (λ _. ignored)
    (λ _. pick_elim (λ (t : Told). P (heard t lent)) (announced_again x frames (word_at (announcement_of frames l) 2 3))
    (λ again.
    let first = eqb-true x.expected 1 (both_right (eqb frames x.frames && eqb (word_at (announcement_of frames l) 2 3) x.length) _ again) in
    absurd (omega arith))
    (λ _. ignored)))
    (λ _. refused 5)

-- ---- what the receiver answers while the message is on its way

-- nothing, a reply, or a failure
pub data Goes (m : List ℕ) (rs : Settings) : Heard → Type 0 where
  silent : {q : Phase} {left : List ℕ} → Halfway m q left → Goes m rs (heard (silently (receiver_in rs q)) left)
  replies : {q : Phase} {f : Frame} {left : List ℕ}
      → Halfway m q left
      → Replies f
      → Goes m rs (heard (emitting (receiver_in rs q) f) left)
  fails : (cause : ℕ) {left : List ℕ} → Goes m rs (heard (failing_with (receiver_in rs Idle) cause) left)

-- or the delivery, of m or of what an earlier transfer announced
pub data Ends (m : List ℕ) (rs : Settings) : Heard → Type 0 where
  goes : {h : Heard} → Goes m rs h → Ends m rs h
  ends : (x : Connection) {left : List ℕ}
      → x.frames ≡ frames_of m
      → x.length ≡ length m
      → take (length m) left ≡ m
      → Ends m rs (heard (ending (receiver_in rs (Open x)) x) left)
  astray : (x : Connection) {left : List ℕ}
      → Other m x.frames x.length
      → x.length ≤ 1785
      → Ends m rs (heard (ending (receiver_in rs (Open x)) x) left)

module _ (m : List ℕ) (rs : Settings) where
  pub half_tick : {q : Phase} {t : Told} {left : List ℕ} → Ticks rs q t → Halfway m q left → Goes m rs (heard t left)
  half_tick (rests _) h = silent h
  half_tick (waits _) (opened many long low high before) = silent (opened many long low high before)
  half_tick (retries _ _ _) (opened many long low high before) = replies (opened many long low high before) (grants _ _)
  half_tick (waits _) (stray other small) = silent (stray other small)
  half_tick (retries _ _ _) (stray other small) = replies (stray other small) (grants _ _)
  half_tick (repeats _ _ _) (opened many long low high before) = replies (opened many long low high before) (grants _ _)
  half_tick (repeats _ _ _) (stray other small) = replies (stray other small) (grants _ _)
  half_tick expires h = fails 2

  -- a hold or a resume that is not refused
  pub half_pause : {k : Pause} {q : Phase} {t : Told} {left : List ℕ} → was_refused t.outcome ≡ false → Pauses rs k q t
      → Halfway m q left
      → Goes m rs (heard t left)
  half_pause u denied h = absurd (false≢true (sym u))
  half_pause u (holds _ _) (opened many long low high before) = replies (opened many long low high before) (grants _ _)
  half_pause u (holds _ _) (stray other small) = replies (stray other small) (grants _ _)
  half_pause u (resumes _) (opened many long low high before) = replies (opened many long low high before) (grants _ _)
  half_pause u (resumes _) (stray other small) = replies (stray other small) (grants _ _)

  -- the announcement of m: refused, or the connection is open for m
  pub half_announcement : {q : Phase} {left : List ℕ} {h : Heard} → 1 ≤ frames_of m → Announced rs (frames_of m) (length m) left q h
      → Halfway m q left → Goes m rs h
  half_announcement some (nacks _ cause) h = replies h (stages.Replies.refuses cause)
  half_announcement some (opens _ _ _ _ _) h =
      let one : 1 ≤ 1 = omega arith in
      replies (opened refl refl one some refl) (grants 1 _)
  half_announcement some again h = replies h (grants 1 _)

  module _ (number : ℕ) (left : List ℕ) (held : length left ≡ 1785) (fits : length m ≤ 1785) where
    abbrev stored : Connection → List ℕ
    stored x = storing left number x.length (fill_to 7 (part_from number m))

    -- the next frame is expected, and the bytes before it are m's
    next : {x : Connection} (last : ℕ) (misses : Misses) → number ≡ x.expected → x.expected < x.frames → Halfway m (Open x) left
        → Halfway m (Open (moved x (x.expected + 1) last 0 misses)) (stored x)
    next {x} last misses at more (opened many long low high before) =
        let low' : 1 ≤ x.expected + 1 = omega arith in
        let high' : x.expected + 1 ≤ frames_of m = omega arith in
        opened {buffer = stored x} many long low' high' (rw (at, long) (next_stored m left x.expected held fits low high before (omega arith)))
    next last misses at more (stray other small) = stray other small

    pub half_information : {q : Phase} {h : Heard} → number ≤ frames_of m → Informed rs number (fill_to 7 (part_from number m)) left q h
        → Halfway m q left → Ends m rs h
    half_information inside (ended {y = y} _) h = elim h [ ]
    half_information inside (above over) (opened many long low high before) = absurd (omega arith)
    half_information inside (delivers {x} at whole) (opened many long low high before) =
        ends x {left = stored x} many long (rw (at, long) (last_stored m left x.expected held fits low high before (whole ∙ many)))
    half_information inside (above over) (stray other small) = goes (fails 4)
    half_information inside (delivers {x} at whole) (stray other small) = astray x other small
    half_information inside (asks at more _) h = goes (replies (next _ _ at more h) (grants _ _))
    half_information inside (goes_on _ at more _) h = goes (silent (next _ _ at more h))
