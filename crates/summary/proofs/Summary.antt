-- E6's claim of every list of calls. In a long transfer all that went out so far are information frames, so that their number,
-- which the sender counts, is the sum of the counts; M bounds it, and no count is cut. In a short one nothing is counted.
-- Each call keeps that: by the sender's case view.
-- Assumes nothing.
use Prim.Native.Nat.{ℕ, ◌+◌, ◌≤◌, ◌<◌}
use mathlib.Core.Bool.{Bool, true, false, and-false, true≢false}
use mathlib.Core.List.{List, [], ◌∷◌, ◌++◌}
use mathlib.Core.Path.{◌≡◌, refl, sym, ap, subst, ◌∙◌}
use native.Mathlib.Omega.{arith}
use borrow.Author.Tests.{eqb-true, eqb-false, eq-eqb, ne_eqb, le-leb, lt-leb}
use lib.Dec.{eqb, leb}
use lib.ListN.{length}
use Rattle.frame.proofs.Choice.{pick_true, pick_elim, pick_accepted}
use Rattle.frame.proofs.Laws.{increment_is}
use Rattle.frame.specs.Choice.{pick}
use Rattle.frame.specs.Count.{frame_count_of, increment_of}
use Rattle.frame.specs.Frames.{byte_of, blank_of, announcement_of, information_of, lm_nack_of, sm_rm_of, sm_urm_of}
use Rattle.frame.specs.Result.{accepted}
use Rattle.frame.specs.declared.Frame.{Frame}
use Rattle.sender.proofs.Reachable.{reachable_within}
use Rattle.sender.proofs.View.{sending, waiting, Long, opening, windowed, Asked, from_first, from_taken, Ticks, rests, opening_on_lem, opening_again_lem, sending_on_lem, sending_next_lem, waiting_on_lem, waiting_again_lem, short_on_lem, short_again_lem, fails, fails_short, Hears, refuses, ignores, above, takes, takes_hold, nacked, finished, finished_short, Calls, begins_long, begins_short, posts, ticks, hears, call_does}
use Rattle.sender.specs.Begin.{begin_long, begin_short}
use Rattle.sender.specs.Call.{Call, begin, tick, hear, post, answer_of}
use Rattle.sender.specs.Hear.{taking, taking_hold}
use Rattle.sender.specs.Make.{idle_with, make_of}
use Rattle.sender.specs.Reachable.{Reachable, fresh, called, SettingsWithin, TransferWithin, LongWithin, PhaseWithin}
use Rattle.sender.specs.State.{aged, counted}
use Rattle.sender.specs.Tick.{after_frame}
use Rattle.sender.specs.Demand1.{Unchanged}
use Rattle.sender.specs.Told.{Outcome, quiet, refused, sent, failed, is_refused, Told, refusing, emitting, failing_with, failing, finishing}
use Rattle.sender.specs.declared.Phase.{Phase}
use Rattle.sender.specs.declared.Phase.TheVariants.{Idle, Opening, Sending, Waiting, Short}
use Rattle.sender.specs.declared.Sender.{Sender}
use Rattle.sender.specs.declared.Streamed.{Streamed}
use Rattle.sender.specs.declared.Transfer.{Transfer}
use Rattle.summary.proofs.EachCall.{blank_none, nack_none, posted_none, lent_is, answers_alike, each_call}
use Rattle.summary.proofs.Laws.{counts_information, counts_no_other, counted_is}
use Rattle.summary.proofs.Named.{names_none}
use Rattle.summary.proofs.Words.{length_adding, at_added, at_others, sum_adding, at_most_sum, length_cleared, at_cleared, sum_cleared}
use Rattle.summary.specs.Calls.{Kept, begun, kept_by}
use Rattle.summary.specs.Counts.{count_at, cleared, adding, counting, sum_of}
use Rattle.summary.specs.Most.{count_of, most_of}
use Rattle.summary.specs.Seen.{Lending, Event, emitted_by, event_of, Past, fresh_with, answered, next, run_of, LentOwn, is_begin, is_post, begins, frames_since, history, reported, long_in, is_information, is_numbered, count_if, Reports, JustReported, just_emitted}
use Rattle.summary.specs.Summary.{Promise, Summary}

-- ---- how many frames of a list

skips : (test : Frame → Bool) (f : Frame) (fs : List Frame) → test f ≡ false → count_if test (f ∷ fs) ≡ count_if test fs
unfolding count_if pick
skips test f fs e = rw e (omega arith)

adds : (test : Frame → Bool) (f : Frame) (fs : List Frame) → test f ≡ true → count_if test (f ∷ fs) ≡ count_if test fs + 1
unfolding count_if pick
adds test f fs e = rw e (omega arith)

-- ---- the counts of a history, of a transfer's frames among it, and whether the transfer is long

record Base (counts : List ℕ) (all own : List Frame) (long : Bool) : Type 0 where
  full : length counts ≡ 512
  counted : (number : ℕ) → number < 256 → count_at counts number ≡ count_if (is_numbered number) all
  summed : sum_of counts ≡ count_if is_information own
  unsent : long ≡ false → counts ≡ cleared

-- none yet
base_none : (long : Bool) → Base cleared [] [] long
unfolding count_if
base_none long = record { full = length_cleared; counted = at_cleared; summed = sum_cleared; unsent = λ e. refl }

module _ (counts : List ℕ) (all own : List Frame) (long : Bool) (b : Base counts all own long) (f : Frame) where
  -- a frame of another kind: a post, and one of the transfer
  module _ (other : f.kind ≡ 1 → ⊥) where
    uninformed : is_information f ≡ false
    uninformed = ne_eqb _ _ other

    unnumbered : (number : ℕ) → is_numbered number f ≡ false
    unnumbered number = rw uninformed

    base_post : Base counts (f ∷ all) own long
    base_post =
        record {
          full = b.full;
          counted = λ number inside. b.counted number inside ∙ sym (skips (is_numbered number) f all (unnumbered number));
          summed = b.summed;
          unsent = b.unsent;
        }

    base_other : Base counts (f ∷ all) (f ∷ own) long
    base_other =
        record {
          full = b.full;
          counted = base_post.counted;
          summed = b.summed ∙ sym (skips is_information f own uninformed);
          unsent = b.unsent;
        }

  -- an information frame of a long transfer
  module _ (number : ℕ) (one : f.kind ≡ 1) (is : byte_of f 0 ≡ number) (inside : number < 256) (sent : long ≡ true)
      (below : sum_of counts < 65535) where
    fits : count_at counts number < 65535
    fits = omega (arith, at_most_sum counts number 256 inside)

    informed : is_information f ≡ true
    informed = eq-eqb _ _ one

    counted_there : (other : ℕ) → other < 256 → (same : Bool) → eqb other number ≡ same
        → count_at (adding counts number) other ≡ count_if (is_numbered other) (f ∷ all)
    counted_there other low true e =
        let here : other ≡ number = eqb-true _ _ e in
        let hit : is_numbered other f ≡ true = rw (informed, is) (eq-eqb _ _ (sym here)) in
        let grown : count_at (adding counts number) other ≡ count_at counts other + 1 = rw here (at_added counts number b.full inside fits) in
        grown ∙ ap (λ n. n + 1) (b.counted other low) ∙ sym (adds (is_numbered other) f all hit)
    counted_there other low false e =
        let apart : other ≡ number → ⊥ = eqb-false _ _ e in
        let missed : is_numbered other f ≡ false = rw (informed, is) (ne_eqb _ _ (λ e. apart (sym e))) in
        at_others counts number b.full inside fits other apart
        ∙ b.counted other low
        ∙ sym (skips (is_numbered other) f all missed)

    sum_grows : sum_of (adding counts number) ≡ sum_of counts + 1
    sum_grows = sum_adding counts number b.full inside fits

    base_information : Base (adding counts number) (f ∷ all) (f ∷ own) long
    base_information =
        record {
          full = length_adding counts number b.full inside fits;
          counted = λ other low. counted_there other low (eqb other number) refl;
          summed = sum_grows ∙ ap (λ n. n + 1) b.summed ∙ sym (adds is_information f own informed);
          unsent = λ e. absurd (true≢false (sym sent ∙ e));
        }

-- ---- the invariant

-- a long transfer: all its frames so far are information frames; a short one
abbrev LongHolds : List ℕ → List Frame → Bool → Transfer → Type 0
LongHolds counts own long t = (sum_of counts ≡ t.emitted) × (length own ≡ t.emitted) × (long ≡ true)

abbrev ShortHolds : List Frame → Bool → Transfer → Type 0
ShortHolds own long t = (length own ≡ t.emitted) × (long ≡ false)

abbrev PhaseHolds : List ℕ → List Frame → Bool → Phase → Type 0
PhaseHolds counts own long Idle = Unit
PhaseHolds counts own long (Opening x) = LongHolds counts own long x.transfer
PhaseHolds counts own long (Sending x) = LongHolds counts own long x.transfer
PhaseHolds counts own long (Waiting x) = LongHolds counts own long x.transfer
PhaseHolds counts own long (Short x) = ShortHolds own long x.transfer

record Holds (limit : ℕ) (s : Sender) (counts : List ℕ) (events : List Event) : Type 0 where
  reached : Reachable s
  limited : s.settings.limit ≡ limit
  base : Base counts (history events) (reported events) (long_in events)
  bounded : sum_of counts ≤ limit
  phase : PhaseHolds counts (reported events) (long_in events) s.phase

-- ---- what an event adds to the frames seen

-- a call that is no accepted begin, and emits nothing
seen_none : (among : Call → Bool) (e : Event) (events : List Event) → begins e ≡ false → e.emitted ≡ []
    → frames_since among (e ∷ events) ≡ frames_since among events
unfolding frames_since pick
seen_none among e events on none =
    rw (on, none)
    (pick_elim (λ (fs : List Frame). fs ++ frames_since among events ≡ frames_since among events) (among e.call)
    (λ yes. refl) (λ no. refl))

-- one that emits a frame, and is among those that are asked for
seen_one : (among : Call → Bool) (e : Event) (events : List Event) (f : Frame) → begins e ≡ false → among e.call ≡ true
    → e.emitted ≡ f ∷ []
    → frames_since among (e ∷ events) ≡ f ∷ frames_since among events
unfolding frames_since pick
seen_one among e events f on in-it one = rw (on, in-it, one)

seen_long : (e : Event) (events : List Event) → begins e ≡ false → long_in (e ∷ events) ≡ long_in events
unfolding long_in pick
seen_long e events on = rw on

-- ---- one call, of a sender and counts of which that holds

module _ (limit : ℕ) (s : Sender) (counts : List ℕ) (events : List Event)
    (w : SettingsWithin s.settings) (limited : s.settings.limit ≡ limit)
    (b : Base counts (history events) (reported events) (long_in events)) (bounded : sum_of counts ≤ limit) where
  -- what its report says, if it has one
  abbrev Closes : Told → List ℕ → List Frame → Bool → Type 0
  Closes t after own long =
      (frames : ℕ) → Reports t.outcome frames
      → (length own ≡ frames) × (long ≡ true → sum_of after + length (emitted_by t) ≡ frames)

  record After (c : Call) (t : Told) (after : List ℕ) : Type 0 where
    holds : Holds limit t.next after (event_of c t ∷ events)
    closes : Closes t after (reported (event_of c t ∷ events)) (long_in (event_of c t ∷ events))

  -- what a call leaves: the frames that have gone out by then, and the counts of them
  goes : (c : Call) (t : Told) (after : List ℕ) (all own : List Frame) (long : Bool)
      → history (event_of c t ∷ events) ≡ all → reported (event_of c t ∷ events) ≡ own → long_in (event_of c t ∷ events) ≡ long
      → Reachable t.next → t.next.settings.limit ≡ limit → Base after all own long → sum_of after ≤ limit
      → PhaseHolds after own long t.next.phase → Closes t after own long
      → After c t after
  goes c t after all own long h r l reach lim base most p closed =
      record {
        holds = record { reached = reach; limited = lim; base = rw (h, r, l) base; bounded = most; phase = rw (r, l) p };
        closes = rw (r, l) closed;
      }

  abbrev Now : Phase → Type 0
  Now p = PhaseHolds counts (reported events) (long_in events) p

  -- a call that is no accepted begin and emits nothing
  still : (c : Call) (t : Told) → begins (event_of c t) ≡ false → t.emits ≡ false → Reachable t.next
      → t.next.settings.limit ≡ limit → Now t.next.phase
      → Closes t counts (reported events) (long_in events)
      → After c t counts
  unfolding pick
  still c t on mute reach lim p closed =
      let none : emitted_by t ≡ [] = rw mute in
      goes c t counts _ _ _ (seen_none _ _ events on none) (seen_none _ _ events on none) (seen_long _ events on)
      reach lim b bounded p closed

  -- a refusal
  refused_call : (c : Call) (number : ℕ) → Reachable s → Now s.phase → After c (refusing s number) counts
  refused_call c number reach p = still c _ (and-false (is_begin c)) refl reach limited p (λ frames r. absurd r)

  -- the calls that neither begin nor post: a tick, a hearing
  abbrev Plain : Call → Type 0
  Plain c = (is_begin c ≡ false) × (is_post c ≡ false)

  plain_on : (c : Call) (t : Told) → Plain c → begins (event_of c t) ≡ false
  plain_on c t k = rw k.0

  silent : (c : Call) (t : Told) → Plain c → t.emits ≡ false → t.frame ≡ blank_of → Reachable t.next
      → t.next.settings.limit ≡ limit → Now t.next.phase
      → Closes t counts (reported events) (long_in events)
      → After c t (counting counts t.frame)
  silent c t k mute blank reach lim p closed =
      subst (After c t) (sym (ap (counting counts) blank ∙ blank_none counts))
      (still c t (plain_on c t k) mute reach lim p closed)

  -- one of these that emits a frame of the transfer
  emits_own : (c : Call) (t : Told) (f : Frame) (after : List ℕ) → Plain c → emitted_by t ≡ f ∷ [] → Reachable t.next
      → t.next.settings.limit ≡ limit → Base after (f ∷ history events) (f ∷ reported events) (long_in events)
      → sum_of after ≤ limit → PhaseHolds after (f ∷ reported events) (long_in events) t.next.phase
      → Closes t after (f ∷ reported events) (long_in events)
      → After c t after
  emits_own c t f after k one reach lim base most p closed =
      goes c t after _ _ _ (seen_one _ _ events f (plain_on c t k) refl one)
      (seen_one _ _ events f (plain_on c t k) (rw k.1) one) (seen_long _ events (plain_on c t k))
      reach lim base most p closed

  -- ---- long transfers

  abbrev LongNow : Transfer → Type 0
  LongNow t = LongHolds counts (reported events) (long_in events) t

  long_of : {p : Phase} {t : Transfer} → Long p t → Now p → LongNow t
  long_of opening h = h
  long_of (windowed sending) h = h
  long_of (windowed waiting) h = h

  within_of : {p : Phase} {t : Transfer} → Long p t → PhaseWithin s.settings p → LongWithin s.settings t
  within_of opening h = h.0
  within_of (windowed sending) h = h.0
  within_of (windowed waiting) h = h.0

  -- the frames of a transfer are at most M, also with one more where it goes on
  few_frames : (t : Transfer) → TransferWithin s.settings t → t.emitted < 65535
  few_frames t h = let m = w.limit in omega (arith, h.age, h.emitted)

  grows : (t : Transfer) → TransferWithin s.settings t → increment_of t.age < s.settings.limit
      → (increment_of t.emitted ≡ t.emitted + 1) × (t.emitted + 1 ≤ limit)
  unfolding increment_of
  grows t h young =
      let m = w.limit in
      (omega (arith, h.age, h.emitted), omega (arith, h.age, h.emitted, limited))

  -- after a frame of a window the transfer is still long
  after_frame_lem : (x : Streamed) (after : List ℕ) (own : List Frame)
      → LongHolds after own (long_in events) (counted (aged x.transfer))
      → PhaseHolds after own (long_in events) (after_frame x)
  unfolding after_frame
  after_frame_lem x after own l = pick_elim (PhaseHolds after own (long_in events)) _ (λ last. l) (λ more. l)

  -- a tick that emits an information frame and goes on
  informs : (m : List ℕ) (next : Sender) (f : Frame) (number : ℕ) (t : Transfer) → f.kind ≡ 1 → byte_of f 0 ≡ number
      → number < 256 → Reachable next → next.settings.limit ≡ limit → TransferWithin s.settings t
      → increment_of t.age < s.settings.limit → LongNow t
      → ((after : List ℕ) (own : List Frame) → LongHolds after own (long_in events) (counted (aged t))
      → PhaseHolds after own (long_in events) next.phase)
      → After (tick m) (emitting next f) (counting counts f)
  unfolding pick
  informs m next f number t one is inside reach lim within young h enters =
      let g = grows t within young in
      let few : sum_of counts < 65535 = omega (arith, h.0, few_frames t within) in
      let more = sum_grows counts _ _ _ b f number one is inside h.2 few in
      let all : sum_of (adding counts number) ≡ increment_of t.emitted = omega (arith, more, h.0, g.0) in
      let own : length (f ∷ reported events) ≡ increment_of t.emitted = omega (arith, h.1, g.0) in
      subst (After (tick m) (emitting next f)) (counts_information counts _ f number one (sym is) refl)
      (emits_own (tick m) _ f (adding counts number) (refl, refl) refl reach lim
      (base_information counts _ _ _ b f number one is inside h.2 few)
      (omega (arith, more, h.0, g.1))
      (enters (adding counts number) (f ∷ reported events) (all, own, h.2))
      (λ frames r. absurd r))

  -- a NACK that ends it: it is counted by the report, and is no information frame
  ends_with : (c : Call) (t : Transfer) (cause : ℕ) → Plain c → Reachable (failing_with s t cause).next → t.emitted < 65535
      → LongNow t
      → After c (failing_with s t cause) (counting counts (lm_nack_of cause))
  unfolding pick lm_nack_of
  ends_with c t cause k reach few h =
      let more = increment_is t.emitted few in
      subst (After c (failing_with s t cause)) (sym (nack_none counts cause))
      (emits_own c _ (lm_nack_of cause) counts k refl reach limited
      (base_other counts _ _ _ b (lm_nack_of cause) (λ e. omega (arith, e))) bounded tt
      (λ frames r. (omega (arith, h.1, more, r), λ long. omega (arith, h.0, more, r))))

  -- the end of one with no frame, and of a short one
  ends : (t : Transfer) → LongNow t → (frames : ℕ) → t.emitted ≡ frames
      → (length (reported events) ≡ frames) × (long_in events ≡ true → sum_of counts + 0 ≡ frames)
  ends t h frames r = (h.1 ∙ r, λ long. omega (arith, h.0, r))

  ends_short : (t : Transfer) → ShortHolds (reported events) (long_in events) t → (frames : ℕ) → t.emitted ≡ frames
      → (length (reported events) ≡ frames) × (long_in events ≡ true → sum_of counts + 0 ≡ frames)
  ends_short t h frames r = (h.0 ∙ r, λ long. absurd (true≢false (sym long ∙ h.1)))

  -- a tick of a short transfer that emits SM_RM again
  repeats : (m : List ℕ) (next : Sender) (t : Transfer) → Reachable next → next.settings.limit ≡ limit
      → TransferWithin s.settings t → increment_of t.age < s.settings.limit
      → ShortHolds (reported events) (long_in events) t
      → ((own : List Frame) → ShortHolds own (long_in events) (counted (aged t))
      → PhaseHolds counts own (long_in events) next.phase)
      → After (tick m) (emitting next (sm_rm_of m)) (counting counts (sm_rm_of m))
  unfolding pick sm_rm_of
  repeats m next t reach lim within young h enters =
      let other : (sm_rm_of m).kind ≡ 1 → ⊥ = λ e. omega (arith, e) in
      let own : length (sm_rm_of m ∷ reported events) ≡ increment_of t.emitted = omega (arith, h.0, (grows t within young).0) in
      subst (After (tick m) (emitting next (sm_rm_of m))) (counts_no_other counts (sm_rm_of m) other)
      (emits_own (tick m) _ (sm_rm_of m) counts (refl, refl) refl reach lim
      (base_other counts _ _ _ b (sm_rm_of m) other) bounded
      (enters (sm_rm_of m ∷ reported events) (own, h.1))
      (λ frames r. absurd r))

  -- ---- every tick

  tick_keeps : {m : List ℕ} {p : Phase} {t : Told} → Ticks s m p t → PhaseWithin s.settings p → Now p → s.phase ≡ p
      → Reachable t.next
      → After (tick m) t (counting counts t.frame)
  unfolding announcement_of information_of pick
  tick_keeps {m} rests i h at reach = silent (tick m) _ (refl, refl) refl refl reach limited (rw at tt) (λ frames r. absurd r)
  tick_keeps {m} (opening_on_lem young early) i h at reach =
      silent (tick m) _ (refl, refl) refl refl reach limited h (λ frames r. absurd r)
  tick_keeps {m} (opening_again_lem {x} young few) i h at reach =
      informs m _ _ 0 x.transfer refl refl (omega arith) reach limited i.0.counted young h (λ after own l. l)
  tick_keeps {m} (sending_on_lem young early) i h at reach =
      silent (tick m) _ (refl, refl) refl refl reach limited h (λ frames r. absurd r)
  tick_keeps {m} (sending_next_lem {x} young) i h at reach =
      let top = i.0.frames in
      informs m _ _ x.next x.transfer refl refl (omega (arith, i.2, top.2)) reach limited i.0.counted young h
      (λ after own l. after_frame_lem x after own l)
  tick_keeps {m} (waiting_on_lem young early) i h at reach =
      silent (tick m) _ (refl, refl) refl refl reach limited h (λ frames r. absurd r)
  tick_keeps {m} (waiting_again_lem {x} young few) i h at reach =
      let top = i.0.frames in
      informs m _ _ x.last x.transfer refl refl (omega (arith, i.2, top.2)) reach limited i.0.counted young h
      (λ after own l. l)
  tick_keeps {m} (short_on_lem young early) i h at reach =
      silent (tick m) _ (refl, refl) refl refl reach limited h (λ frames r. absurd r)
  tick_keeps {m} (short_again_lem {x} young) i h at reach =
      repeats m _ x.transfer reach limited i.0.counted young h (λ own l. l)
  tick_keeps {m} (fails {t = t} cause l) i h at reach =
      ends_with (tick m) (aged t) cause (refl, refl) reach (few_frames t (within_of l i).counted) (long_of l h)
  tick_keeps {m} (fails_short {x}) i h at reach =
      silent (tick m) (failing s (aged x.transfer) 3) (refl, refl) refl refl reach limited tt (ends_short x.transfer h)

  -- ---- every hearing

  asked_long : {p : Phase} {t : Transfer} {start misses : ℕ} → Asked p t start misses → Long p t
  asked_long (from_first one) = opening
  asked_long (from_taken x on) = windowed x

  hear_keeps : {f : Frame} {p : Phase} {t : Told} → Hears s p t → PhaseWithin s.settings p → Now p → s.phase ≡ p
      → Reachable t.next
      → After (hear f) t (counting counts t.frame)
  unfolding taking taking_hold pick
  hear_keeps {f} (refuses number) i h at reach =
      silent (hear f) _ (refl, refl) refl refl reach limited (rw at h) (λ frames r. absurd r)
  hear_keeps {f} ignores i h at reach = silent (hear f) _ (refl, refl) refl refl reach limited (rw at h) (λ frames r. absurd r)
  hear_keeps {f} (above {t = t} l) i h at reach =
      ends_with (hear f) t 4 (refl, refl) reach (few_frames t (within_of l i).counted) (long_of l h)
  hear_keeps {f} (takes a from some inside) i h at reach =
      silent (hear f) _ (refl, refl) refl refl reach limited (long_of (asked_long a) h) (λ frames r. absurd r)
  hear_keeps {f} (takes_hold x from below) i h at reach =
      silent (hear f) _ (refl, refl) refl refl reach limited (long_of (windowed x) h) (λ frames r. absurd r)
  hear_keeps {f} (nacked {t = t} l) i h at reach =
      silent (hear f) (failing s t 1) (refl, refl) refl refl reach limited tt (ends t (long_of l h))
  hear_keeps {f} (finished {t = t} x) i h at reach =
      silent (hear f) (finishing s t) (refl, refl) refl refl reach limited tt (ends t (long_of (windowed x) h))
  hear_keeps {f} (finished_short {x}) i h at reach =
      silent (hear f) (finishing s x.transfer) (refl, refl) refl refl reach limited tt (ends_short x.transfer h)

  -- ---- a post, and an accepted begin

  posted : (m : List ℕ) → Reachable s → Now s.phase → After (post m) (emitting s (sm_urm_of m)) (counting counts (sm_urm_of m))
  unfolding frames_since long_in pick sm_urm_of
  posted m reach h =
      subst (After (post m) (emitting s (sm_urm_of m))) (sym (posted_none counts m))
      (goes (post m) _ counts _ _ _ refl refl refl reach limited
      (base_post counts _ _ _ b (sm_urm_of m) (λ e. omega (arith, e))) bounded h (λ frames r. absurd r))

  begun_long : (m : List ℕ) → 9 ≤ length m → Reachable (begin_long s m).next
      → After (begin m) (begin_long s m) (begun (begin_long s m) counts).counts
  unfolding frames_since long_in pick begin_long begun announcement_of
  begun_long m many reach =
      let f : Frame = announcement_of (frame_count_of (length m)) (length m) in
      let long : leb 9 (length m) ≡ true = le-leb _ _ many in
      let few : sum_of cleared < 65535 = omega (arith, sum_cleared) in
      let one = sum_grows cleared [] [] true (base_none true) f 0 refl refl (omega arith) refl few in
      let first : sum_of (adding cleared 0) ≡ 1 = omega (arith, one, sum_cleared) in
      let small = w.limit in
      subst (After (begin m) (begin_long s m)) (counts_information cleared _ f 0 refl refl refl)
      (goes (begin m) _ (adding cleared 0) _ _ _ refl refl long reach limited
      (base_information cleared [] [] true (base_none true) f 0 refl refl (omega arith) refl few)
      (omega (arith, first, limited)) (first, refl, refl) (λ frames r. absurd r))

  begun_short : (m : List ℕ) → length m ≤ 8 → Reachable (begin_short s m).next
      → After (begin m) (begin_short s m) (begun (begin_short s m) counts).counts
  unfolding frames_since long_in pick begin_short begun sm_rm_of
  begun_short m few reach =
      let short : leb 9 (length m) ≡ false = lt-leb 9 (length m) (omega arith) in
      let other : (sm_rm_of m).kind ≡ 1 → ⊥ = λ e. omega (arith, e) in
      subst (After (begin m) (begin_short s m)) (counts_no_other cleared (sm_rm_of m) other)
      (goes (begin m) _ cleared _ _ _ refl refl short reach limited
      (base_other cleared [] [] false (base_none false) (sm_rm_of m) other)
      (omega (arith, sum_cleared)) (refl, refl) (λ frames r. absurd r))

  -- ---- every call that is lent the counts

  refused_keeps : (c : Call) (number : ℕ) → Now s.phase → Reachable s
      → After c (refusing s number) (kept_by c (refusing s number) counts).counts
  unfolding begun pick
  refused_keeps (begin m) number h reach = refused_call (begin m) number reach h
  refused_keeps (tick m) number h reach =
      subst (After (tick m) _) (sym (blank_none counts)) (refused_call (tick m) number reach h)
  refused_keeps (hear f) number h reach =
      subst (After (hear f) _) (sym (blank_none counts)) (refused_call (hear f) number reach h)
  refused_keeps (post m) number h reach =
      subst (After (post m) _) (sym (blank_none counts)) (refused_call (post m) number reach h)

  call_keeps : {c : Call} {t : Told} → Calls s c t → PhaseWithin s.settings s.phase → Now s.phase → Reachable s
      → Reachable t.next
      → After c t (kept_by c t counts).counts
  call_keeps {c} (refuses number) i h old reach = refused_keeps c number h old
  call_keeps (begins_long idle many high) i h old reach = begun_long _ many reach
  call_keeps (begins_short idle some few) i h old reach = begun_short _ few reach
  call_keeps (posts some few) i h old reach = posted _ old h
  call_keeps (ticks lent x) i h old reach = tick_keeps x i h refl reach
  call_keeps (hears x) i h old reach = hear_keeps x i h refl reach

-- ---- every list of calls

-- after a list of calls: the invariant, and what the newest report says
record Stands (limit : ℕ) (p : Past) : Type 0 where
  holds : Holds limit p.sender p.counts p.events
  closes : (frames : ℕ) → JustReported p.events frames
      → (length (reported p.events) ≡ frames)
      × (long_in p.events ≡ true → sum_of p.counts + just_emitted p.events ≡ frames)

-- what a refused call answers is its number alone
refusal_is : (s : Sender) (t : Told) (number : ℕ) → Unchanged s t → t.outcome ≡ refused number → t ≡ refusing s number
refusal_is s t number same e =
    ap (λ (next : Sender). record { next = next; emits = t.emits; frame = t.frame; outcome = t.outcome }) same.next
    ∙ ap (λ (emits : Bool). record { next = s; emits = emits; frame = t.frame; outcome = t.outcome }) same.emits
    ∙ ap (λ (f : Frame). record { next = s; emits = false; frame = f; outcome = t.outcome }) same.frame
    ∙ ap (λ (o : Outcome). record { next = s; emits = false; frame = blank_of; outcome = o }) e

module _ (limit : ℕ) (p : Past) (x : Stands limit p) where
  -- what a call leaves
  abbrev Leaves : Call → Told → List ℕ → Type 0
  Leaves c t counts = Stands limit (record { sender = t.next; counts = counts; events = event_of c t ∷ p.events })

  -- one that is refused, whatever it was lent, and one that was lent the counts
  refused_leaves : (c : Call) (number : ℕ) → Leaves c (refusing p.sender number) p.counts
  refused_leaves c number =
      let h = x.holds in
      let i = reachable_within h.reached in
      let a =
      refused_call limit p.sender p.counts p.events i.settings h.limited h.base h.bounded
      c number h.reached h.phase in
      record { holds = a.holds; closes = a.closes }

  accepted_leaves : (c : Call)
      → (let t = answer_of p.sender c in Leaves c t (kept_by c t p.counts).counts)
  accepted_leaves c =
      let h = x.holds in
      let i = reachable_within h.reached in
      let a =
      call_keeps limit p.sender p.counts p.events i.settings h.limited h.base h.bounded
      (call_does p.sender c) i.phase h.phase h.reached (called c h.reached) in
      record { holds = a.holds; closes = a.closes }

  -- a call that is not refused was lent 512 bytes, those of the counts, and answers as the sender's own
  next_keeps : (l : Lending) → (is_refused (answered p l).told.outcome ≡ false → l.lent ≡ p.counts)
      → Stands limit (next p l)
  unfolding next pick
  next_keeps l own = by (is_refused (answered p l).told.outcome) refl
    where
      c : Call
      c = l.call

      k : Kept
      k = answered p l

      P : Bool → Type 0
      P denied = Leaves c k.told (pick denied p.counts k.counts)

      refused_so : (o : Outcome) → k.told.outcome ≡ o → is_refused o ≡ true → Leaves c k.told p.counts
      refused_so quiet e h = absurd (true≢false (sym h))
      refused_so (refused number) e h =
          let same = (each_call.refuses p.sender c l.lent number e).0 in
          subst (λ (t : Told). Leaves c t p.counts) (sym (refusal_is p.sender k.told number same e)) (refused_leaves c number)
      refused_so (sent age frames) e h = absurd (true≢false (sym h))
      refused_so (failed cause age frames) e h = absurd (true≢false (sym h))

      by : (denied : Bool) → is_refused k.told.outcome ≡ denied → P (is_refused k.told.outcome)
      by true e = subst P (sym e) (refused_so _ refl e)
      by false e =
          let lent : l.lent ≡ p.counts = own e in
          let full : length l.lent ≡ 512 = ap length lent ∙ x.holds.base.full in
          let t = answer_of p.sender c in
          let is : k ≡ kept_by c t l.lent = lent_is p.sender c l.lent full in
          let alike : k.told ≡ t = answers_alike p.sender c l.lent full in
          let counts : k.counts ≡ (kept_by c t p.counts).counts =
          ap (λ (k : Kept). k.counts) is ∙ ap (λ (lent : List ℕ). (kept_by c t lent).counts) lent in
          subst P (sym e)
          (subst (λ (u : Told). Leaves c u k.counts) (sym alike)
          (subst (Leaves c t) (sym counts) (accepted_leaves c)))

run_keeps : (limit : ℕ) (p : Past) (calls : List Lending) → Stands limit p → LentOwn p calls → Stands limit (run_of p calls)
unfolding run_of
run_keeps limit p [] x own = x
run_keeps limit p (l ∷ calls) x own = run_keeps limit (next p l) calls (next_keeps limit p x l own.0) own.1

-- ---- the claim

accepted_sender : {a b : Sender} → accepted a ≡ accepted b → a ≡ b
accepted_sender e = cc

-- a fresh sender, with its M
starts : (gap timeout limit : ℕ) (s : Sender) → make_of gap timeout limit ≡ accepted s → Stands limit (fresh_with s)
unfolding make_of frames_since long_in
starts gap timeout limit s e =
    let same : idle_with gap timeout limit ≡ s = accepted_sender (pick_accepted _ _ 1 e).1 in
    record {
      holds =
          subst (λ (r : Sender). Reachable r → Holds limit r cleared []) same
          (λ reach.
          record {
            reached = reach;
            limited = refl;
            base = base_none false;
            bounded = omega (arith, sum_cleared);
            phase = tt;
          })
          (fresh gap timeout limit e);
      closes = λ frames none. absurd none;
    }

-- what is read of a number is its count
reads_so : (counts : List ℕ) (number count : ℕ) → length counts ≡ 512 → count_at counts number ≡ count
    → count_of number counts ≡ accepted (record { number = number; count = count })
unfolding count_of
reads_so counts number count full e = sym (pick_true _ (eq-eqb _ _ full) (ap accepted (counted_is counts number count (sym e))))

promised : (limit : ℕ) (p : Past) → limit ≤ 60000 → Stands limit p → Promise limit p
promised limit p small x =
    let h = x.holds in
    let most : (number : ℕ) → number < 256 → count_at p.counts number ≤ limit =
    λ number inside. omega (arith, at_most_sum p.counts number 256 inside, h.bounded) in
    record {
      counts = λ number inside. reads_so p.counts number _ h.base.full (h.base.counted number inside);
      sum = λ frames r. ((x.closes frames r).0, h.base.summed);
      closing = λ frames r long. (x.closes frames r).1 long;
      none = λ short. let none = h.base.unsent short in (none, ap most_of none ∙ names_none);
      bounded = h.bounded;
      uncut = λ number inside.
          let low = most number inside in (low, increment_is (count_at p.counts number) (omega (arith, low)));
    }

pub summary : Summary
summary gap timeout limit s calls made own =
    let x = run_keeps limit (fresh_with s) calls (starts gap timeout limit s made) own in
    let h = x.holds in
    promised limit _ (omega (arith, (reachable_within h.reached).settings.limit.1, h.limited)) x
