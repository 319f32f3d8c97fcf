-- What the receiver's calls do to a long transfer's stage: each leaves a stage behind, with what was delivered added.
use Prim.Native.Nat.{ℕ, ◌≤◌, ◌<◌}
use mathlib.Core.Bool.{Bool, true, false, false≢true}
use mathlib.Core.List.{List, [], ◌∷◌, ◌++◌, append-nil}
use mathlib.Core.Path.{◌≡◌, refl, sym, ◌∙◌, subst⁻¹}
use native.Mathlib.Omega.{arith}
use lib.ListN.{length}
use Rattle.frame.specs.Count.{frame_count_of}
use Rattle.frame.specs.declared.Frame.{Frame}
use Rattle.receiver.proofs.View.{receiver_in, Shut, Ticks, rests, waits, retries, repeats, expires, tick_does, Pause, hold, pause_of, Pauses, denied, holds, resumes, pause_does, Announced, nacks, opens, again, Informed, ended, Hears, hear_does}
use Rattle.receiver.specs.Hear.{hear_of}
use Rattle.receiver.specs.Tick.{tick_of}
use Rattle.receiver.specs.Told.{Told, Heard, heard}
use Rattle.receiver.specs.declared.Phase.{Phase}
use Rattle.receiver.specs.declared.Delivery.{Delivery}
use Rattle.receiver.specs.declared.Phase.TheVariants.{Idle, Done, Open}
use Rattle.receiver.specs.declared.Settings.{Settings}
use Rattle.delivery.proofs.Lines as lines
use Rattle.delivery.proofs.Lines.{Line, more, joins, widens, behind, Ordered, late, behind_ordered}
use Rattle.delivery.proofs.Receives.{Read, refused, ignored, read, reads_announcement, reads_information, early_reads, Goes, silent, replies, fails, Ends, goes, ends, astray, half_tick, half_pause, half_announcement, half_information}
use Rattle.transport.proofs.Refusals.{Unrefused}
use Rattle.delivery.proofs.Stages as stages
use Rattle.delivery.proofs.Stages.{frames_of, Announces, announces, Carries, carries, Other, Declines, Replies, grants, Closes, Strays, Early, Halfway, closed, opened, Stage, early, fresh, asked, going, there, lost}
use Rattle.delivery.specs.Seen.{deliveries_by}
use Rattle.transport.specs.Step.{emission, was_refused, buffer_after, Rest, gone, still, leaving}

-- the stage after a call of the receiver that told h: forward as the call left it, back, the buffer and the deliveries as
-- they were before it
pub record Took (Lax : Type 0) (m : List ℕ) (is_opening : Bool) (forward back : List Frame) (buffer : List ℕ) (ds : List (List ℕ))
    (h : Heard) : Type 0 where
  pub stage :
      Stage Lax m is_opening h.told.next.phase forward (back ++ emission h.told.emits h.told.frame)
      (buffer_after (was_refused h.told.outcome) buffer h.buffer)
      (deliveries_by h.told.outcome h.told.bytes h.buffer ++ ds)

-- the receiver remembers m's N and L
abbrev holding : List ℕ → Phase
holding m = Done (record { frames = frames_of m; length = length m })

-- no frame joins
same : {P : Frame → Type 0} {fs : List Frame} → Line P fs → Line P (fs ++ [])
same l = rw append-nil l

declined_is : (f : Frame) → Declines f → Replies f
declined_is f (stages.Declines.refuses cause) = stages.Replies.refuses cause
declined_is f (stages.later start count _) = grants start count

module _ {m : List ℕ} {rs : Settings} {forward back : List Frame} {buffer : List ℕ} where
  asked_goes : {Lax : Type 0} {h : Heard} → Line (Announces m) forward → Line Replies back → Goes m rs h
      → Took Lax m true forward back buffer [] h
  asked_goes l b (silent h) = record { stage = asked h l (same b) }
  asked_goes l b (replies h r) = record { stage = asked h l (joins b r) }
  asked_goes l b (fails cause) = record { stage = asked closed l (joins b (stages.Replies.refuses cause)) }

  going_goes : {Lax : Type 0} {h : Heard} → Ordered (Announces m) (Carries m) forward → Line Replies back → Goes m rs h
      → Took Lax m false forward back buffer [] h
  going_goes l b (silent h) = record { stage = going h l (same b) }
  going_goes l b (replies h r) = record { stage = going h l (joins b r) }
  going_goes l b (fails cause) = record { stage = going closed l (joins b (stages.Replies.refuses cause)) }

  -- the last frame: m has been delivered, and only information frames are left on forward
  going_ends : {Lax : Type 0} {h : Heard} → Line (Carries m) forward → Line Replies back → Ends m rs h
      → Took Lax m false forward back buffer [] h
  going_ends l b (goes g) = going_goes (late l) b g
  going_ends l b (astray x other small) =
      record {
        stage =
            lost other small l
            (joins (widens (λ f r. stages.Strays.replies r) b) (stages.Strays.ends _ _ other small));
      }
  going_ends l b (ends x many long whole) =
      record {
        stage =
            rw (many, long, whole) (there l (joins (widens (λ f r. stages.Closes.replies r) b) (stages.Closes.ends refl)));
      }

module _ {m : List ℕ} {rs : Settings} {forward back : List Frame} {buffer : List ℕ} where
  -- the announcement of m, heard while the receiver is shut and has not opened: refused, or it opens
  fresh_announcement : {Lax : Type 0} {q : Phase} {lent : List ℕ} {h : Heard} → 1 ≤ frames_of m → Shut q → Line (Announces m) forward
      → Line Declines back
      → Announced rs (frames_of m) (length m) lent q h → Took Lax m true forward back buffer [] h
  fresh_announcement some shut l b (nacks _ cause) =
      record { stage = fresh shut l (joins b (stages.Declines.refuses cause)) }
  fresh_announcement some shut l b (opens _ _ _ _ _) =
      let one : 1 ≤ 1 = omega arith in
      record { stage = asked (opened refl refl one some refl) l (joins (widens declined_is b) (grants 1 _)) }
  fresh_announcement some shut l b again = absurd shut

  -- after the delivery the last frame again draws EndofACK again; nothing else happens
  there_information : {Lax : Type 0} {lent bytes : List ℕ} {number : ℕ} {h : Heard} → Line (Carries m) forward → Line (Closes m) back
      → Informed rs number bytes lent (holding m) h → Took Lax m false forward back buffer (m ∷ []) h
  there_information l b (ended _) = record { stage = there l (joins b (stages.Closes.ends refl)) }

  -- so it does where another delivery came of the transfer
  lost_information : {Lax : Type 0} {y : Delivery} {ds : List (List ℕ)} {lent bytes : List ℕ} {number : ℕ} {h : Heard}
      → Other m y.frames y.length → y.length ≤ 1785
      → Line (Carries m) forward → Line (Strays m) back
      → Informed rs number bytes lent (Done y) h → Took Lax m false forward back buffer ds h
  lost_information other small l b (ended _) =
      record { stage = lost other small l (joins b (stages.Strays.ends _ _ other small)) }

-- ---- every stage

early_open : (p : Phase) → Early p → Shut p → ⊥
early_open Idle e s = e
early_open (Done y) e s = e
early_open (Open x) e s = s

ticked : {Lax : Type 0} {m : List ℕ} {is_opening : Bool} {q : Phase} {forward back : List Frame} {buffer : List ℕ} {ds : List (List ℕ)}
    {rs : Settings} {t : Told}
    → Stage Lax m is_opening q forward back buffer ds → Ticks rs q t → Took Lax m is_opening forward back buffer ds (heard t buffer)
ticked (early {p} lax past l b) (rests shut) = absurd (early_open p past shut)
ticked (early lax past l b) (waits _) = record { stage = early lax past l (same b) }
ticked (early lax past l b) (retries {x} _ _ _) =
    let more : 1 < x.expected = past.0 in
    record { stage = early lax past l (joins b (stages.later x.expected _ (λ one. absurd (omega arith)))) }
ticked (early lax past l b) (repeats _ held _) = absurd (false≢true (sym past.1 ∙ held))
ticked (early lax past l b) expires = record { stage = fresh tt l (joins b (stages.Declines.refuses 2)) }
ticked (fresh shut l b) (rests _) = record { stage = fresh shut l (same b) }
ticked (fresh shut l b) (waits _) = absurd shut
ticked (fresh shut l b) (retries _ _ _) = absurd shut
ticked (fresh shut l b) (repeats _ _ _) = absurd shut
ticked (fresh shut l b) expires = absurd shut
ticked {m} {rs = rs} (asked h l b) v = asked_goes l b (half_tick m rs v h)
ticked {m} {rs = rs} (going h l b) v = going_goes l b (half_tick m rs v h)
ticked (there l b) (rests _) = record { stage = there l (same b) }
ticked (lost other small l b) (rests _) = record { stage = lost other small l (same b) }

pub stage_tick : {Lax : Type 0} {m : List ℕ} {is_opening : Bool} {q : Phase} {forward back : List Frame} {buffer : List ℕ}
    {ds : List (List ℕ)} (rs : Settings)
    → Stage Lax m is_opening q forward back buffer ds
    → Took Lax m is_opening forward back buffer ds (heard (tick_of (receiver_in rs q)) buffer)
stage_tick {q = q} rs s = ticked s (tick_does (receiver_in rs q))

-- A hold or a resume: where it is refused nothing changes. Elsewhere it has an open connection, held or not as the call
-- needs it; an early one is not held, and no hold of it is accepted.
paused : {Lax : Type 0} {m : List ℕ} {is_opening : Bool} {q : Phase} {forward back : List Frame} {buffer : List ℕ}
    {ds : List (List ℕ)} {rs : Settings} {k : Pause} {t : Told}
    → (Lax → k ≡ hold → was_refused t.outcome ≡ true)
    → Stage Lax m is_opening q forward back buffer ds
    → Pauses rs k q t
    → Took Lax m is_opening forward back buffer ds (heard t buffer)
paused c s denied = record { stage = rw append-nil s }
paused c (early lax past l b) (holds _ _) = absurd (false≢true (c lax refl))
paused c (early lax past l b) (resumes held) = absurd (false≢true (sym past.1 ∙ held))
paused c (fresh shut l b) (holds _ _) = absurd shut
paused c (fresh shut l b) (resumes _) = absurd shut
paused {m = m} {rs = rs} c (asked h l b) (holds e f) = asked_goes l b (half_pause m rs refl (holds e f) h)
paused {m = m} {rs = rs} c (asked h l b) (resumes e) = asked_goes l b (half_pause m rs refl (resumes e) h)
paused {m = m} {rs = rs} c (going h l b) (holds e f) = going_goes l b (half_pause m rs refl (holds e f) h)
paused {m = m} {rs = rs} c (going h l b) (resumes e) = going_goes l b (half_pause m rs refl (resumes e) h)

pub stage_pause : {Lax : Type 0} {m : List ℕ} {is_opening : Bool} {q : Phase} {forward back : List Frame} {buffer : List ℕ}
    {ds : List (List ℕ)} (rs : Settings) (k : Pause)
    → (Lax → k ≡ hold → was_refused (pause_of k (receiver_in rs q)).outcome ≡ true)
    → Stage Lax m is_opening q forward back buffer ds
    → Took Lax m is_opening forward back buffer ds (heard (pause_of k (receiver_in rs q)) buffer)
stage_pause {q = q} rs k c s = paused c s (pause_does k (receiver_in rs q))

-- what is left of a list whose first frame was given
pub left_line : {P : Frame → Type 0} {f : Frame} {fs : List Frame} (k : Rest) → Line P (f ∷ fs) → Line P (leaving k f fs)
left_line gone l = behind l
left_line still l = l

pub left_ordered : {P Q : Frame → Type 0} {f : Frame} {fs : List Frame} (k : Rest) → Ordered P Q (f ∷ fs)
    → Ordered P Q (leaving k f fs)
left_ordered gone o = behind_ordered o
left_ordered still o = o

-- the first frame of forward has been taken away, or kept
pub stage_leaving : {Lax : Type 0} {m : List ℕ} {is_opening : Bool} {q : Phase} {f : Frame} {rest back : List Frame} {buffer : List ℕ}
    {ds : List (List ℕ)} (k : Rest)
    → Stage Lax m is_opening q (f ∷ rest) back buffer ds
    → Stage Lax m is_opening q (leaving k f rest) back buffer ds
stage_leaving k (early lax past l b) = early lax past (left_line k l) b
stage_leaving k (fresh shut l b) = fresh shut (left_line k l) b
stage_leaving k (asked h l b) = asked h (left_line k l) b
stage_leaving k (going h l b) = going h (left_ordered k l) b
stage_leaving k (there l b) = there (left_line k l) b
stage_leaving k (lost other small l b) = lost other small (left_line k l) b

-- the first frame of back has been lost
pub stage_back : {Lax : Type 0} {m : List ℕ} {is_opening : Bool} {q : Phase} {f : Frame} {forward rest : List Frame} {buffer : List ℕ}
    {ds : List (List ℕ)}
    → Stage Lax m is_opening q forward (f ∷ rest) buffer ds
    → Stage Lax m is_opening q forward rest buffer ds
stage_back (early lax past l b) = early lax past l (behind b)
stage_back (fresh shut l b) = fresh shut l (behind b)
stage_back (asked h l b) = asked h l (behind b)
stage_back (going h l b) = going h l (behind b)
stage_back (there l b) = there l (behind b)
stage_back (lost other small l b) = lost other small l (behind b)

-- the transfer's own facts
pub record Fits (m : List ℕ) : Type 0 where
  pub long : 8 < length m
  pub fits : length m ≤ 1785

some_frames : (m : List ℕ) → Fits m → 1 ≤ frames_of m
unfolding frame_count_of
some_frames m w = omega arith

module _ {m : List ℕ} (w : Fits m) {rs : Settings} {lent : List ℕ} (k : Rest) where
  announcement : {q : Phase} {f : Frame} {h : Heard} → Announces m f → Hears rs f lent q h
      → Read rs q lent (Announced rs (frames_of m) (length m) lent q) h
  announcement (announces e) v = let small = w.fits in reads_announcement _ _ (omega arith) (rw e at v)

  -- the stage stays where the hearing is refused or ignored; else its buffer is the world's, and what is read decides
  taken : {Lax : Type 0} {is_opening : Bool} {q : Phase} {f : Frame} {rest back : List Frame} {buffer : List ℕ} {ds : List (List ℕ)}
      {h : Heard} {P : Heard → Type 0}
      → Stage Lax m is_opening q (f ∷ rest) back buffer ds
      → (Unrefused h → lent ≡ buffer)
      → Read rs q lent P h
      → (lent ≡ buffer → P h → Took Lax m is_opening (leaving k f rest) back buffer ds h)
      → Took Lax m is_opening (leaving k f rest) back buffer ds h
  taken s c (refused number) t = record { stage = rw append-nil (stage_leaving k s) }
  taken s c ignored t = record { stage = rw (append-nil, c refl) (stage_leaving k s) }
  taken s c (read u p) t = t (c u) p

  -- the hearing of the first frame of forward, whatever the stage
  heard_stage : {Lax : Type 0} {is_opening : Bool} {q : Phase} {f : Frame} {rest back : List Frame} {buffer : List ℕ} {ds : List (List ℕ)}
      {h : Heard}
      → Stage Lax m is_opening q (f ∷ rest) back buffer ds
      → (Unrefused h → lent ≡ buffer)
      → (Announces m f → Early q → Read rs q lent (λ _. ⊥) h)
      → Hears rs f lent q h
      → Took Lax m is_opening (leaving k f rest) back buffer ds h
  heard_stage (early lax past (more a l) b) c z v = taken (early lax past (more a l) b) c (z a past) (λ e n. absurd n)
  heard_stage (fresh shut (more a l) b) c z v =
      taken (fresh shut (more a l) b) c (announcement a v)
      (λ e n. fresh_announcement (some_frames m w) shut (left_line k (more a l)) b n)
  heard_stage {q = q} (asked h (more a l) b) c z v =
      taken (asked h (more a l) b) c (announcement a v)
      (λ e n. asked_goes (left_line k (more a l)) b (half_announcement m rs (some_frames m w) n (subst⁻¹ (Halfway m q) e h)))
  heard_stage {q = q} (going h (lines.early a o) b) c z v =
      taken (going h (lines.early a o) b) c (announcement a v)
      (λ e n. going_goes (left_ordered k (lines.early a o)) b
      (half_announcement m rs (some_frames m w) n (subst⁻¹ (Halfway m q) e h)))
  heard_stage {q = q} (going h (late (more (carries number low high) l)) b) c z v =
      taken (going h (late (more (carries number low high) l)) b) c (reads_information number m low v)
      (λ e n. going_ends (left_line k (more (carries number low high) l)) b
      (half_information m rs number lent n.0 w.fits high n.1 (subst⁻¹ (Halfway m q) e h)))
  heard_stage (lost other small (more (carries number low high) l) b) c z v =
      taken (lost other small (more (carries number low high) l) b) c (reads_information number m low v)
      (λ e n. lost_information other small (left_line k (more (carries number low high) l)) b n.1)
  heard_stage (there (more (carries number low high) l) b) c z v =
      taken (there (more (carries number low high) l) b) c (reads_information number m low v)
      (λ e n. there_information (left_line k (more (carries number low high) l)) b n.1)

early_reading : {m : List ℕ} {f : Frame} (rs : Settings) (q : Phase) (lent : List ℕ) → Announces m f → Early q
    → Read rs q lent (λ _. ⊥) (hear_of (receiver_in rs q) f lent)
early_reading rs q lent (announces e) past =
    subst⁻¹ (λ (g : Frame). Read rs q lent (λ _. ⊥) (hear_of (receiver_in rs q) g lent)) e (early_reads rs _ _ lent q past)

-- a hearing of the first frame of forward
pub stage_hear : {Lax : Type 0} {m : List ℕ} → Fits m → {is_opening : Bool} {q : Phase} {f : Frame} {rest back : List Frame}
    {buffer : List ℕ} {ds : List (List ℕ)}
    (rs : Settings) (lent : List ℕ) (k : Rest)
    → Stage Lax m is_opening q (f ∷ rest) back buffer ds
    → (Unrefused (hear_of (receiver_in rs q) f lent) → lent ≡ buffer)
    → Took Lax m is_opening (leaving k f rest) back buffer ds (hear_of (receiver_in rs q) f lent)
stage_hear w {q = q} {f = f} rs lent k s c =
    heard_stage w k s c (early_reading rs q lent) (hear_does (receiver_in rs q) f lent)
