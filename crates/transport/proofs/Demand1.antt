-- Demand 1 at the transport. Of all that the ends can tell only a refusal says so, and a refusal holds the state it found
-- and no frame; what is left is what the call does to the lines, which are at most 64 long as they are. A making is refused
-- only where a setting of an end does not fit.
-- Assumes nothing.
use Prim.Native.Nat.{ℕ, ◌≤◌}
use mathlib.Core.Bool.{Bool, true, false, ◌||◌, false≢true}
use mathlib.Core.List.{List, [], ◌∷◌, append-nil}
use mathlib.Core.Path.{◌≡◌, refl, sym, ◌∙◌}
use native.Mathlib.Omega.{arith}
use lib.ListN.{length}
use lib.Seq.{take_all}
use Rattle.frame.proofs.Choice.{pick_elim}
use Rattle.frame.specs.Choice.{pick}
use Rattle.frame.specs.Result.{Result, accepted, refused}
use Rattle.frame.specs.declared.Frame.{Frame}
use Rattle.line.proofs.Frames.{frames_limit}
use Rattle.receiver.proofs.View as view
use Rattle.receiver.specs.Hear as hearing
use Rattle.receiver.specs.Make as receiver-making
use Rattle.receiver.specs.Told as receiver
use Rattle.receiver.specs.declared.Phase as receiver-phase
use Rattle.receiver.specs.declared.Receiver.{Receiver}
use Rattle.receiver.specs.declared.Settings.{Settings}
use Rattle.sender.specs.Make as sender-making
use Rattle.sender.specs.Told as sender
use Rattle.sender.specs.declared.Sender.{Sender}
use Rattle.transport.proofs.Forms.{Forms, begin_tells, tick_tells, hear_tells}
use Rattle.transport.specs.Answer.{world_of, lent_of}
use Rattle.transport.specs.Capped.{capped, capped_step, at_line}
use Rattle.transport.specs.Demand1.{is_refusal, left_by, lent_by, refused_step, Demand1}
use Rattle.transport.specs.Make.{joined, make_of}
use Rattle.transport.specs.Step.{Stepped, sender_refused, by_sender, by_receiver, was_refused, with_lines}
use Rattle.transport.specs.Step.{Rest, gone, still, leaving, given_forward, given_back, step_of}
use Rattle.transport.specs.World.{World, Call, begin, sender_tick, receiver_tick, hold, resume, Given, nobody, to_sender, to_receiver}
use Rattle.transport.specs.World.{hear_forward, repeat_forward, lose_forward, hear_back, repeat_back, lose_back}

-- ---- what an end tells

-- an answer that says it was refused is a refusal
data Refused (s : Sender) : sender.Told → Type 0 where
  refusal : (number : ℕ) → Refused s (sender.refusing s number)

abbrev Honest : Sender → sender.Told → Type 0
Honest s a = sender_refused a.outcome ≡ true → Refused s a

honest_forms : (s : Sender) → Forms (Honest s) s
honest_forms s =
    record {
      refuses = λ number _. refusal number;
      rests = λ _ e. absurd (false≢true e);
      emits = λ _ _ _ e. absurd (false≢true e);
      fails = λ _ _ e. absurd (false≢true e);
      ends = λ _ _ e. absurd (false≢true e);
      finishes = λ _ e. absurd (false≢true e);
    }

data RefusedHearing (r : Receiver) (lent : List ℕ) : receiver.Heard → Type 0 where
  refusal : (number : ℕ) → RefusedHearing r lent (receiver.heard (receiver.refusing r number) lent)

-- by the case view: no other case says so
hearing_honest : {rs : Settings} {f : Frame} {lent : List ℕ} {p : receiver-phase.Phase} {h : receiver.Heard}
    → view.Hears rs f lent p h
    → was_refused h.told.outcome ≡ true
    → RefusedHearing (view.receiver_in rs p) lent h
hearing_honest (view.refuses number _) e = refusal number
hearing_honest view.ignores e = absurd (false≢true e)
hearing_honest (view.announced _ _ (view.nacks _ _)) e = absurd (false≢true e)
hearing_honest (view.announced _ _ (view.opens _ _ _ _ _)) e = absurd (false≢true e)
hearing_honest (view.announced _ _ view.again) e = absurd (false≢true e)
hearing_honest (view.informed _ _ _ (view.ended _)) e = absurd (false≢true e)
hearing_honest (view.informed _ _ _ (view.above _)) e = absurd (false≢true e)
hearing_honest (view.informed _ _ _ (view.delivers _ _)) e = absurd (false≢true e)
hearing_honest (view.informed _ _ _ (view.asks _ _ _)) e = absurd (false≢true e)
hearing_honest (view.informed _ _ _ (view.goes_on _ _ _ _)) e = absurd (false≢true e)
hearing_honest (view.closes _) e = absurd (false≢true e)
hearing_honest (view.short _) e = absurd (false≢true e)
hearing_honest (view.short_only_lem _) e = absurd (false≢true e)

tick_unrefused : {rs : Settings} {p : receiver-phase.Phase} {t : receiver.Told} → view.Ticks rs p t
    → was_refused t.outcome ≡ false
tick_unrefused (view.rests _) = refl
tick_unrefused (view.waits _) = refl
tick_unrefused (view.retries _ _ _) = refl
tick_unrefused (view.repeats _ _ _) = refl
tick_unrefused view.expires = refl

pause_honest : {rs : Settings} {k : view.Pause} {p : receiver-phase.Phase} {t : receiver.Told} (lent : List ℕ)
    → view.Pauses rs k p t
    → was_refused t.outcome ≡ true
    → RefusedHearing (view.receiver_in rs p) lent (receiver.heard t lent)
pause_honest lent view.denied e = refusal 13
pause_honest lent (view.holds _ _) e = absurd (false≢true e)
pause_honest lent (view.resumes _) e = absurd (false≢true e)

-- ---- the calls, at lines of at most 64

record Fits (w : World) : Type 0 where
  forward : length w.forward ≤ 64
  back : length w.back ≤ 64

-- the whole step of a call that was refused is a refusal's
abbrev Only : World → Call → Stepped → Type 0
Only w c x = is_refusal x.event ≡ true → at_line x ≡ refused_step w c x.event

or_false : (b : Bool) → (b || false) ≡ true → b ≡ true
or_false true e = refl
or_false false e = e

-- the sender has told a, and back is left so
sender_told : (c : Call) (w : World) (given : Given) (left : List Frame) {a : sender.Told} → Honest w.sender a
    → length w.forward ≤ 64
    → length left ≤ 64
    → left_by c w ≡ with_lines w w.forward left
    → lent_by c w ≡ []
    → Only w c (by_sender c w given left a)
unfolding capped
sender_told c w given left {a} honest f b l n e = go (honest (or_false _ e))
  where
    go : {a : sender.Told} → Refused w.sender a
        → at_line (by_sender c w given left a) ≡ refused_step w c (by_sender c w given left a).event
    go (refusal number) = rw (append-nil, take_all 64 w.forward f, take_all 64 left b, l, n) refl

-- the receiver has told h, and forward is left so
receiver_told : (c : Call) (w : World) (given : Given) (left : List Frame) {h : receiver.Heard}
    → (was_refused h.told.outcome ≡ true → RefusedHearing w.receiver (lent_by c w) h)
    → length left ≤ 64
    → length w.back ≤ 64
    → left_by c w ≡ with_lines w left w.back
    → Only w c (by_receiver c w given left h)
unfolding capped
receiver_told c w given left {h} honest f b l e = go (honest e)
  where
    go : {h : receiver.Heard} → RefusedHearing w.receiver (lent_by c w) h
        → at_line (by_receiver c w given left h) ≡ refused_step w c (by_receiver c w given left h).event
    go (refusal number) = rw (append-nil, take_all 64 left f, take_all 64 w.back b, l) refl

-- what is left of a list whose first frame was given
left_short : (k : Rest) (f : Frame) (rest : List Frame) → length (f ∷ rest) ≤ 64 → length (leaving k f rest) ≤ 64
left_short gone f rest e = omega arith
left_short still f rest e = e

-- the first frame of forward is given to the receiver; the call's own rule says what is left
given_forward_lem : (k : Rest) (c : Call) (lent : List ℕ) (w : World) (fs : List Frame) → w.forward ≡ fs → lent_by c w ≡ lent
    → ((f : Frame) (rest : List Frame) → w.forward ≡ f ∷ rest → left_by c w ≡ with_lines w (leaving k f rest) w.back)
    → Fits w
    → Only w c (given_forward k c w lent fs)
unfolding given_forward
given_forward_lem k c lent w [] e n l fits r = absurd (false≢true r)
given_forward_lem k c lent w (f ∷ rest) e n l fits r =
    receiver_told c w (to_receiver f) (leaving k f rest) {h = hearing.hear_of w.receiver f lent}
    (λ t. rw n (hearing_honest (view.hear_does w.receiver f lent) t))
    (left_short k f rest (rw e at fits.forward))
    fits.back (l f rest e) r

given_back_lem : (k : Rest) (c : Call) (w : World) (fs : List Frame) → w.back ≡ fs → lent_by c w ≡ []
    → ((f : Frame) (rest : List Frame) → w.back ≡ f ∷ rest → left_by c w ≡ with_lines w w.forward (leaving k f rest))
    → Fits w
    → Only w c (given_back k c w fs)
unfolding given_back
given_back_lem k c w [] e n l fits r = absurd (false≢true r)
given_back_lem k c w (f ∷ rest) e n l fits r =
    sender_told c w (to_sender f) (leaving k f rest)
    (hear_tells (Honest w.sender) w.sender (honest_forms w.sender) f)
    fits.forward (left_short k f rest (rw e at fits.back))
    (l f rest e) n r

-- every call
call_only : (w : World) (c : Call) → Fits w → Only w c (step_of w c)
unfolding step_of
call_only w (begin m) fits =
    sender_told (begin m) w nobody w.back (begin_tells (Honest w.sender) w.sender (honest_forms w.sender) m)
    fits.forward fits.back refl refl
call_only w (sender_tick m) fits =
    sender_told (sender_tick m) w nobody w.back (tick_tells (Honest w.sender) w.sender (honest_forms w.sender) m)
    fits.forward fits.back refl refl
call_only w receiver_tick fits =
    λ e. absurd (false≢true (sym (tick_unrefused (view.tick_does w.receiver)) ∙ e))
call_only w hold fits =
    receiver_told hold w nobody w.forward (pause_honest w.buffer (view.pause_does view.hold w.receiver))
    fits.forward fits.back refl
call_only w resume fits =
    receiver_told resume w nobody w.forward (pause_honest w.buffer (view.pause_does view.resume w.receiver))
    fits.forward fits.back refl
call_only w (hear_forward b) fits = given_forward_lem gone (hear_forward b) b w w.forward refl refl (λ f rest e. rw e refl) fits
call_only w (repeat_forward b) fits =
    given_forward_lem still (repeat_forward b) b w w.forward refl refl (λ f rest e. rw (sym e) refl) fits
call_only w lose_forward fits = λ e. absurd (false≢true e)
call_only w hear_back fits = given_back_lem gone hear_back w w.back refl refl (λ f rest e. rw e refl) fits
call_only w repeat_back fits = given_back_lem still repeat_back w w.back refl refl (λ f rest e. rw (sym e) refl) fits
call_only w lose_back fits = λ e. absurd (false≢true e)

-- ---- making

-- the only number of a refusal is 1
abbrev Numbered : {A : Type 0} → Result A → Type 0
Numbered m = (number : ℕ) → m ≡ refused number → number ≡ 1

fitting_numbered : {A : Type 0} (fits : Bool) (a : A) → Numbered (pick fits (accepted a) (refused 1))
fitting_numbered fits a =
    pick_elim Numbered fits (λ _ number e. let z : ◌≡◌ {A = ℕ} 0 1 = cc in absurd (omega arith)) (λ _ number e. cc)

joined_numbered : (x : Result Sender) (y : Result Receiver) → Numbered x → Numbered y → Numbered (joined x y)
unfolding joined
joined_numbered (refused n) y s r number e = s number cc
joined_numbered (accepted a) (refused n) s r number e = r number cc
joined_numbered (accepted a) (accepted b) s r number e = let z : ◌≡◌ {A = ℕ} 0 1 = cc in absurd (omega arith)

make_numbered : (gap timeout limit patience window capacity : ℕ)
    → Numbered (make_of gap timeout limit patience window capacity)
unfolding make_of sender-making.make_of receiver-making.make_of
make_numbered gap timeout limit patience window capacity =
    joined_numbered _ _ (fitting_numbered _ _) (fitting_numbered _ _)

pub demand_1 : Demand1
unfolding world_of capped_step lent_of pick
demand_1 =
    record {
      refused =
          λ ends forward back buffer c e. call_only (world_of ends forward back buffer) c
          (record { forward = frames_limit ends.forward forward; back = frames_limit ends.back back }) e;
      misfit = λ w c. refl;
      make = make_numbered;
    }
