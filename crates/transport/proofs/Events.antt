-- What a call's answer tells of its event, so that whoever calls the transport needs no more of it: the frame that was
-- emitted, what each end reported and the bytes of a short delivery.
-- Assumes nothing.
use Prim.Native.Nat.{ℕ, zero, suc}
use mathlib.Core.Path.{◌≡◌, refl, ap, ◌∙◌}
use mathlib.Core.Bool.{Bool, true, false}
use mathlib.Core.List.{List, [], ◌∷◌, ◌++◌}
use lib.ListN.{length, take}
use Rattle.frame.specs.Choice.{pick}
use Rattle.frame.specs.declared.Frame.{Frame}
use Rattle.line.specs.Ring.{frame_at, frames_from, frames_in}
use Rattle.receiver.specs.Hear as hearing
use Rattle.receiver.proofs.View as view
use Rattle.receiver.specs.Hold.{hold_of, resume_of}
use Rattle.receiver.specs.Tick as ticking
use Rattle.receiver.specs.Told as receiver
use Rattle.sender.specs.Begin.{begin_of}
use Rattle.sender.specs.Hear.{hear_of}
use Rattle.sender.specs.Tick.{tick_of}
use Rattle.sender.specs.Told as sender
use Rattle.sender.specs.declared.Sender.{Sender}
use Rattle.transport.proofs.Eight.{Eight, begin_eight, tick_eight, hear_eight, Eights, receiver_tick_eight, receiver_pause_eight, receiver_hear_eight}
use Rattle.transport.specs.Answer.{world_of, Told, answer_of, lent_of}
use Rattle.transport.specs.Capped.{capped, capped_step}
use Rattle.transport.specs.Step.{emission, Stepped, unheard, by_sender, by_receiver, Rest, gone, still, leaving, dropped, given_forward, given_back, step_of}
use Rattle.transport.specs.World.{World, Call, begin, sender_tick, receiver_tick, hold, resume, hear_forward, repeat_forward, lose_forward, hear_back, repeat_back, lose_back, Given, nobody, to_sender, to_receiver}
use Rattle.transport.specs.declared.Ends.{Ends}

-- ---- lines of frames of eight bytes

abbrev pub AllEight : List Frame → Type 0
AllEight [] = Unit
AllEight (f ∷ frames) = (length f.bytes ≡ 8) × AllEight frames

take_eight : (n : ℕ) (frames : List Frame) → AllEight frames → AllEight (take n frames)
take_eight zero frames a = tt
take_eight (suc n) [] a = tt
take_eight (suc n) (f ∷ frames) a = (a.0, take_eight n frames a.1)

join_eight : (frames : List Frame) (f : Frame) (b : Bool) → AllEight frames → length f.bytes ≡ 8 → AllEight (frames ++ emission b f)
join_eight [] f true a e = (e, tt)
join_eight [] f false a e = tt
join_eight (g ∷ frames) f b a e = (a.0, join_eight frames f b a.1 e)

dropped_eight : (frames : List Frame) → AllEight frames → AllEight (dropped frames)
dropped_eight [] a = tt
dropped_eight (f ∷ frames) a = a.1

pub record Whole (w : World) : Type 0 where
  pub forward : AllEight w.forward
  pub back : AllEight w.back

-- the frames of a ring have eight bytes
frames_eight : (bytes : List ℕ) (n p : ℕ) → AllEight (frames_from bytes p n)
unfolding frames_from frame_at
frames_eight bytes zero p = tt
frames_eight bytes (suc n) p = (refl, frames_eight bytes n (suc p))

pub whole_world : (ends : Ends) (forward back buffer : List ℕ) → Whole (world_of ends forward back buffer)
unfolding frames_in world_of
whole_world ends forward back buffer = record { forward = frames_eight forward _ _; back = frames_eight back _ _ }

-- ---- one call

-- at most one frame, of eight bytes
pub data One : List Frame → Type 0 where
  none : One []
  one : (f : Frame) → length f.bytes ≡ 8 → One (f ∷ [])

emission_one : (b : Bool) (f : Frame) → length f.bytes ≡ 8 → One (emission b f)
emission_one true f e = one f e
emission_one false f e = none

-- the lines stay so; a call emits at most one frame and reports eight bytes
pub record Eighted (s : Stepped) : Type 0 where
  pub emitted : One s.event.emitted
  pub bytes : length s.event.bytes ≡ 8
  pub whole : Whole (capped s.world)

of_sender_lem : (c : Call) (w : World) (given : Given) (rest : List Frame) (t : sender.Told) → Whole w → AllEight rest → Eight t
    → Eighted (by_sender c w given rest t)
unfolding capped
of_sender_lem c w given rest t a r e =
    record {
      emitted = emission_one t.emits t.frame e;
      bytes = refl;
      whole =
          record {
            forward = take_eight 64 (w.forward ++ emission t.emits t.frame) (join_eight w.forward t.frame t.emits a.forward e);
            back = take_eight 64 rest r;
          };
    }

of_receiver_lem : (c : Call) (w : World) (given : Given) (rest : List Frame) (h : receiver.Heard) → Whole w → AllEight rest
    → Eights h.told
    → Eighted (by_receiver c w given rest h)
unfolding capped
of_receiver_lem c w given rest h a r e =
    record {
      emitted = emission_one h.told.emits h.told.frame e.frame;
      bytes = e.bytes;
      whole =
          record {
            forward = take_eight 64 rest r;
            back = take_eight 64 (w.back ++ emission h.told.emits h.told.frame) (join_eight w.back h.told.frame h.told.emits a.back e.frame);
          };
    }

of_nobody : (c : Call) (w : World) → Whole w → Eighted (unheard c w)
unfolding capped
of_nobody c w a =
    record {
      emitted = none;
      bytes = refl;
      whole = record { forward = take_eight 64 w.forward a.forward; back = take_eight 64 w.back a.back };
    }

leaving_eight : (k : Rest) (f : Frame) (rest : List Frame) → length f.bytes ≡ 8 → AllEight rest → AllEight (leaving k f rest)
leaving_eight gone f rest e a = a
leaving_eight still f rest e a = (e, a)

of_forward : (k : Rest) (c : Call) (w : World) (buffer : List ℕ) (frames : List Frame) → Whole w → AllEight frames
    → Eighted (given_forward k c w buffer frames)
unfolding given_forward
of_forward k c w buffer [] a r = of_nobody c w a
of_forward k c w buffer (f ∷ rest) a r =
    of_receiver_lem c w (to_receiver f) (leaving k f rest) (hearing.hear_of w.receiver f buffer) a (leaving_eight k f rest r.0 r.1) (receiver_hear_eight w.receiver f buffer r.0)

of_back : (k : Rest) (c : Call) (w : World) (frames : List Frame) → Whole w → AllEight frames → Eighted (given_back k c w frames)
unfolding given_back
of_back k c w [] a r = of_nobody c w a
of_back k c w (f ∷ rest) a r =
    of_sender_lem c w (to_sender f) (leaving k f rest) (hear_of w.sender f) a (leaving_eight k f rest r.0 r.1) (hear_eight w.sender f)

of_call : (w : World) (c : Call) → Whole w → Eighted (step_of w c)
unfolding step_of
of_call w (begin m) a = of_sender_lem (begin m) w nobody w.back (begin_of w.sender m) a a.back (begin_eight w.sender m)
of_call w (sender_tick m) a = of_sender_lem (sender_tick m) w nobody w.back (tick_of w.sender m) a a.back (tick_eight w.sender m)
of_call w receiver_tick a =
    of_receiver_lem receiver_tick w nobody w.forward (receiver.heard (ticking.tick_of w.receiver) w.buffer) a a.forward (receiver_tick_eight w.receiver)
of_call w hold a =
    of_receiver_lem hold w nobody w.forward (receiver.heard (hold_of w.receiver) w.buffer) a a.forward (receiver_pause_eight view.hold w.receiver)
of_call w resume a =
    of_receiver_lem resume w nobody w.forward (receiver.heard (resume_of w.receiver) w.buffer) a a.forward (receiver_pause_eight view.resume w.receiver)
of_call w (hear_forward b) a = of_forward gone (hear_forward b) w b w.forward a a.forward
of_call w (repeat_forward b) a = of_forward still (repeat_forward b) w b w.forward a a.forward
of_call w lose_forward a = of_nobody lose_forward _ (record { forward = dropped_eight w.forward a.forward; back = a.back })
of_call w hear_back a = of_back gone hear_back w w.back a a.back
of_call w repeat_back a = of_back still repeat_back w w.back a a.back
of_call w lose_back a = of_nobody lose_back _ (record { forward = a.forward; back = dropped_eight w.back a.back })

pub call_one : (w : World) (c : Call) → Whole w → One (capped_step w c).event.emitted
unfolding capped_step
call_one w c a = (of_call w c a).emitted

pub call_bytes : (w : World) (c : Call) → Whole w → length (capped_step w c).event.bytes ≡ 8
unfolding capped_step
call_bytes w c a = (of_call w c a).bytes

pub call_whole : (w : World) (c : Call) → Whole w → Whole (capped_step w c).world
unfolding capped_step
call_whole w c a = (of_call w c a).whole

-- what a begin reports depends on the sender and the message alone
pub begin_reports : (w v : World) (m : List ℕ) → w.sender ≡ v.sender → (step_of w (begin m)).event.sender ≡ (step_of v (begin m)).event.sender
unfolding step_of
begin_reports w v m e = ap (λ (s : Sender). (begin_of s m).outcome) e

-- what is lent a line in its length is answered
pub lent_answer : {fits : Bool} (w : World) (c : Call) {x : Told} → fits ≡ true → x ≡ lent_of fits w c → x ≡ answer_of w c
unfolding lent_of pick
lent_answer w c t e = e ∙ rw t refl

-- an event is of the call that was made
forward_call : (k : Rest) (c : Call) (w : World) (buffer : List ℕ) (fs : List Frame) → (given_forward k c w buffer fs).event.call ≡ c
unfolding given_forward
forward_call k c w buffer [] = refl
forward_call k c w buffer (f ∷ fs) = refl

back_call : (k : Rest) (c : Call) (w : World) (fs : List Frame) → (given_back k c w fs).event.call ≡ c
unfolding given_back
back_call k c w [] = refl
back_call k c w (f ∷ fs) = refl

pub call_of_lem : (w : World) (c : Call) → (step_of w c).event.call ≡ c
unfolding step_of
call_of_lem w (begin m) = refl
call_of_lem w (sender_tick m) = refl
call_of_lem w receiver_tick = refl
call_of_lem w hold = refl
call_of_lem w resume = refl
call_of_lem w (hear_forward b) = forward_call gone (hear_forward b) w b w.forward
call_of_lem w (repeat_forward b) = forward_call still (repeat_forward b) w b w.forward
call_of_lem w lose_forward = refl
call_of_lem w hear_back = back_call gone hear_back w w.back
call_of_lem w repeat_back = back_call still repeat_back w w.back
call_of_lem w lose_back = refl
