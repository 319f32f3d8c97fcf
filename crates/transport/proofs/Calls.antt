-- A law for each path through the code of the calls: what the ends and the rings promise gives the answer that the definition
-- has. A line that no frame joins is at most 64 long as it is.
-- Assumes nothing.
use Prim.Native.Nat.{ℕ, ◌≤◌}
use mathlib.Core.Path.{◌≡◌, refl, sym, ap, ◌∙◌}
use mathlib.Core.Bool.{Bool, true, false, ◌&&◌}
use mathlib.Core.List.{List, [], ◌∷◌, ◌++◌, append-nil}
use native.Mathlib.Omega.{arith}
use borrow.Author.Tests.{eqb-true, eqb-false, eq-eqb, ne_eqb}
use lib.Dec.{eqb}
use lib.ListN.{length, take}
use lib.Seq.{take_all, take-take}
use Rattle.std.specs.Array.{IsWholeChunk}
use Rattle.std.specs.Prelude.{Some, None, is_some}
use Rattle.std.specs.declared.option.Option.{Option}
use Rattle.frame.proofs.Choice.{pick_true, pick_false}
use Rattle.frame.specs.Choice.{pick}
use Rattle.frame.specs.Frames.{frame_or_blank}
use Rattle.frame.specs.declared.Frame.{Frame}
use Rattle.line.proofs.Frames.{frames_joined, frames_limit, frames_some, frames_none, rest_frames}
use Rattle.line.proofs.Laws.{rest_empty}
use Rattle.line.specs.Ring.{frames_in, head_of, rest_of, Kept, kept, join_of}
use Rattle.line.specs.declared.Ring.{Ring}
use Rattle.receiver.specs.Hear as hearing
use Rattle.receiver.specs.Hold.{hold_of, resume_of}
use Rattle.receiver.specs.Tick as ticking
use Rattle.receiver.specs.Told as receiver
use Rattle.receiver.specs.declared.Answer as receiver-answer
use Rattle.receiver.specs.declared.Outcome as receiver-outcome
use Rattle.receiver.specs.declared.Outcome.TheVariants as receiver-variants
use Rattle.receiver.specs.declared.Receiver.{Receiver}
use Rattle.sender.specs.Begin.{begin_of}
use Rattle.sender.specs.Hear.{hear_of}
use Rattle.sender.specs.Tick.{tick_of}
use Rattle.sender.specs.Told as sender
use Rattle.sender.specs.declared.Answer as sender-answer
use Rattle.sender.specs.declared.Outcome.TheVariants as sender-variants
use Rattle.sender.specs.declared.Sender.{Sender}
use Rattle.transport.proofs.Refusals.{buffer_left}
use Rattle.transport.proofs.Told.{ends_told}
use Rattle.transport.specs.Answer.{world_of, Told, told, told_step, quietly, answer_of, lent_of}
use Rattle.transport.specs.Capped.{capped, at_line, capped_step}
use Rattle.transport.specs.Step.{emission, Stepped, unheard, by_sender, was_refused, buffer_after, by_receiver, Rest, gone, still, dropped, given_forward, given_back, step_of}
use Rattle.transport.specs.World.{World, Call, begin, sender_tick, receiver_tick, hold, resume, hear_forward, repeat_forward, lose_forward, hear_back, repeat_back, lose_back, Given, nobody, to_sender, to_receiver}
use Rattle.transport.specs.declared.Answer.{Answer}
use Rattle.transport.specs.declared.Ends.{Ends}

-- ---- a line after a call

all_frames : (ring : Ring) (bytes : List ℕ) → take 64 (frames_in ring bytes) ≡ frames_in ring bytes
all_frames ring bytes = take_all 64 (frames_in ring bytes) (frames_limit ring bytes)

pub line_joined : (ring r : Ring) (f : Frame) (o : Option Frame) (bytes after : List ℕ)
    → kept r after ≡ join_of ring f bytes
    → length bytes ≡ 576
    → length f.bytes ≡ 8
    → o ≡ Some f
    → frames_in r after ≡ take 64 (frames_in ring bytes ++ emission (is_some o) (frame_or_blank o))
line_joined ring r f o bytes after e size eight t =
    rw t
    (ap (λ (k : Kept). frames_in k.ring k.bytes) e
    ∙ frames_joined ring f bytes size eight)

pub line_alone : (ring : Ring) (o : Option Frame) (bytes : List ℕ) → o ≡ None
    → frames_in ring bytes ≡ take 64 (frames_in ring bytes ++ emission (is_some o) (frame_or_blank o))
line_alone ring o bytes t = rw (t, append-nil) (sym (all_frames ring bytes))

-- ---- an end's answer

-- what the sender's answer is told as, whatever the call, the frame given, back and the buffer
abbrev SenderSpoke : Ends → List ℕ → sender.Told → Answer → List ℕ → Type 0
SenderSpoke ends bytes t a after =
    (c : Call) (given : Given) (back buffer : List ℕ)
    → told a after back buffer
    ≡ told_step (at_line (by_sender c (world_of ends bytes back buffer) given (frames_in ends.back back) t))

abbrev ReceiverSpoke : Ends → List ℕ → receiver.Told → Answer → List ℕ → Type 0
ReceiverSpoke ends bytes t a after =
    (c : Call) (given : Given) (forward buffer : List ℕ)
    → told a forward after buffer
    ≡ told_step (at_line (by_receiver c (world_of ends forward bytes buffer) given (frames_in ends.forward forward) (receiver.heard t buffer)))

pub sender_spoke : (ends : Ends) (r : Ring) (a : sender-answer.Answer) (bytes after : List ℕ)
    → frames_in r after ≡ take 64 (frames_in ends.forward bytes ++ emission (is_some a.frame) (frame_or_blank a.frame))
    → SenderSpoke ends bytes (sender.told a)
    (record {
      next = record { sender = a.next; receiver = ends.receiver; forward = r; back = ends.back };
      said = record { frame = a.frame; sender = a.outcome; receiver = receiver-variants.Quiet };
    })
    after
unfolding told world_of capped
sender_spoke ends r a bytes after e c given back buffer = rw (e, all_frames ends.back back) refl

-- a refused call leaves the buffer, and so does any call whose lent buffer it is
same_buffer : (refused : Bool) (buffer : List ℕ) → buffer_after refused buffer buffer ≡ buffer
same_buffer true buffer = refl
same_buffer false buffer = refl

-- (what it reports is all that is told of its outcome)
pub receiver_spoke : (ends : Ends) (r : Ring) (a : receiver-answer.Answer) (o : receiver-outcome.Outcome) (bytes after : List ℕ)
    → frames_in r after ≡ take 64 (frames_in ends.back bytes ++ emission (is_some a.frame) (frame_or_blank a.frame))
    → receiver.told_outcome o ≡ receiver.told_outcome a.outcome
    → receiver.told_bytes o ≡ receiver.told_bytes a.outcome
    → ReceiverSpoke ends bytes (receiver.told a)
    (record {
      next = record { sender = ends.sender; receiver = a.next; forward = ends.forward; back = r };
      said = record { frame = a.frame; sender = sender-variants.Quiet; receiver = o };
    })
    after
unfolding told world_of capped
receiver_spoke ends r a o bytes after e same eight c given forward buffer =
    rw (e, same, eight, all_frames ends.forward forward, same_buffer (was_refused (receiver.told_outcome a.outcome)) buffer) refl

pub ruleset answers = (line_joined, line_alone, sender_spoke, receiver_spoke)

-- ---- the lent lengths

lent_one : (n : ℕ) (w : World) (c : Call) {x : Told} → n ≡ 576 → x ≡ answer_of w c → x ≡ lent_of (eqb n 576) w c
unfolding lent_of
lent_one n w c size e = pick_true _ (eq-eqb _ 576 size) e

lent_both : (f b : ℕ) (w : World) (c : Call) {x : Told} → f ≡ 576 → b ≡ 576 → x ≡ answer_of w c → x ≡ lent_of (eqb f 576 && eqb b 576) w c
unfolding lent_of
lent_both f b w c n m e = pick_true _ (rw (eq-eqb _ 576 n, eq-eqb _ 576 m) refl) e

both_no : (a : Bool) {b : Bool} → b ≡ false → (a && b) ≡ false
both_no true e = e
both_no false e = refl

-- lent a line of another length, the ends are left alone
module _ (ends : Ends) (a : Answer) (c : Call) (h : (forward back buffer : List ℕ) → told a forward back buffer ≡ quietly (world_of ends forward back buffer)) where
  pub no_forward : (bytes : List ℕ) → (length bytes ≡ 576 → ⊥) → (back buffer : List ℕ)
      → told a bytes back buffer ≡ lent_of (eqb (length bytes) 576) (world_of ends bytes back buffer) c
  unfolding lent_of
  no_forward bytes other back buffer = pick_false _ (ne_eqb _ 576 other) (h bytes back buffer)

  pub no_back : (bytes : List ℕ) → (length bytes ≡ 576 → ⊥) → (forward buffer : List ℕ)
      → told a forward bytes buffer ≡ lent_of (eqb (length bytes) 576) (world_of ends forward bytes buffer) c
  unfolding lent_of
  no_back bytes other forward buffer = pick_false _ (ne_eqb _ 576 other) (h forward bytes buffer)

  pub neither_forward : (forward back : List ℕ) → (length forward ≡ 576 → ⊥) → (buffer : List ℕ)
      → told a forward back buffer ≡ lent_of (eqb (length forward) 576 && eqb (length back) 576) (world_of ends forward back buffer) c
  unfolding lent_of
  neither_forward forward back other buffer = pick_false _ (rw (ne_eqb _ 576 other) refl) (h forward back buffer)

  pub neither_back : (forward back : List ℕ) → (length back ≡ 576 → ⊥) → (buffer : List ℕ)
      → told a forward back buffer ≡ lent_of (eqb (length forward) 576 && eqb (length back) 576) (world_of ends forward back buffer) c
  unfolding lent_of
  neither_back forward back other buffer = pick_false _ (both_no (eqb (length forward) 576) (ne_eqb _ 576 other)) (h forward back buffer)

-- ---- begin and ticks: the line that an end's frame joins is the lent one

pub begins : (ends : Ends) (a : Answer) (bytes line after m : List ℕ) (t : sender.Told)
    → IsWholeChunk bytes line 576
    → t ≡ begin_of ends.sender m
    → SenderSpoke ends line t a after
    → (back buffer : List ℕ)
    → told a after back buffer ≡ lent_of (eqb (length bytes) 576) (world_of ends bytes back buffer) (begin m)
unfolding answer_of capped_step step_of world_of
begins ends a bytes line after m t whole e h back buffer =
    lent_one (length bytes) (world_of ends bytes back buffer) (begin m) whole.long (h (begin m) nobody back buffer ∙ rw (e, whole.same) refl)

pub ticks_sender_lem : (ends : Ends) (a : Answer) (bytes line after m : List ℕ) (t : sender.Told)
    → IsWholeChunk bytes line 576
    → t ≡ tick_of ends.sender m
    → SenderSpoke ends line t a after
    → (back buffer : List ℕ)
    → told a after back buffer ≡ lent_of (eqb (length bytes) 576) (world_of ends bytes back buffer) (sender_tick m)
unfolding answer_of capped_step step_of world_of
ticks_sender_lem ends a bytes line after m t whole e h back buffer =
    lent_one (length bytes) (world_of ends bytes back buffer) (sender_tick m) whole.long (h (sender_tick m) nobody back buffer ∙ rw (e, whole.same) refl)

module _ (ends : Ends) (a : Answer) (bytes line after : List ℕ) (t : receiver.Told) where
  -- the receiver has told t, lent the line back
  abbrev Calls : Call → Type 0
  Calls c =
      IsWholeChunk bytes line 576 → ReceiverSpoke ends line t a after → (forward buffer : List ℕ)
      → told a forward after buffer ≡ lent_of (eqb (length bytes) 576) (world_of ends forward bytes buffer) c

  pub ticks_receiver_lem : t ≡ ticking.tick_of ends.receiver → Calls receiver_tick
  unfolding answer_of capped_step step_of world_of
  ticks_receiver_lem e whole h forward buffer =
      lent_one (length bytes) (world_of ends forward bytes buffer) receiver_tick whole.long (h receiver_tick nobody forward buffer ∙ rw (e, whole.same) refl)

  pub holds_receiver_lem : t ≡ hold_of ends.receiver → Calls hold
  unfolding answer_of capped_step step_of world_of
  holds_receiver_lem e whole h forward buffer =
      lent_one (length bytes) (world_of ends forward bytes buffer) hold whole.long (h hold nobody forward buffer ∙ rw (e, whole.same) refl)

  pub resumes_receiver : t ≡ resume_of ends.receiver → Calls resume
  unfolding answer_of capped_step step_of world_of
  resumes_receiver e whole h forward buffer =
      lent_one (length bytes) (world_of ends forward bytes buffer) resume whole.long (h resume nobody forward buffer ∙ rw (e, whole.same) refl)

-- ---- a frame given to an end

-- by the list, so that what is seen of an empty one and of a first frame stands in one place
nothing_happens : (c : Call) (w : World) → take 64 w.forward ≡ w.forward → take 64 w.back ≡ w.back
    → quietly w ≡ told_step (at_line (unheard c w))
unfolding capped quietly
nothing_happens c w forward back = rw (forward, back) refl

back_none : (k : Rest) (w : World) (c : Call) (fs : List Frame) → fs ≡ [] → take 64 w.forward ≡ w.forward → take 64 w.back ≡ w.back
    → quietly w ≡ told_step (at_line (given_back k c w fs))
unfolding given_back
back_none k w c fs e f b = rw e (nothing_happens c w f b)

forward_none : (k : Rest) (w : World) (c : Call) (buffer : List ℕ) (fs : List Frame) → fs ≡ [] → take 64 w.forward ≡ w.forward → take 64 w.back ≡ w.back
    → quietly w ≡ told_step (at_line (given_forward k c w buffer fs))
unfolding given_forward
forward_none k w c buffer fs e f b = rw e (nothing_happens c w f b)

-- on an empty list nothing happens, heard or repeated
module _ (ends : Ends) (a : Answer) (takes : Bool) (forward back : List ℕ) (empty : Bool)
    (h : (forward back buffer : List ℕ) → told a forward back buffer ≡ quietly (world_of ends forward back buffer))
    (lf : length forward ≡ 576) (lb : length back ≡ 576)
  where
    pub back_empty : empty ≡ eqb ends.back.count 0 → empty ≡ true → (buffer : List ℕ)
        → told a forward back buffer
        ≡ lent_of (eqb (length forward) 576 && eqb (length back) 576) (world_of ends forward back buffer) (pick takes hear_back repeat_back)
    unfolding answer_of capped_step step_of pick world_of
    back_empty e t buffer = lent_both (length forward) (length back) w _ lf lb (h forward back buffer ∙ go takes)
      where
        w : World
        w = world_of ends forward back buffer

        none : frames_in ends.back back ≡ []
        none = frames_none ends.back back (eqb-true _ 0 (sym e ∙ t))

        go : (takes : Bool) → quietly w ≡ answer_of w (pick takes hear_back repeat_back)
        go true = back_none gone w hear_back (frames_in ends.back back) none (all_frames ends.forward forward) (all_frames ends.back back)
        go false = back_none still w repeat_back (frames_in ends.back back) none (all_frames ends.forward forward) (all_frames ends.back back)

    pub forward_empty : empty ≡ eqb ends.forward.count 0 → empty ≡ true → (buffer : List ℕ)
        → told a forward back buffer
        ≡ lent_of (eqb (length forward) 576 && eqb (length back) 576) (world_of ends forward back buffer) (pick takes (hear_forward buffer) (repeat_forward buffer))
    unfolding answer_of capped_step step_of pick world_of
    forward_empty e t buffer = lent_both (length forward) (length back) w _ lf lb (h forward back buffer ∙ go takes)
      where
        w : World
        w = world_of ends forward back buffer

        none : frames_in ends.forward forward ≡ []
        none = frames_none ends.forward forward (eqb-true _ 0 (sym e ∙ t))

        go : (takes : Bool) → quietly w ≡ answer_of w (pick takes (hear_forward buffer) (repeat_forward buffer))
        go true = forward_none gone w (hear_forward buffer) buffer (frames_in ends.forward forward) none (all_frames ends.forward forward) (all_frames ends.back back)
        go false = forward_none still w (repeat_forward buffer) buffer (frames_in ends.forward forward) none (all_frames ends.forward forward) (all_frames ends.back back)

back_some : (w : World) (c : Call) (f : Frame) (rest fs : List Frame) → fs ≡ f ∷ rest
    → by_sender c w (to_sender f) fs (hear_of w.sender f) ≡ given_back still c w fs
unfolding given_back
back_some w c f rest fs e = rw e refl

forward_some : (w : World) (c : Call) (buffer : List ℕ) (f : Frame) (rest fs : List Frame) → fs ≡ f ∷ rest
    → by_receiver c w (to_receiver f) fs (hearing.hear_of w.receiver f buffer) ≡ given_forward still c w buffer fs
unfolding given_forward
forward_some w c buffer f rest fs e = rw e refl

pub give_back_some : (ends : Ends) (a : Answer) (forward after back : List ℕ) (f : Frame) (t : sender.Told)
    → eqb ends.back.count 0 ≡ false
    → length back ≡ 576
    → f ≡ head_of ends.back back
    → t ≡ hear_of ends.sender f
    → SenderSpoke ends forward t a after
    → (buffer : List ℕ)
    → told a after back buffer ≡ answer_of (world_of ends forward back buffer) repeat_back
unfolding answer_of capped_step step_of world_of
give_back_some ends a forward after back f t there size head e h buffer =
    let w = world_of ends forward back buffer in
    let fs = frames_in ends.back back in
    let some : fs ≡ f ∷ frames_in (rest_of ends.back) back = rw head (frames_some ends.back back size (eqb-false _ 0 there)) in
    h repeat_back (to_sender f) back buffer
    ∙ ap (λ (u : sender.Told). told_step (at_line (by_sender repeat_back w (to_sender f) fs u))) e
    ∙ ap (λ (s : Stepped). told_step (at_line s)) (back_some w repeat_back f (frames_in (rest_of ends.back) back) fs some)

-- a refused hearing leaves the buffer as it was
buffer_after_lem : (w v : World) (c : Call) (f : Frame) (fs : List Frame) (h : receiver.Heard)
    → v ≡ record { sender = w.sender; receiver = w.receiver; forward = w.forward; back = w.back; buffer = h.buffer }
    → buffer_after (was_refused h.told.outcome) w.buffer h.buffer ≡ h.buffer
    → told_step (at_line (by_receiver c v (to_receiver f) fs h)) ≡ told_step (at_line (by_receiver c w (to_receiver f) fs h))
unfolding capped
buffer_after_lem w v c f fs h same left = rw (same, left, same_buffer (was_refused h.told.outcome) h.buffer) refl

pub give_forward_some : (ends : Ends) (a : Answer) (forward back after buffer left : List ℕ) (f : Frame) (t : receiver.Told)
    → eqb ends.forward.count 0 ≡ false
    → length forward ≡ 576
    → f ≡ head_of ends.forward forward
    → receiver.heard t left ≡ hearing.hear_of ends.receiver f buffer
    → ReceiverSpoke ends back t a after
    → told a forward after left ≡ answer_of (world_of ends forward back buffer) (repeat_forward buffer)
unfolding answer_of capped_step step_of world_of
give_forward_some ends a forward back after buffer left f t there size head e h =
    let c = repeat_forward buffer in
    let w = world_of ends forward back buffer in
    let fs = frames_in ends.forward forward in
    let some : fs ≡ f ∷ frames_in (rest_of ends.forward) forward = rw head (frames_some ends.forward forward size (eqb-false _ 0 there)) in
    h c (to_receiver f) forward left
    ∙ ap (λ (u : receiver.Heard). told_step (at_line (by_receiver c (world_of ends forward back u.buffer) (to_receiver f) fs u))) e
    ∙ buffer_after_lem w _ c f fs (hearing.hear_of ends.receiver f buffer) refl (buffer_left ends.receiver f buffer)
    ∙ ap (λ (s : Stepped). told_step (at_line s)) (forward_some w c buffer f (frames_in (rest_of ends.forward) forward) fs some)

-- ---- a loss

lost : (ring : Ring) (bytes : List ℕ) → frames_in (rest_of ring) bytes ≡ take 64 (dropped (frames_in ring bytes))
lost ring bytes = go (eqb ring.count 0) refl
  where
    go : (b : Bool) → eqb ring.count 0 ≡ b → frames_in (rest_of ring) bytes ≡ take 64 (dropped (frames_in ring bytes))
    go true t =
        let none = eqb-true ring.count 0 t in
        rw (← rest_empty ring t) (rw (frames_none ring bytes none) refl)
    go false t =
        rw (rest_frames ring bytes (eqb-false ring.count 0 t)) (sym (all_frames (rest_of ring) bytes))

-- the ends without the first frame of a line
abbrev LostFrom : Ends → Ends → Call → Type 0
LostFrom ends last c =
    (forward back buffer : List ℕ)
    → world_of last forward back buffer ≡ (capped_step (world_of ends forward back buffer) c).world

pub loses_forward : (ends : Ends) (r : Ring) → r ≡ rest_of ends.forward
    → LostFrom ends (record { sender = ends.sender; receiver = ends.receiver; forward = r; back = ends.back }) lose_forward
unfolding capped_step step_of capped world_of
loses_forward ends r e forward back buffer = rw (e, lost ends.forward forward, all_frames ends.back back) refl

pub loses_back : (ends : Ends) (r : Ring) → r ≡ rest_of ends.back
    → LostFrom ends (record { sender = ends.sender; receiver = ends.receiver; forward = ends.forward; back = r }) lose_back
unfolding capped_step step_of capped world_of
loses_back ends r e forward back buffer = rw (e, lost ends.back back, all_frames ends.forward forward) refl

pub ruleset losses = (loses_forward, loses_back)

-- what is told of it: nothing but the world changes
module _ (ends last : Ends) (a : Answer) (h : (forward back buffer : List ℕ) → told a forward back buffer ≡ quietly (world_of last forward back buffer)) where
  pub lose_forward_answer : LostFrom ends last lose_forward → (forward back buffer : List ℕ)
      → told a forward back buffer ≡ answer_of (world_of ends forward back buffer) lose_forward
  unfolding answer_of capped_step step_of quietly
  lose_forward_answer l forward back buffer = h forward back buffer ∙ ap quietly (l forward back buffer)

  pub lose_back_answer : LostFrom ends last lose_back → (forward back buffer : List ℕ)
      → told a forward back buffer ≡ answer_of (world_of ends forward back buffer) lose_back
  unfolding answer_of capped_step step_of quietly
  lose_back_answer l forward back buffer = h forward back buffer ∙ ap quietly (l forward back buffer)

-- ---- a frame heard and taken away

-- the same answer, in another world
abbrev in_world : World → Told → Told
in_world w t =
    record { world = w; emitted = t.emitted; frame = t.frame; sender = t.sender; receiver = t.receiver; bytes = t.bytes }

with_ends : (a : Answer) (last : Ends) (f b lent : List ℕ)
    → told (record { next = last; said = a.said }) f b lent ≡ in_world (world_of last f b lent) (told a f b lent)
unfolding told
with_ends a last f b lent = refl

twice : (fs : List Frame) → take 64 (take 64 fs) ≡ take 64 fs
twice fs = take-take 64 64 fs (omega arith)

-- hearing is repeating and then losing
hear_forward_step : (s : Sender) (r : Receiver) (fs back : List Frame) (buffer : List ℕ) → length fs ≤ 64
    → (let w : World = record { sender = s; receiver = r; forward = fs; back = back; buffer = buffer } in
    in_world (capped_step (answer_of w (repeat_forward buffer)).world lose_forward).world (answer_of w (repeat_forward buffer))
    ≡ answer_of w (hear_forward buffer))
unfolding answer_of capped_step step_of capped given_forward
hear_forward_step s r [] back buffer few = rw (twice back) refl
hear_forward_step s r (f ∷ fs) back buffer few =
    let h = hearing.hear_of r f buffer in
    let all : take 63 fs ≡ fs = take_all 63 fs (omega arith) in
    rw (all, twice (back ++ emission h.told.emits h.told.frame)) refl

hear_back_step : (s : Sender) (r : Receiver) (forward fs : List Frame) (buffer : List ℕ) → length fs ≤ 64
    → (let w : World = record { sender = s; receiver = r; forward = forward; back = fs; buffer = buffer } in
    in_world (capped_step (answer_of w repeat_back).world lose_back).world (answer_of w repeat_back) ≡ answer_of w hear_back)
unfolding answer_of capped_step step_of capped given_back
hear_back_step s r forward [] buffer few = rw (twice forward) refl
hear_back_step s r forward (f ∷ fs) buffer few =
    let h = hear_of s f in
    let all : take 63 fs ≡ fs = take_all 63 fs (omega arith) in
    rw (all, twice (forward ++ emission h.emits h.frame)) refl

module _ (ends : Ends) (given : Answer) (takes : Bool) (forward back : List ℕ) (lf : length forward ≡ 576) (lb : length back ≡ 576) where
  pub hears_forward : (last : Ends) (left buffer now : List ℕ)
      → takes ≡ true
      → told given forward left now ≡ answer_of (world_of ends forward back buffer) (repeat_forward buffer)
      → LostFrom given.next last lose_forward
      → told (record { next = last; said = given.said }) forward left now
      ≡ lent_of (eqb (length forward) 576 && eqb (length back) 576) (world_of ends forward back buffer) (pick takes (hear_forward buffer) (repeat_forward buffer))
  unfolding world_of pick
  hears_forward last left buffer now t e l =
      let same : world_of last forward left now ≡ (capped_step (told given forward left now).world lose_forward).world = l forward left now ∙ ap (λ (w : World). (capped_step w lose_forward).world) (sym (ends_told given forward left now)) in
      rw t
      (lent_both (length forward) (length back) _ _ lf lb
      (with_ends given last forward left now
      ∙ ap (λ (w : World). in_world w (told given forward left now)) same
      ∙ ap (λ (u : Told). in_world (capped_step u.world lose_forward).world u) e
      ∙ hear_forward_step ends.sender ends.receiver (frames_in ends.forward forward) (frames_in ends.back back) buffer (frames_limit ends.forward forward)))

  pub repeats_forward : (left buffer now : List ℕ)
      → takes ≡ false
      → told given forward left now ≡ answer_of (world_of ends forward back buffer) (repeat_forward buffer)
      → told given forward left now
      ≡ lent_of (eqb (length forward) 576 && eqb (length back) 576) (world_of ends forward back buffer) (pick takes (hear_forward buffer) (repeat_forward buffer))
  unfolding pick
  repeats_forward left buffer now t e = rw t (lent_both (length forward) (length back) _ _ lf lb e)

  pub hears_back : (last : Ends) (left : List ℕ)
      → takes ≡ true
      → ((buffer : List ℕ) → told given left back buffer ≡ answer_of (world_of ends forward back buffer) repeat_back)
      → LostFrom given.next last lose_back
      → (buffer : List ℕ)
      → told (record { next = last; said = given.said }) left back buffer
      ≡ lent_of (eqb (length forward) 576 && eqb (length back) 576) (world_of ends forward back buffer) (pick takes hear_back repeat_back)
  unfolding world_of pick
  hears_back last left t e l buffer =
      let same : world_of last left back buffer ≡ (capped_step (told given left back buffer).world lose_back).world = l left back buffer ∙ ap (λ (w : World). (capped_step w lose_back).world) (sym (ends_told given left back buffer)) in
      rw t
      (lent_both (length forward) (length back) _ _ lf lb
      (with_ends given last left back buffer
      ∙ ap (λ (w : World). in_world w (told given left back buffer)) same
      ∙ ap (λ (u : Told). in_world (capped_step u.world lose_back).world u) (e buffer)
      ∙ hear_back_step ends.sender ends.receiver (frames_in ends.forward forward) (frames_in ends.back back) buffer (frames_limit ends.back back)))

  pub repeats_back : (left : List ℕ)
      → takes ≡ false
      → ((buffer : List ℕ) → told given left back buffer ≡ answer_of (world_of ends forward back buffer) repeat_back)
      → (buffer : List ℕ)
      → told given left back buffer
      ≡ lent_of (eqb (length forward) 576 && eqb (length back) 576) (world_of ends forward back buffer) (pick takes hear_back repeat_back)
  unfolding pick
  repeats_back left t e buffer = rw t (lent_both (length forward) (length back) _ _ lf lb (e buffer))
