-- What is told of an answer leaves nothing of it open but where a ring begins in its bytes: the ends and what was said come
-- back from it. (Of what making answers, `result_injective` of frame says it.)
-- Assumes nothing.
use mathlib.Core.Bool.{Bool, true, false}
use mathlib.Core.List.{List, [], ◌∷◌}
use mathlib.Core.Path.{◌≡◌, refl, ap}
use Prim.Native.Nat.{ℕ}
use Rattle.std.specs.Prelude.{is_some}
use Rattle.frame.specs.Frames.{frame_or_blank}
use Rattle.frame.specs.declared.Frame.{Frame}
use Rattle.receiver.proofs.Told as receiver
use Rattle.receiver.specs.Told as receiver_told
use Rattle.receiver.specs.declared.Answer as receiver-answer
use Rattle.sender.proofs.Told as sender
use Rattle.sender.specs.Told as sender_told
use Rattle.sender.specs.declared.Answer as sender-answer
use Rattle.transport.specs.Answer.{world_of, Told, told}
use Rattle.transport.specs.Step.{emission}
use Rattle.transport.specs.declared.Answer.{Answer}
use Rattle.transport.specs.declared.Said.{Said}

-- ---- what was said

abbrev pub some : List Frame → Bool
some [] = false
some (f ∷ frames) = true

emission_some : (emits : Bool) (f : Frame) → some (emission emits f) ≡ emits
emission_some true f = refl
emission_some false f = refl

abbrev pub untold_said : Told → Said
untold_said t =
    record {
      frame = sender.untold_frame (some t.emitted) t.frame;
      sender = sender.untold_outcome t.sender;
      receiver = receiver.untold_outcome t.receiver t.bytes;
    }

pub said_injective : (a : Answer) (forward back buffer : List ℕ) → untold_said (told a forward back buffer) ≡ a.said
unfolding told
said_injective a forward back buffer =
    let x = a.said in
    let s : sender.untold (sender_told.told (record { next = a.next.sender; frame = x.frame; outcome = x.sender })) ≡ record { next = a.next.sender; frame = x.frame; outcome = x.sender } = sender.told_injective (record { next = a.next.sender; frame = x.frame; outcome = x.sender }) in
    let f : sender.untold_frame (is_some x.frame) (frame_or_blank x.frame) ≡ x.frame = ap (λ (y : sender-answer.Answer). y.frame) s in
    let o : sender.untold_outcome (sender_told.told_outcome x.sender) ≡ x.sender = ap (λ (y : sender-answer.Answer). y.outcome) s in
    let r : receiver.untold_outcome (receiver_told.told_outcome x.receiver) (receiver_told.told_bytes x.receiver) ≡ x.receiver = ap (λ (y : receiver-answer.Answer). y.outcome) (receiver.told_injective (record { next = a.next.receiver; frame = x.frame; outcome = x.receiver })) in
    rw (emission_some (is_some x.frame) (frame_or_blank x.frame), f, o, r) refl

-- ---- the ends; each line is told as the list that its ring holds

pub ends_told : (a : Answer) (forward back buffer : List ℕ) → (told a forward back buffer).world ≡ world_of a.next forward back buffer
unfolding told
ends_told a forward back buffer = refl
