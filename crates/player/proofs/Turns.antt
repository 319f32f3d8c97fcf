-- A law for each path through the code of one event: what the transport and the printing promise gives the step, printed.
-- Assumes nothing.
use Prim.Native.Nat.{ℕ}
use mathlib.Core.Path.{◌≡◌, refl, sym, ap, ◌∙◌}
use mathlib.Core.Bool.{Bool, true, false, ◌&&◌, ◌||◌}
use mathlib.Core.List.{List, [], ◌++◌, append-nil}
use mathlib.Core.Logic.{◌⊎◌, inl, inr}
use borrow.Author.Tests.{eq-eqb, ne_eqb}
use lib.Dec.{eqb}
use lib.ListN.{length}
use Rattle.frame.proofs.Choice.{pick_false, pick_elim, neither_left, neither_right}
use Rattle.frame.specs.Choice.{pick}
use Rattle.std.specs.Prelude.{is_some}
use Rattle.frame.specs.Frames.{frame_or_blank}
use Rattle.frame.specs.declared.Frame.{Frame}
use Rattle.player.specs.Events.{call_for, turn_for}
use Rattle.player.specs.State.{Turned, turned, printed, turn_of, said_text, says}
use Rattle.player.specs.Session.{Goes, Keeps, at_ends, page_in}
use Rattle.player.specs.declared.turn.Session.{Session}
use Rattle.player.specs.Text.{letter_of, frames_text, event_text}
use Rattle.receiver.specs.Told as receiver
use Rattle.sender.specs.Told as sender
use Rattle.text.proofs.Laws.{put_append, no_frame, no_sender_report, no_receiver_report}
use Rattle.text.specs.Page.{Page, put}
use Rattle.text.specs.Text.{letter_s, letter_r, frame_line, emitted_text, sender_report, receiver_report, has_sender_report, has_receiver_report}
use Rattle.transport.proofs.Events.{call_of_lem, lent_answer}
use Rattle.transport.specs.Answer.{world_of, Told, told, answer_of, lent_of}
use Rattle.transport.specs.Capped.{capped_step}
use Rattle.transport.specs.Step.{emission}
use Rattle.transport.specs.World.{World, Call, begin, sender_tick, receiver_tick, hear_forward, repeat_forward, lose_forward, hear_back, repeat_back, lose_back}
use Rattle.transport.specs.declared.Answer.{Answer}
use Rattle.transport.specs.declared.Ends.{Ends}
use Rattle.transport.specs.declared.Said.{Said}

-- ---- what is lent

pub keeps_in : {old new : Session} → new.message ≡ old.message → new.buffer.ghost_name ≡ old.buffer.ghost_name
    → new.forward.ghost_name ≡ old.forward.ghost_name
    → new.back.ghost_name ≡ old.back.ghost_name
    → new.out.ghost_name ≡ old.out.ghost_name
    → Keeps old new
keeps_in m b f k o = record { message = m; buffer = b; forward = f; back = k; out = o }

pub keeps_on : {old mid new : Session} → Keeps old mid → Keeps mid new → Keeps old new
keeps_on h k =
    record {
      message = k.message ∙ h.message;
      buffer = k.buffer ∙ h.buffer;
      forward = k.forward ∙ h.forward;
      back = k.back ∙ h.back;
      out = k.out ∙ h.out;
    }

pub goes_to : {old mid new : Session} {x y : Turned} → Keeps old mid → Goes mid new x → x ≡ y → Goes old new y
goes_to kept h e = record { keeps = keeps_on kept h.keeps; holds = h.holds ∙ e }

-- ---- what is printed of an answer

-- the frame's line, then the reports
pub lines_put : (number letter : ℕ) (a : Said) (p q t x : Page)
    → q ≡ put p (emitted_text number letter (is_some a.frame) (frame_or_blank a.frame))
    → t ≡ put q (sender_report number (sender.told_outcome a.sender))
    → x ≡ put t (receiver_report number (receiver.told_outcome a.receiver) (receiver.told_bytes a.receiver))
    → x ≡ put p (said_text number letter a)
unfolding said_text
lines_put number letter a p q t x d e h =
    let frame = emitted_text number letter (is_some a.frame) (frame_or_blank a.frame) in
    let first = sender_report number (sender.told_outcome a.sender) in
    let second = receiver_report number (receiver.told_outcome a.receiver) (receiver.told_bytes a.receiver) in
    rw (h, e, d, ← put_append p frame (first ++ second), ← put_append (put p frame) first second) refl

silent_text : (number letter : ℕ) (a : Said) → says a ≡ false → said_text number letter a ≡ []
unfolding said_text
silent_text number letter a e =
    let reports = neither_left (is_some a.frame || has_sender_report (sender.told_outcome a.sender)) (has_receiver_report (receiver.told_outcome a.receiver)) e in
    rw (no_frame number letter (is_some a.frame) (frame_or_blank a.frame) (neither_left (is_some a.frame) _ reports), no_sender_report number (sender.told_outcome a.sender) (neither_right (is_some a.frame) _ reports), no_receiver_report number (receiver.told_outcome a.receiver) (receiver.told_bytes a.receiver) (neither_right (is_some a.frame || has_sender_report (sender.told_outcome a.sender)) _ e)) refl

-- the line of a frame, if one is emitted
frames_emitted : (number letter : ℕ) (b : Bool) (f : Frame) → frames_text number letter (emission b f) ≡ emitted_text number letter b f
unfolding frames_text emitted_text
frames_emitted number letter true f = append-nil (frame_line number letter f)
frames_emitted number letter false f = refl

-- ---- an event

module _ (a : Answer) (w : World) (c : Call) (number letter : ℕ) (forward back buffer : List ℕ)
    (e : told a forward back buffer ≡ answer_of w c) (same : letter ≡ letter_of c)
  where
    told_text : said_text number letter a.said ≡ event_text number (capped_step w c).event
    unfolding said_text event_text answer_of told capped_step
    told_text =
        rw (call_of_lem w c, ← same, ← frames_emitted number letter (is_some a.said.frame) (frame_or_blank a.said.frame))
        (ap (λ (t : Told). frames_text number letter t.emitted ++ (sender_report number t.sender ++ receiver_report number t.receiver t.bytes)) e)

    -- and so the step, printed
    turned_answer : (p : Page) → turned (world_of a.next forward back buffer) (put p (said_text number letter a.said)) ≡ printed (capped_step w c) number p
    unfolding answer_of told
    turned_answer p =
        ap (λ (v : World). turned v (put p (said_text number letter a.said))) (ap (λ (t : Told). t.world) e)
        ∙ ap (λ (text : List ℕ). turned (capped_step w c).world (put p text)) told_text

-- an answer that says nothing leaves the page
pub shown_not : (s : Session) (ends : Ends) (number letter : ℕ) (a : Said) {said : Bool} → said ≡ says a → said ≡ false
    → Goes s (record s { ends = ends }) (turned (at_ends s ends) (put (page_in s) (said_text number letter a)))
unfolding put
shown_not s ends number letter a e never =
    let silent = silent_text number letter a (sym e ∙ never) in
    record { keeps = keeps_in refl refl refl refl refl; holds = ap (λ (text : List ℕ). turned (at_ends s ends) (put (page_in s) text)) (sym silent) }

pub begin_shown : (a : Answer) (ends : Ends) (forward forward' m : List ℕ) (p q : Page)
    → length forward ≡ 576
    → ((back buffer : List ℕ) → told a forward' back buffer ≡ lent_of (eqb (length forward) 576) (world_of ends forward back buffer) (begin m))
    → q ≡ put p (said_text 0 letter_s a.said)
    → (back buffer : List ℕ)
    → turned (world_of a.next forward' back buffer) q ≡ printed (capped_step (world_of ends forward back buffer) (begin m)) 0 p
begin_shown a ends forward forward' m p q size e h back buffer =
    let w = world_of ends forward back buffer in
    ap (turned (world_of a.next forward' back buffer)) h
    ∙ turned_answer a w (begin m) 0 letter_s forward' back buffer (lent_answer w (begin m) (eq-eqb _ 576 size) (e back buffer)) refl p

-- ---- the event's number decides

abbrev Not : ℕ → ℕ → Type 0
Not event k = event ≡ k → ⊥

module _ (a : Answer) (w : World) (m : List ℕ) (event number : ℕ) (forward back buffer : List ℕ) (p : Page) where
  -- what is shown is the event
  abbrev Turns : ℕ → Type 0
  Turns letter = turned (world_of a.next forward back buffer) (put p (said_text number letter a.said)) ≡ turn_of w m event number p

  by : (c : Call) (letter : ℕ) → letter ≡ letter_of c → call_for w m event ≡ c → told a forward back buffer ≡ answer_of w c → Turns letter
  unfolding turn_of turn_for
  by c letter l e h =
      turned_answer a w c number letter forward back buffer h l p
      ∙ ap (λ (x : Call). printed (capped_step w x) number p) (sym e)

  pub turn_1 : (n : ℕ) → event ≡ 1 → n ≡ 576 → told a forward back buffer ≡ lent_of (eqb n 576) w (sender_tick m) → Turns letter_s
  unfolding call_for pick
  turn_1 n i size h = by (sender_tick m) letter_s refl (rw i refl) (lent_answer w (sender_tick m) (eq-eqb _ 576 size) h)

  pub turn_2 : (n : ℕ) → event ≡ 2 → n ≡ 576 → told a forward back buffer ≡ lent_of (eqb n 576) w receiver_tick → Turns letter_r
  unfolding call_for pick
  turn_2 n i size h = by receiver_tick letter_r refl (rw i refl) (lent_answer w receiver_tick (eq-eqb _ 576 size) h)

  -- 3 hears, 5 repeats
  pub turn_3_5 : (x y : ℕ) (lent : List ℕ) → lent ≡ w.buffer → (event ≡ 3) ⊎ (event ≡ 5) → x ≡ 576 → y ≡ 576
      → told a forward back buffer ≡ lent_of (eqb x 576 && eqb y 576) w (pick (eqb event 3) (hear_forward lent) (repeat_forward lent))
      → Turns letter_r
  unfolding call_for pick
  turn_3_5 x y lent same (inl i) sx sy h =
      by (hear_forward lent) letter_r refl (rw (i, same) refl) (lent_answer w (hear_forward lent) (rw (sx, sy) refl) (rw i at h))
  turn_3_5 x y lent same (inr i) sx sy h =
      by (repeat_forward lent) letter_r refl (rw (i, same) refl) (lent_answer w (repeat_forward lent) (rw (sx, sy) refl) (rw i at h))

  pub turn_4 : event ≡ 4 → told a forward back buffer ≡ answer_of w lose_forward → Turns letter_r
  unfolding call_for pick
  turn_4 i h = by lose_forward letter_r refl (rw i refl) h

  pub turn_7 : event ≡ 7 → told a forward back buffer ≡ answer_of w lose_back → Turns letter_s
  unfolding call_for pick
  turn_7 i h = by lose_back letter_s refl (rw i refl) h

  -- 6 hears; what is none of the others repeats
  pub turn_6_8 : (x y : ℕ)
      → (((((Unit {0} × Not event 1) × Not event 2) × ((event ≡ 3) ⊎ (event ≡ 5) → ⊥)) × Not event 4) × Not event 7)
      → x ≡ 576
      → y ≡ 576
      → told a forward back buffer ≡ lent_of (eqb x 576 && eqb y 576) w (pick (eqb event 6) hear_back repeat_back)
      → Turns letter_s
  unfolding call_for
  turn_6_8 x y (((((_, n1), n2), n3), n4), n7) sx sy h =
      let c = pick (eqb event 6) hear_back repeat_back in
      by c letter_s (pick_elim (λ (d : Call). letter_s ≡ letter_of d) (eqb event 6) (λ _. refl) (λ _. refl))
      (sym (pick_false _ (ne_eqb _ 1 n1) (pick_false _ (ne_eqb _ 2 n2) (pick_false _ (ne_eqb _ 3 (λ e. n3 (inl e))) (pick_false _ (ne_eqb _ 4 n4) (pick_false _ (ne_eqb _ 5 (λ e. n3 (inr e))) (ap (pick (eqb event 6) hear_back) (pick_false _ (ne_eqb _ 7 n7) refl))))))))
      (lent_answer w c (rw (sx, sy) refl) h)

pub lent_buffer : (ends : Ends) (forward back buffer : List ℕ) → buffer ≡ (world_of ends forward back buffer).buffer
unfolding world_of
lent_buffer ends forward back buffer = refl
