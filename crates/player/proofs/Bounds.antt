-- What is printed of an event has at most 128 bytes, so that of 128 events fits the page.
-- Assumes nothing.
use Prim.Native.Nat.{ℕ, suc, ◌*◌, ◌≤◌}
use mathlib.Core.Bool.{true}
use mathlib.Core.List.{List, [], ◌∷◌, append-nil}
use native.Mathlib.Omega.{arith}
use lib.ListN.{length, length-append}
use Rattle.frame.specs.declared.Frame.{Frame}
use Rattle.player.specs.Events.{call_for, turn_for, events_from}
use Rattle.player.specs.Text.{letter_of, frames_text, event_text, text_of}
use Rattle.text.proofs.Laws.{emitted_length, sender_report_length, receiver_report_length}
use Rattle.text.specs.Text.{frame_line, emitted_text}
use Rattle.transport.proofs.Events.{Whole, One, none, one, call_one, call_bytes, call_whole}
use Rattle.transport.specs.Capped.{capped_step}
use Rattle.transport.specs.World.{World, Call}

frames_short : (number letter : ℕ) (fs : List Frame) → One fs → length (frames_text number letter fs) ≤ 38
unfolding frames_text emitted_text
frames_short number letter fs none = omega arith
frames_short number letter fs (one f e) = rw (append-nil (frame_line number letter f)) (emitted_length number letter true f e)

pub event_short : (w : World) (c : Call) (number : ℕ) → Whole w → length (event_text number (capped_step w c).event) ≤ 128
unfolding event_text
event_short w c number a =
    let e = (capped_step w c).event in
    simp length-append
    (omega (arith, frames_short number (letter_of e.call) e.emitted (call_one w c a), sender_report_length number e.sender, receiver_report_length number e.receiver e.bytes (call_bytes w c a)))

-- ---- a list of events

pub text_fits : (w : World) (m events : List ℕ) (number : ℕ) → Whole w → length (text_of number (events_from w m events)) ≤ 128 * length events
unfolding events_from text_of turn_for
text_fits w m [] number a = omega arith
text_fits w m (event ∷ events) number a =
    let c = call_for w m event in
    let first = event_short w c number a in
    let rest = text_fits (capped_step w c).world m events (suc number) (call_whole w c a) in
    rw length-append (omega (arith, first, rest))
