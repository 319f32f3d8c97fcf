-- Document 01, The player: what is printed of a run.
use Rattle.std.specs.Prelude.{ℕ, suc, List, [], ◌∷◌, ◌++◌}
use Rattle.frame.specs.declared.Frame.{Frame}
use Rattle.text.specs.Text.{letter_s, letter_r, frame_line, sender_report, receiver_report}
use Rattle.transport.specs.World.{Call, Event}
use Rattle.transport.specs.World.{begin, sender_tick, receiver_tick, hold, resume}
use Rattle.transport.specs.World.{hear_forward, repeat_forward, lose_forward, hear_back, repeat_back, lose_back}

-- the end that is called, S or R; a loss calls none and prints nothing
abbrev pub letter_of : Call → ℕ
letter_of (begin message) = letter_s
letter_of (sender_tick message) = letter_s
letter_of receiver_tick = letter_r
letter_of hold = letter_r
letter_of resume = letter_r
letter_of (hear_forward buffer) = letter_r
letter_of (repeat_forward buffer) = letter_r
letter_of lose_forward = letter_r
letter_of hear_back = letter_s
letter_of repeat_back = letter_s
letter_of lose_back = letter_s

-- "per frame": a line for each frame that an event emitted
unfoldable pub frames_text : ℕ → ℕ → List Frame → List ℕ
frames_text number letter [] = []
frames_text number letter (f ∷ frames) = frame_line number letter f ++ frames_text number letter frames

-- "then any report": behind the frames' lines those of what the ends reported
unfoldable pub event_text : ℕ → Event → List ℕ
event_text number e =
    frames_text number (letter_of e.call) e.emitted
    ++ (sender_report number e.sender ++ receiver_report number e.receiver e.bytes)

-- one event after the other, numbered from here
unfoldable pub text_of : ℕ → List Event → List ℕ
text_of number [] = []
text_of number (e ∷ events) = event_text number e ++ text_of (suc number) events
