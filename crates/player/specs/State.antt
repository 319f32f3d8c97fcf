-- The world and the page after an event.
use Rattle.std.specs.Prelude.{ℕ, Bool, ◌||◌, List, ◌++◌, is_some}
use Rattle.frame.specs.Frames.{frame_or_blank}
use Rattle.player.specs.Events.{turn_for}
use Rattle.player.specs.Text.{event_text}
use Rattle.receiver.specs.Told as receiver
use Rattle.sender.specs.Told as sender
use Rattle.text.specs.Page.{Page, put}
use Rattle.text.specs.Text.{emitted_text, sender_report, receiver_report}
use Rattle.text.specs.Text.{has_sender_report, has_receiver_report}
use Rattle.transport.specs.Step.{Stepped}
use Rattle.transport.specs.World.{World}
use Rattle.transport.specs.declared.Said.{Said}

-- the world after an event, and the page with what is printed of it
pub record Turned : Type 0 where
  pub world : World
  pub page : Page

abbrev pub turned : World → Page → Turned
turned w p = record { world = w; page = p }

-- a step, printed under its number
abbrev pub printed : Stepped → ℕ → Page → Turned
printed s number p = turned s.world (put p (event_text number s.event))

-- an event, printed under its number
unfoldable pub turn_of : World → List ℕ → ℕ → ℕ → Page → Turned
turn_of w message event number p = printed (turn_for w message event) number p

-- what is printed of an answer: the frame's line, then the reports
unfoldable pub said_text : ℕ → ℕ → Said → List ℕ
said_text number letter a =
    emitted_text number letter (is_some a.frame) (frame_or_blank a.frame)
    ++ (sender_report number (sender.told_outcome a.sender)
    ++ receiver_report number (receiver.told_outcome a.receiver) (receiver.told_bytes a.receiver))

-- whether there is anything to print
abbrev pub says : Said → Bool
says a =
    is_some a.frame
    || has_sender_report (sender.told_outcome a.sender)
    || has_receiver_report (receiver.told_outcome a.receiver)
