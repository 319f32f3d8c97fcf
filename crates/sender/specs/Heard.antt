-- Document 01, Hearing, its last line, and Edge cases, Mistakes to shut out: a frame that is ignored restarts no wait.
-- Proved in `proofs/Heard.antt`.
use Rattle.std.specs.Prelude.{ℕ, ◌≡◌, false}
use Rattle.frame.specs.Frames.{blank_of}
use Rattle.frame.specs.declared.Frame.{Frame}
use Rattle.sender.specs.Hear.{hear_of}
use Rattle.sender.specs.State.{in_phase}
use Rattle.sender.specs.Told.{Outcome, quiet, sent, failed, Told}
use Rattle.sender.specs.declared.Phase.TheVariants.{Idle, Sending}
use Rattle.sender.specs.declared.Sender.{Sender}
use Rattle.sender.specs.declared.Streamed.{Streamed}

-- an outcome that ends a transfer
pub data Report : Outcome → Type 0 where
  of_sent : (ticks frames : ℕ) → Report (sent ticks frames)
  of_failed : (cause ticks frames : ℕ) → Report (failed cause ticks frames)

-- What a frame that is heard does, refused ones among them: it leaves the sender as it was, every count of it, and draws no
-- frame; or an LM_ACK is taken, and a window is sent; or the transfer is over, with its report.
pub data Heard (s : Sender) (t : Told) : Type 0 where
  ignored : t.next ≡ s → t.emits ≡ false → t.frame ≡ blank_of → Heard s t
  taken : (x : Streamed) → t.next ≡ in_phase s (Sending x) → t.emits ≡ false → t.outcome ≡ quiet → Heard s t
  over : t.next ≡ in_phase s Idle → Report t.outcome → Heard s t

abbrev pub HearingRestartsNoWait : Type 0
HearingRestartsNoWait = (s : Sender) (f : Frame) → Heard s (hear_of s f)
