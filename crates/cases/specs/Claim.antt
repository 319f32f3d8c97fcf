-- What a row claims, of every end and every message that its question leaves open.
use Rattle.std.specs.Prelude.{ℕ, ◌≤◌, ◌≡◌, false, List, length}
use Rattle.frame.specs.Count.{frame_count_of}
use Rattle.frame.specs.Frames.{lm_ack_of}
use Rattle.sender.specs.Begin as sender-begin
use Rattle.sender.specs.Hear as sender-hear
use Rattle.sender.specs.Make as sender-make
use Rattle.sender.specs.declared.Announced.{Announced}
use Rattle.sender.specs.declared.Awaited.{Awaited}
use Rattle.sender.specs.declared.Phase.{Phase}
use Rattle.sender.specs.declared.Phase.TheVariants.{Idle, Opening, Sending, Waiting}
use Rattle.sender.specs.declared.Sender.{Sender}
use Rattle.sender.specs.declared.Streamed.{Streamed}
use Rattle.sender.specs.declared.Transfer.{Transfer}
use Rattle.receiver.specs.Hear as receiver-hear
use Rattle.receiver.specs.Make as receiver-making
use Rattle.receiver.specs.declared.Phase as receiver-phase
use Rattle.receiver.specs.declared.Phase.TheVariants as receiver-phases
use Rattle.receiver.specs.declared.Receiver.{Receiver}
use Rattle.identifier.specs.Answer.{join_of}
use Rattle.identifier.specs.declared.Parts.{Parts}
use Rattle.cases.specs.Answer.{shown_begin, shown_hearing, sender_in_silence, receiver_in_silence, of_sender, of_receiver, shown_joined, shown_heard, last_of, with_byte}
use Rattle.cases.specs.Row.{Question, begun, acknowledged, sender_silence, receiver_silence, joined, last_frame, last_frame_with}

-- the phases of a long transfer, in which an LM_ACK is judged
pub data Long : Phase → Transfer → Type 0 where
  opening : (x : Announced) → Long (Opening x) x.transfer
  sending : (x : Streamed) → Long (Sending x) x.transfer
  waiting : (x : Awaited) → Long (Waiting x) x.transfer

-- a connection of this length and its N that expects its last frame and is not held; its other numbers are any
abbrev pub ExpectsLast : receiver-phase.Phase → ℕ → Type 0
ExpectsLast receiver-phases.Idle l = ⊥
ExpectsLast (receiver-phases.Done x) l = ⊥
ExpectsLast (receiver-phases.Open x) l =
    (x.length ≡ l) × (x.frames ≡ frame_count_of l) × (x.expected ≡ x.frames) × (x.held ≡ false)

-- A begin: any Idle sender and any message of the length.
-- LM_ACK: any sender in a long transfer of N frames; by the lengths that go long, N is 2 to 255.
-- A sender in silence: any gap G, any long message.
-- A receiver in silence: any window C, any L from 9 that N fits, any capacity K from L to 1785, any buffer of 1785 bytes.
-- An identifier: any parts of which P, PF, PS and SA are these and EDP and DP are 0.
-- A last frame: any receiver that expects it, any message of the length, which goes long, any buffer of 1785 bytes; for the
-- byte replaced, any number but 255.
abbrev pub Claim : Question → List ℕ → Type 0
Claim (begun l) answer =
    (s : Sender) (message : List ℕ)
    → s.phase ≡ Idle
    → length message ≡ l
    → shown_begin (sender-begin.begin_of s message) ≡ answer
Claim (acknowledged frames start count) answer =
    (s : Sender) (t : Transfer)
    → Long s.phase t
    → t.frames ≡ frames
    → 2 ≤ frames
    → frames ≤ 255
    → shown_hearing (sender-hear.hear_of s (lm_ack_of start count)) ≡ answer
Claim (sender_silence timeout limit ticks) answer =
    (gap : ℕ) (message : List ℕ)
    → 1 ≤ gap
    → gap ≤ 10
    → 9 ≤ length message
    → length message ≤ 1785
    → of_sender (sender-make.make_of gap timeout limit) (λ s. sender_in_silence s message ticks) ≡ answer
Claim (receiver_silence timeout frames ticks) answer =
    (window capacity l : ℕ) (buffer : List ℕ)
    → 1 ≤ window
    → window ≤ 255
    → 9 ≤ l
    → l ≤ capacity
    → capacity ≤ 1785
    → frames ≡ frame_count_of l
    → length buffer ≡ 1785
    → of_receiver (receiver-making.make_of timeout window capacity) (λ r. receiver_in_silence r frames l buffer ticks) ≡ answer
Claim (joined p pf ps sa) answer =
    (x : Parts)
    → x.p ≡ p
    → x.edp ≡ 0
    → x.dp ≡ 0
    → x.pf ≡ pf
    → x.ps ≡ ps
    → x.sa ≡ sa
    → shown_joined (join_of x) ≡ answer
Claim (last_frame l) answer =
    (r : Receiver) (message buffer : List ℕ)
    → length message ≡ l
    → 9 ≤ length message
    → ExpectsLast r.phase (length message)
    → length buffer ≡ 1785
    → shown_heard (receiver-hear.hear_of r (last_of message) buffer).told ≡ answer
Claim (last_frame_with l place) answer =
    (r : Receiver) (message buffer : List ℕ) (byte : ℕ)
    → length message ≡ l
    → 9 ≤ length message
    → ExpectsLast r.phase (length message)
    → length buffer ≡ 1785
    → 1 ≤ place
    → place ≤ 7
    → (byte ≡ 255 → ⊥)
    → shown_heard (receiver-hear.hear_of r (with_byte (last_of message) place byte) buffer).told ≡ answer
