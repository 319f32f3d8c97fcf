-- What a frame says, in document 01's words: the fields that its kind names. Writing gives the frame, reading the fields
-- back; `proofs/Inverse.antt` shows that each undoes the other.
use Rattle.std.specs.Prelude.{ℕ, ◌≤◌, ◌<◌, ◌≡◌, List, eqb, length, drop}
use Rattle.frame.specs.Choice.{pick}
use Rattle.frame.specs.Frames.{byte_of, word_at, announcement_of, information_of, lm_ack_of, lm_nack_of, end_of_ack_of, sm_rm_of, sm_urm_of, sm_ack_of}
use Rattle.frame.specs.declared.Frame.{Frame}

-- the fields of each kind; an information frame from number 1 and the two short messages have their data bytes whole
pub data Content : Type 0 where
  announcement : (frames length : ℕ) → Content
  information : (number : ℕ) (bytes : List ℕ) → Content
  lm_ack : (start count : ℕ) → Content
  lm_nack : (cause : ℕ) → Content
  end_of_ack : (frames length : ℕ) → Content
  sm_rm : (bytes : List ℕ) → Content
  sm_ack : (first : ℕ) → Content
  sm_urm : (bytes : List ℕ) → Content

-- the fields fit their places: a length is a word, an information frame has a number from 1 and seven bytes, a short
-- message eight
abbrev pub Fits : Content → Type 0
Fits (announcement frames l) = l < 65536
Fits (information number bytes) = (1 ≤ number) × (length bytes ≡ 7)
Fits (lm_ack start count) = Unit
Fits (lm_nack cause) = Unit
Fits (end_of_ack frames l) = l < 65536
Fits (sm_rm bytes) = length bytes ≡ 8
Fits (sm_ack first) = Unit
Fits (sm_urm bytes) = length bytes ≡ 8

-- the kind number of each
abbrev pub kind_of : Content → ℕ
kind_of (announcement frames l) = 1
kind_of (information number bytes) = 1
kind_of (lm_ack start count) = 2
kind_of (lm_nack cause) = 3
kind_of (end_of_ack frames l) = 4
kind_of (sm_rm bytes) = 5
kind_of (sm_ack first) = 6
kind_of (sm_urm bytes) = 7

-- written bytes
abbrev pub written : Content → Frame
written (announcement frames l) = announcement_of frames l
written (information number bytes) = information_of number bytes
written (lm_ack start count) = lm_ack_of start count
written (lm_nack cause) = lm_nack_of cause
written (end_of_ack frames l) = end_of_ack_of frames l
written (sm_rm bytes) = sm_rm_of bytes
written (sm_ack first) = sm_ack_of first
written (sm_urm bytes) = sm_urm_of bytes

-- read bytes, of a frame that is not refused
unfoldable pub content_of : Frame → Content
content_of f =
    pick (eqb f.kind 1)
    (pick (eqb (byte_of f 0) 0) (announcement (byte_of f 1) (word_at f 2 3)) (information (byte_of f 0) (drop 1 f.bytes)))
    (pick (eqb f.kind 2) (lm_ack (byte_of f 0) (byte_of f 1))
    (pick (eqb f.kind 3) (lm_nack (byte_of f 0))
    (pick (eqb f.kind 4) (end_of_ack (byte_of f 0) (word_at f 1 2))
    (pick (eqb f.kind 5) (sm_rm f.bytes) (pick (eqb f.kind 6) (sm_ack (byte_of f 0)) (sm_urm f.bytes))))))
