-- Writing and reading undo each other, for every kind; and what an information frame has behind its message is told as
-- document 02, E3, asks. `proofs/Inverse.antt` proves it.
use Rattle.std.specs.Prelude.{ℕ, ◌*◌, ◌≤◌, ◌<◌, true, List, ◌≡◌, length, get_or, take, drop}
use Rattle.frame.specs.Content.{Content, Fits, kind_of, written, content_of}
use Rattle.frame.specs.Frames.{byte_of, part_from, carried, information_of}
use Rattle.frame.specs.Reading.{has_part, clean_for, longest, parsed_of, read_of}
use Rattle.frame.specs.Result.{accepted}
use Rattle.frame.specs.declared.Frame.{Frame}
use Rattle.frame.specs.declared.Parsed.{Parsed}

-- what is written has its kind, is not refused, whatever the length that it is read for, and is read with its fields
pub record ReadBack (c : Content) : Type 0 where
  pub kind : (written c).kind ≡ kind_of c
  pub read : (l : ℕ) → read_of (written c) l ≡ accepted (parsed_of (written c) l)
  pub content : content_of (written c) ≡ c

-- eight bytes
pub record IsFrame (f : Frame) : Type 0 where
  pub eight : length f.bytes ≡ 8
  pub bytes : (n : ℕ) → get_or f.bytes n 0 < 256

pub record RoundTrips : Type 0 where
  pub read_written : (c : Content) → Fits c → ReadBack c
  -- a frame that is read is what its fields write
  pub written_read : (f : Frame) → IsFrame f → (l : ℕ) (k : Parsed) → read_of f l ≡ accepted k → written (content_of f) ≡ f
  -- what the builder writes of a message is read as clean for the message's length
  pub read_part : (number : ℕ) (message : List ℕ) → 1 ≤ number
      → read_of (information_of number (part_from number message)) (length message)
      ≡ accepted (record { kind = 1; number = number; clean = true })
  -- and a frame that is clean for a length is what the builder writes of its bytes before that length
  pub clean_written : (f : Frame) → IsFrame f → (l : ℕ) → has_part f ≡ true → clean_for f l ≡ true
      → information_of (byte_of f 0) (take (carried (byte_of f 0) l) (drop 1 f.bytes)) ≡ f
  -- a frame that the message fills has nothing behind it: each before the last, and the last where L is a multiple of seven
  pub full_clean : (f : Frame) → IsFrame f → (l : ℕ) → 7 * byte_of f 0 ≤ l → clean_for f l ≡ true
  -- so that, where no message is awaited, every frame is clean
  pub none_awaited : (f : Frame) → IsFrame f → clean_for f longest ≡ true
