-- One direction of the player's line. Document 01, The line, "Two lists of frames"; The player, "Its line loses": a list has
-- room for 64. It is kept in 576 lent bytes, nine for each of 64 places in a circle.
use Rattle.std.specs.Prelude.{ℕ, zero, suc, ◌+◌, ◌-◌, ◌*◌, ◌%◌, min, List, [], ◌∷◌, eqb, leb, length, get_or}
use Rattle.std.proofs.lemmas.List.Edits.{sets}
use Rattle.frame.specs.Choice.{pick}
use Rattle.frame.specs.Frames.{blank_of}
use Rattle.frame.specs.declared.Frame.{Frame}
use Rattle.line.specs.declared.Ring.{Ring}

-- the frame at a place: its kind, then its data bytes
unfoldable pub frame_at : List ℕ → ℕ → Frame
frame_at bytes place =
    record {
      kind = get_or bytes (9 * place) 0;
      bytes =
          get_or bytes (9 * place + 1) 0
          ∷ get_or bytes (9 * place + 2) 0
          ∷ get_or bytes (9 * place + 3) 0
          ∷ get_or bytes (9 * place + 4) 0
          ∷ get_or bytes (9 * place + 5) 0
          ∷ get_or bytes (9 * place + 6) 0
          ∷ get_or bytes (9 * place + 7) 0
          ∷ get_or bytes (9 * place + 8) 0
          ∷ [];
    }

-- the bytes with a frame at a place
unfoldable pub stored : List ℕ → ℕ → Frame → List ℕ
stored bytes place f = sets bytes (9 * place) (f.kind ∷ f.bytes)

-- so many frames from a place on, around the circle
unfoldable pub frames_from : List ℕ → ℕ → ℕ → List Frame
frames_from bytes place zero = []
frames_from bytes place (suc more) = frame_at bytes (place % 64) ∷ frames_from bytes (suc place) more

-- The list that a ring holds, read from its first place. A ring that no calls made may name more places than there are:
-- its first place is taken round the circle, and of its count at most 64.
unfoldable pub frames_in : Ring → List ℕ → List Frame
frames_in r bytes = frames_from bytes r.first (min r.count 64)

-- The line: at the start there is no frame on it
abbrev pub empty_of : Ring
empty_of = record { first = 0; count = 0 }

-- the first frame, where there is one; lent bytes of another length hold none
unfoldable pub head_of : Ring → List ℕ → Frame
head_of r bytes = pick (eqb (length bytes) 576) (frame_at bytes (r.first % 64)) blank_of

-- without its first frame, which hearing and losing take away; an empty list stays as it is
unfoldable pub rest_of : Ring → Ring
rest_of r =
    pick (eqb r.count 0) r (record { first = (r.first % 64 + 1) % 64; count = min r.count 64 - 1 })

-- a ring and the lent bytes
pub record Kept : Type 0 where
  pub ring : Ring
  pub bytes : List ℕ

abbrev pub kept : Ring → List ℕ → Kept
kept r bytes = record { ring = r; bytes = bytes }

-- with a frame at its end; where it is full the frame is lost, and lent bytes of another length take none
unfoldable pub join_of : Ring → Frame → List ℕ → Kept
join_of r f bytes =
    pick (eqb (length bytes) 576)
    (pick (leb 64 r.count) (kept r bytes)
    (kept (record { first = r.first; count = r.count + 1 }) (stored bytes ((r.first % 64 + r.count) % 64) f)))
    (kept r bytes)
