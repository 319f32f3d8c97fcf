-- A ring is a list of frames with room for 64: what its functions do to the ring, read from its first place, is what
-- document 01 has for the list. `proofs/Frames.antt` proves it.
use Rattle.std.specs.Prelude.{ℕ, ◌≤◌, ◌≡◌, List, [], ◌∷◌, ◌++◌, length, take}
use Rattle.frame.specs.declared.Frame.{Frame}
use Rattle.line.specs.Ring.{frames_in, empty_of, head_of, rest_of, join_of}
use Rattle.line.specs.declared.Ring.{Ring}

pub record RingIsList : Type 0 where
  -- The line: there is no frame on it at first
  pub empty : (bytes : List ℕ) → frames_in empty_of bytes ≡ []
  -- a frame goes to the end; The player, "Its line loses": of 65 the last is lost
  pub joined : (r : Ring) (f : Frame) (bytes : List ℕ) → length bytes ≡ 576 → length f.bytes ≡ 8
      → frames_in (join_of r f bytes).ring (join_of r f bytes).bytes ≡ take 64 (frames_in r bytes ++ f ∷ [])
  -- the first frame, which hearing and losing take away, and the rest; nothing where the count is 0
  pub some : (r : Ring) (bytes : List ℕ) → length bytes ≡ 576 → (r.count ≡ 0 → ⊥)
      → frames_in r bytes ≡ head_of r bytes ∷ frames_in (rest_of r) bytes
  pub none : (r : Ring) (bytes : List ℕ) → r.count ≡ 0 → frames_in r bytes ≡ []
  -- never more than 64
  pub limit : (r : Ring) (bytes : List ℕ) → length (frames_in r bytes) ≤ 64
