-- Frame i carries the message's bytes from 7(i−1) on. Stored where the bytes before them are the message's, they leave
-- one piece more of the message at the front of the buffer; after the last, the whole message.
use Prim.Native.Nat.{ℕ, ◌+◌, ◌-◌, ◌*◌, ◌≤◌, ◌<◌}
use mathlib.Core.List.{List, ◌++◌}
use mathlib.Core.Path.{◌≡◌, sym, ap, ◌∙◌}
use native.Mathlib.Omega.{arith}
use lib.ListN.{length, take, drop, length-drop}
use lib.Seq.{take-paste, take-add, take_all}
use Rattle.frame.specs.Count.{frame_count_of}
use Rattle.frame.specs.Frames.{carried, fill_to, part_from}
use Rattle.frame.proofs.Laws.{length_fill, take_fill}
use Rattle.receiver.specs.Hear.{storing}

module _ (m buffer : List ℕ) (number : ℕ) (held : length buffer ≡ 1785) (long : length m ≤ 1785) (low : 1 ≤ number)
    (high : number ≤ frame_count_of (length m))
    (before : take (7 * (number - 1)) buffer ≡ take (7 * (number - 1)) m) where
  -- the buffer after frame number was stored: the first bytes are the message's, as far as that frame goes
  pub piece-stored :
      take (7 * (number - 1) + carried number (length m)) (storing buffer number (length m) (fill_to 7 (part_from number m)))
      ≡ take (7 * (number - 1) + carried number (length m)) m
  unfolding storing frame_count_of
  piece-stored =
      let at : ℕ = 7 * (number - 1) in
      let k : ℕ = carried number (length m) in
      let left : length (drop at m) ≡ length m - at = length-drop at m in
      take-paste buffer at (fill_to 7 (drop at m)) k (omega arith) (rw length_fill (omega arith))
      ∙ ap (λ (l : List ℕ). l ++ take k (fill_to 7 (drop at m))) before
      ∙ ap (λ (l : List ℕ). take at m ++ l) (take_fill k 7 (drop at m) (omega arith) (omega (arith, left)))
      ∙ sym (take-add at k m)

  -- it was not the last frame: the bytes before the next one are the message's
  pub next_stored : number < frame_count_of (length m)
      → take (7 * (number + 1 - 1)) (storing buffer number (length m) (fill_to 7 (part_from number m))) ≡ take (7 * (number + 1 - 1)) m
  unfolding frame_count_of
  next_stored more =
      let e : 7 * (number - 1) + carried number (length m) ≡ 7 * (number + 1 - 1) = omega arith in
      rw e at piece-stored

  -- it was the last frame: the message is there
  pub last_stored : number ≡ frame_count_of (length m) → take (length m) (storing buffer number (length m) (fill_to 7 (part_from number m))) ≡ m
  unfolding frame_count_of
  last_stored last =
      let e : 7 * (number - 1) + carried number (length m) ≡ length m = omega arith in
      (rw e at piece-stored) ∙ take_all (length m) m (omega arith)
