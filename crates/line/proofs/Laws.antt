-- Laws on the ring: what the functions leave is what the definitions say, and what the ring then holds is document 01's
-- list.
-- Assumes nothing.
use Prim.Native.Nat.{ℕ, zero, suc, ◌+◌, ◌-◌, ◌*◌, ◌%◌, ◌<◌, ◌≤◌, min}
use mathlib.Core.Path.{◌≡◌, refl, sym, ap, ◌∙◌}
use mathlib.Core.Bool.{true, false}
use mathlib.Core.List.{List, [], ◌∷◌}
use native.Mathlib.Numerals.{unary_clauses}
use native.Mathlib.Omega.{arith}
use Rattle.std.proofs.Common.{append_assoc}
use Rattle.std.specs.Array.{IsWholeChunk}
use borrow.Rule.Slice.PartMut.{mid_of, put_mid}
use borrow.Author.Tests.{le-leb, lt-leb, ne_eqb, eq-eqb}
use lib.Dec.{eqb}
use lib.ListN.{length, get_or, set, take, drop, length-set}
use Rattle.std.proofs.lemmas.List.{drop-drop}
use lib.Seq.{sets-eq, drop-cons, take_all}
use Rattle.frame.proofs.Choice.{pick_true, pick_false}
use Rattle.frame.specs.Frames.{blank_of}
use Rattle.frame.specs.declared.Frame.{Frame}
use Rattle.line.specs.Ring.{frame_at, stored, head_of, rest_of, kept, join_of}
use Rattle.line.specs.declared.Ring.{Ring}

abbrev pub frame_of : ℕ → List ℕ → Frame
frame_of kind bytes = record { kind = kind; bytes = bytes }

abbrev ring_of : ℕ → ℕ → Ring
ring_of first count = record { first = first; count = count }

-- ---- the functions' paths

-- an empty ring stays; else the first frame goes, whether or not the count is above 64
pub rest_empty : (r : Ring) → eqb r.count 0 ≡ true → r ≡ rest_of r
unfolding rest_of
rest_empty r e = pick_true _ e refl

pub rest_some : (r : Ring) (n : ℕ) → eqb r.count 0 ≡ false → n ≡ min r.count 64 → ring_of ((r.first % 64 + 1) % 64) (n - 1) ≡ rest_of r
unfolding rest_of
rest_some r n e m = pick_false _ e (ap (λ (k : ℕ). ring_of ((r.first % 64 + 1) % 64) (k - 1)) m)

pub head_here : (r : Ring) (bytes : List ℕ) → length bytes ≡ 576 → frame_at bytes (r.first % 64) ≡ head_of r bytes
unfolding head_of
head_here r bytes size = pick_true _ (eq-eqb _ _ size) refl

pub head_there : (r : Ring) (f : Frame) (bytes places : List ℕ) → IsWholeChunk bytes places 576 → f ≡ frame_at places (r.first % 64) → f ≡ head_of r bytes
head_there r f bytes places whole e =
    e ∙ ap (λ (s : List ℕ). frame_at s (r.first % 64)) whole.same ∙ head_here r bytes whole.long

pub head_none : (r : Ring) (f : Frame) (bytes : List ℕ) → (length bytes ≡ 576 → ⊥) → f ≡ blank_of → f ≡ head_of r bytes
unfolding head_of
head_none r f bytes other e = pick_false _ (ne_eqb _ _ other) e

pub join_nowhere : (r : Ring) (f : Frame) (bytes : List ℕ) → (length bytes ≡ 576 → ⊥) → kept r bytes ≡ join_of r f bytes
unfolding join_of
join_nowhere r f bytes other = pick_false _ (ne_eqb _ _ other) refl

pub join_full : (r : Ring) (f : Frame) (bytes places : List ℕ) → IsWholeChunk bytes places 576 → 64 ≤ r.count → kept r places ≡ join_of r f bytes
unfolding join_of
join_full r f bytes places whole full =
    pick_true _ (eq-eqb _ _ whole.long) (pick_true _ (le-leb _ _ full) (ap (kept r) whole.same))

pub join_room : (r : Ring) (f : Frame) (bytes places after : List ℕ)
    → IsWholeChunk bytes places 576
    → r.count < 64
    → after ≡ stored places ((r.first % 64 + r.count) % 64) f
    → kept (ring_of r.first (r.count + 1)) after ≡ join_of r f bytes
unfolding join_of
join_room r f bytes places after whole room e =
    pick_true _ (eq-eqb _ _ whole.long)
    (pick_false _ (lt-leb _ _ room)
    (ap (kept (ring_of r.first (r.count + 1)))
    (e ∙ ap (λ (s : List ℕ). stored s ((r.first % 64 + r.count) % 64) f) whole.same)))

-- n bytes of s from place k on
abbrev pub bytes_from : ℕ → ℕ → List ℕ → List ℕ
bytes_from zero k s = []
bytes_from (suc n) k s = get_or s k 0 ∷ bytes_from n (suc k) s

pub part_listed : (n k : ℕ) (s : List ℕ) → k + n ≤ length s → take n (drop k s) ≡ bytes_from n k s
part_listed zero k s h = refl
part_listed (suc n) k s h =
    let inside : k < length s = omega arith in
    rw (drop-cons s k 0) (ap (λ (l : List ℕ). get_or s k 0 ∷ l) (part_listed n (suc k) s (omega arith)))

-- a list of n bytes is its bytes
pub listed : (n : ℕ) (s : List ℕ) → length s ≡ n → s ≡ bytes_from n 0 s
listed n s e = sym (take_all n s (omega arith)) ∙ part_listed n 0 s (omega arith)

-- the kind at a place and the eight bytes behind it are the frame there
pub nine_read : (bytes behind : List ℕ) (place : ℕ)
    → length bytes ≡ 576
    → place < 64
    → behind ≡ mid_of (9 * place + 1) (9 * place + 9 - (9 * place + 1)) bytes
    → frame_of (get_or bytes (9 * place) 0) behind ≡ frame_at bytes place
unfolding frame_at
nine_read bytes behind place size inside e =
    let eight : 9 * place + 9 - (9 * place + 1) ≡ 8 = omega arith in
    let found : behind ≡ bytes_from 8 (9 * place + 1) bytes = rw eight at e ∙ part_listed 8 (9 * place + 1) bytes (omega arith) in
    let same = simp unary_clauses at found in
    simp unary_clauses (ap (frame_of (get_or bytes (9 * place) 0)) same)

-- a kind at a place and eight bytes behind it are what storing the frame leaves
pub nine_stored : (bytes behind : List ℕ) (place : ℕ) (f : Frame)
    → length bytes ≡ 576
    → place < 64
    → length f.bytes ≡ 8
    → behind ≡ f.bytes
    → put_mid (9 * place + 1) (9 * place + 9 - (9 * place + 1)) (set bytes (9 * place) f.kind) behind ≡ stored bytes place f
unfolding stored
nine_stored bytes behind place f size inside eight e =
    let n : 9 * place + 9 - (9 * place + 1) ≡ 8 = omega arith in
    let l : List ℕ = set bytes (9 * place) f.kind in
    let fits : suc (9 * place) + length f.bytes ≤ length l = omega (arith, eight, size, length-set {A = ℕ}) in
    rw (n, e, drop-drop, ← append_assoc) (simp unary_clauses (sym (simp unary_clauses at (rw eight at (sets-eq f.bytes l (suc (9 * place)) fits)))))
