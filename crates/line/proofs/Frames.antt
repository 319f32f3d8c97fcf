-- The ring read from its first place is document 01's list: a frame joins its end unless it finds 64 before it, and the
-- first is taken away. A frame is stored behind the others, less than once around from the first, so it meets none of them.
-- Assumes nothing.
use Prim.Native.Nat.{ℕ, zero, suc, ◌+◌, ◌-◌, ◌*◌, ◌%◌, ◌<◌, ◌≤◌, min}
use mathlib.Core.Path.{◌≡◌, refl, sym, ap, ◌∙◌}
use mathlib.Core.Bool.{Bool, true, false}
use mathlib.Core.List.{List, [], ◌∷◌, ◌++◌}
use native.Mathlib.Numerals.{unary_clauses}
use native.Mathlib.Omega.{arith}
use borrow.Author.Tests.{leb-true, leb-false, eqb-true, eqb-false}
use lib.Dec.{eqb, leb}
use lib.ListN.{length, get_or, set, take, length-set, length-append}
use lib.Seq.{sets, get_or-set_same, get_or-set_other, take_all, take-append-le}
use Rattle.frame.proofs.Choice.{pick_elim}
use Rattle.frame.specs.declared.Frame.{Frame}
use Rattle.line.proofs.Laws.{frame_of, listed, head_here}
use Rattle.line.specs.Ring.{frame_at, stored, frames_from, frames_in, empty_of, head_of, rest_of, Kept, join_of}
use Rattle.line.specs.RingIsList.{RingIsList}
use Rattle.line.specs.declared.Ring.{Ring}

-- ---- one place

-- stores from place at on leave what is before them and behind them
get_or_before : (vs l : List ℕ) (at i : ℕ) → i < at → get_or (sets l at vs) i 0 ≡ get_or l i 0
get_or_before [] l at i h = refl
get_or_before (v ∷ vs) l at i h = get_or_before vs (set l at v) (suc at) i (omega arith) ∙ get_or-set_other l at i v 0 (λ e. omega arith)

get_or_behind : (vs l : List ℕ) (at i : ℕ) → at + length vs ≤ i → get_or (sets l at vs) i 0 ≡ get_or l i 0
get_or_behind [] l at i h = refl
get_or_behind (v ∷ vs) l at i h = get_or_behind vs (set l at v) (suc at) i (omega arith) ∙ get_or-set_other l at i v 0 (λ e. omega arith)

-- and between them stands what was stored
get_or_stored : (vs l : List ℕ) (at k i : ℕ)
    → i ≡ at + k
    → k < length vs
    → at + length vs ≤ length l
    → get_or (sets l at vs) i 0 ≡ get_or vs k 0
get_or_stored [] l at k i e h fits = absurd (omega arith)
get_or_stored (v ∷ vs) l at zero i e h fits =
    get_or_before vs (set l at v) (suc at) i (omega arith)
    ∙ at_first (omega arith)
  where
    at_first : i ≡ at → get_or (set l at v) i 0 ≡ v
    at_first same = rw same (get_or-set_same l at v 0 (omega arith))
get_or_stored (v ∷ vs) l at (suc k) i e h fits =
    get_or_stored vs (set l at v) (suc at) k i (omega arith) (omega arith) (rw length-set (omega arith))

-- the frame at a place hangs on the nine bytes of that place alone
same_frame : (s t : List ℕ) (place : ℕ)
    → ((c : ℕ) → c < 9 → get_or s (9 * place + c) 0 ≡ get_or t (9 * place + c) 0)
    → frame_at s place ≡ frame_at t place
unfolding frame_at
same_frame s t place h =
    let h0 : get_or s (9 * place) 0 ≡ get_or t (9 * place) 0 = simp unary_clauses at (h 0 (omega arith)) in
    rw (h0, h 1 (omega arith), h 2 (omega arith), h 3 (omega arith), h 4 (omega arith), h 5 (omega arith), h 6 (omega arith), h 7 (omega arith), h 8 (omega arith)) refl

-- a frame that was stored stands at its place, and every other place holds what it held
frame_kept : (bytes : List ℕ) (place other : ℕ) (f : Frame)
    → length f.bytes ≡ 8
    → (other ≡ place → ⊥)
    → frame_at (stored bytes place f) other ≡ frame_at bytes other
unfolding stored
frame_kept bytes place other f eight apart =
    same_frame _ _ other (λ c small. side c small (leb (suc other) place) refl)
  where
    side : (c : ℕ) → c < 9 → (b : Bool) → leb (suc other) place ≡ b
        → get_or (sets bytes (9 * place) (f.kind ∷ f.bytes)) (9 * other + c) 0 ≡ get_or bytes (9 * other + c) 0
    side c small true t = get_or_before (f.kind ∷ f.bytes) bytes (9 * place) (9 * other + c) (let h : suc other ≤ place = leb-true (suc other) place t in omega arith)
    side c small false t =
        get_or_behind (f.kind ∷ f.bytes) bytes (9 * place) (9 * other + c)
        (let h : place < suc other = leb-false (suc other) place t in let less : place < other = omega arith in omega arith)

frame_stored : (bytes : List ℕ) (place : ℕ) (f : Frame)
    → length bytes ≡ 576
    → length f.bytes ≡ 8
    → place < 64
    → frame_at (stored bytes place f) place ≡ f
unfolding frame_at stored
frame_stored bytes place f size eight inside =
    let at : (c k : ℕ) → 9 * place + c ≡ 9 * place + k → k < 9 → get_or (sets bytes (9 * place) (f.kind ∷ f.bytes)) (9 * place + c) 0 ≡ get_or (f.kind ∷ f.bytes) k 0
    = λ c k e small. get_or_stored (f.kind ∷ f.bytes) bytes (9 * place) k (9 * place + c) e (omega arith) (omega arith)
    in
    let first : get_or (sets bytes (9 * place) (f.kind ∷ f.bytes)) (9 * place) 0 ≡ f.kind = get_or_stored (f.kind ∷ f.bytes) bytes (9 * place) 0 (9 * place) (omega arith) (omega arith) (omega arith) in
    rw (first, at 1 1 refl (omega arith), at 2 2 refl (omega arith), at 3 3 refl (omega arith), at 4 4 refl (omega arith), at 5 5 refl (omega arith), at 6 6 refl (omega arith), at 7 7 refl (omega arith), at 8 8 refl (omega arith))
    (ap (λ (s : List ℕ). frame_of f.kind s) (sym (listed 8 f.bytes eight)))

-- ---- so many places

-- the place where a frame is stored is behind the frames before it, and less than once around from the first
frames_kept : (bytes : List ℕ) (f : Frame) → length f.bytes ≡ 8 → (n m p : ℕ) → n ≤ m → m < 64
    → frames_from (stored bytes ((p + m) % 64) f) p n ≡ frames_from bytes p n
unfolding frames_from
frames_kept bytes f eight zero m p h around = refl
frames_kept bytes f eight (suc n) m p h around =
    let moved : (p + m) % 64 ≡ (suc p + (m - 1)) % 64 = ap (λ (k : ℕ). k % 64) (omega arith) in
    let first : frame_at (stored bytes ((p + m) % 64) f) (p % 64) ≡ frame_at bytes (p % 64) =
    frame_kept bytes ((p + m) % 64) (p % 64) f eight (λ e. omega arith)
    in
    let rest : frames_from (stored bytes ((p + m) % 64) f) (suc p) n ≡ frames_from bytes (suc p) n =
    rw moved (frames_kept bytes f eight n (m - 1) (suc p) (omega arith) (omega arith))
    in
    rw (first, rest) refl

-- one place more is one frame more at the end
frames_more : (bytes : List ℕ) (n p : ℕ) → frames_from bytes p (suc n) ≡ frames_from bytes p n ++ frame_at bytes ((p + n) % 64) ∷ []
unfolding frames_from
frames_more bytes zero p = ap (λ (k : ℕ). frame_at bytes (k % 64) ∷ []) (omega arith)
frames_more bytes (suc n) p =
    ap (λ (l : List Frame). frame_at bytes (p % 64) ∷ l)
    (frames_more bytes n (suc p) ∙ ap (λ (k : ℕ). frames_from bytes (suc p) n ++ frame_at bytes (k % 64) ∷ []) (omega arith))

-- places that are the same around the circle
frames_around : (bytes : List ℕ) (n p q : ℕ) → p % 64 ≡ q % 64 → frames_from bytes p n ≡ frames_from bytes q n
unfolding frames_from
frames_around bytes zero p q e = refl
frames_around bytes (suc n) p q e = rw (e, frames_around bytes n (suc p) (suc q) (omega arith)) refl

length_frames : (bytes : List ℕ) (n p : ℕ) → length (frames_from bytes p n) ≡ n
unfolding frames_from
length_frames bytes zero p = refl
length_frames bytes (suc n) p = ap suc (length_frames bytes n (suc p))

-- ---- the ring

-- The line: a frame goes to the end of the list; The player, "Its line loses": of 65 the last is lost
pub frames_joined : (r : Ring) (f : Frame) (bytes : List ℕ)
    → length bytes ≡ 576
    → length f.bytes ≡ 8
    → frames_in (join_of r f bytes).ring (join_of r f bytes).bytes ≡ take 64 (frames_in r bytes ++ f ∷ [])
unfolding join_of frames_in
frames_joined r f bytes size eight =
    pick_elim (λ (k : Kept). frames_in k.ring k.bytes ≡ take 64 (frames_in r bytes ++ f ∷ [])) _
    (λ whole. pick_elim (λ (k : Kept). frames_in k.ring k.bytes ≡ take 64 (frames_in r bytes ++ f ∷ [])) (leb 64 r.count) full room)
    (λ other. absurd (eqb-false (length bytes) 576 other size))
  where
    full : leb 64 r.count ≡ true → frames_in r bytes ≡ take 64 (frames_in r bytes ++ f ∷ [])
    full t =
        let h : 64 ≤ r.count = leb-true 64 r.count t in
        let l : length (frames_from bytes r.first (min r.count 64)) ≡ 64 = length_frames bytes _ r.first ∙ omega arith in
        sym (take-append-le 64 (frames_in r bytes) (f ∷ []) (omega (arith, l)) ∙ take_all 64 (frames_in r bytes) (omega (arith, l)))

    room : leb 64 r.count ≡ false
        → frames_from (stored bytes ((r.first % 64 + r.count) % 64) f) r.first (min (r.count + 1) 64) ≡ take 64 (frames_in r bytes ++ f ∷ [])
    room t =
        let h : r.count < 64 = leb-false 64 r.count t in
        let place : (r.first % 64 + r.count) % 64 ≡ (r.first + r.count) % 64 = omega arith in
        let n : min (r.count + 1) 64 ≡ suc r.count = omega arith in
        let m : min r.count 64 ≡ r.count = omega arith in
        let l : length (frames_from bytes r.first r.count) ≡ r.count = length_frames bytes _ r.first in
        let after : List ℕ = stored bytes ((r.first + r.count) % 64) f in
        rw (place, n, m)
        (frames_more after r.count r.first
        ∙ ap (λ (l : List Frame). l ++ frame_at after ((r.first + r.count) % 64) ∷ []) (frames_kept bytes f eight r.count r.count r.first (omega arith) h)
        ∙ ap (λ (g : Frame). frames_from bytes r.first r.count ++ g ∷ []) (frame_stored bytes _ f size eight (omega arith))
        ∙ sym (take_all 64 _ (rw (length-append, l) (omega arith))))

-- the first place, and those behind it
pub rest_frames : (r : Ring) (bytes : List ℕ)
    → (r.count ≡ 0 → ⊥)
    → frames_in r bytes ≡ frame_at bytes (r.first % 64) ∷ frames_in (rest_of r) bytes
unfolding rest_of frames_in frames_from
rest_frames r bytes some =
    pick_elim (λ (k : Ring). frames_in r bytes ≡ frame_at bytes (r.first % 64) ∷ frames_in k bytes) (eqb r.count 0)
    (λ t. absurd (some (eqb-true _ _ t)))
    (λ t. let more : min r.count 64 ≡ suc (min (min r.count 64 - 1) 64) = omega arith in
    ap (frames_from bytes r.first) more
    ∙ ap (λ (l : List Frame). frame_at bytes (r.first % 64) ∷ l)
    (frames_around bytes (min (min r.count 64 - 1) 64) (suc r.first) ((r.first % 64 + 1) % 64) (omega arith)))

-- the first frame, which a hearing takes away, and the rest; or nothing where the ring is empty
pub frames_some : (r : Ring) (bytes : List ℕ)
    → length bytes ≡ 576
    → (r.count ≡ 0 → ⊥)
    → frames_in r bytes ≡ head_of r bytes ∷ frames_in (rest_of r) bytes
unfolding rest_of frames_in frames_from
frames_some r bytes size some =
    rw (← head_here r bytes size)
    (rest_frames r bytes some)

pub frames_none : (r : Ring) (bytes : List ℕ) → r.count ≡ 0 → frames_in r bytes ≡ []
unfolding frames_in frames_from
frames_none r bytes none = rw none refl

-- at most 64
pub frames_limit : (r : Ring) (bytes : List ℕ) → length (frames_in r bytes) ≤ 64
unfolding frames_in
frames_limit r bytes = let l : length (frames_from bytes r.first (min r.count 64)) ≡ min r.count 64 = length_frames bytes _ r.first in omega arith

pub ring_is_list : RingIsList
ring_is_list =
    record {
      empty = λ bytes. frames_none empty_of bytes refl;
      joined = frames_joined;
      some = frames_some;
      none = frames_none;
      limit = frames_limit;
    }
