-- Laws on the definitions of specs/ that the functions' proofs cite.
-- Assumes nothing.
use Prim.Native.Nat.{ℕ, ◌+◌, ◌≤◌}
use mathlib.Core.Path.{◌≡◌, refl, sym, ap, ◌∙◌}
use mathlib.Core.Bool.{Bool, true, false, ◌&&◌, and-true}
use mathlib.Core.List.{List, [], ◌∷◌, ◌++◌, append_assoc, append-nil}
use native.Mathlib.Omega.{arith}
use borrow.Author.Tests.{eq-eqb, ne_eqb}
use lib.ListN.{length, get_or, drop, set, replicate, length-append, length-drop}
use lib.Seq.{sets, sets-eq, drop-drop, take-append_seam, drop-append-add}
use Rattle.std.specs.Result.{result_or}
use Rattle.std.proofs.lemmas.List.{drop-replicate}
use Rattle.std.specs.Prelude.{Ok, Err}
use Rattle.std.specs.declared.result.Result as answers
use Rattle.frame.proofs.Told.{refusal_at, number_injective}
use Rattle.frame.specs.Choice.{pick}
use Rattle.frame.specs.Reading.{all_filler}
use Rattle.frame.specs.Result.{accepted, refused, number_of, told_result}
use Rattle.frame.specs.declared.refusal.Refusal.{Refusal}
use Rattle.frame.specs.declared.refusal.Refusal.TheVariants as refusals
use Rattle.groups.specs.Format.{size_of, sizes_of, value_of, bytes_of, fields_of, group_of, group_from, bytes_for, kinds_of, values, allowed, row_allows}
use Rattle.groups.specs.Reading.{judged, read_row, read_by, read_in, read_of}
use Rattle.groups.specs.Table.{kind_at, IsNumbered, rows, find_of}
use Rattle.groups.specs.Writing.{outcome, write_row, write_by, write_in, write_of}
use Rattle.groups.specs.declared.Group.{Group}
use Rattle.groups.specs.declared.Kind.{Kind}
use Rattle.groups.specs.declared.Row.{Row}
use Rattle.groups.specs.declared.Width.{Width}
use Rattle.groups.specs.declared.Width.TheVariants.{None, Byte, Word}
use Rattle.groups.proofs.Refusals.{find_numbered}
use Rattle.groups.proofs.Rows.{rows_fit, known, numbered}

-- A field has as many bytes as its width says.
pub field_length : (w : Width) (v : ℕ) → length (bytes_of w v) ≡ size_of w
field_length None v = refl
field_length Byte v = refl
field_length Word v = refl

-- Fields stored one after the other from a place on.
abbrev pub store_all : List Kind → List ℕ → ℕ → List ℕ → List ℕ
store_all [] vs at s = s
store_all (k ∷ ks) [] at s = s
store_all (k ∷ ks) (v ∷ vs) at s = store_all ks vs (at + size_of k.width) (sets s at (bytes_of k.width v))

-- A store over the bytes after the first ones.
store_one : (pre rest vs : List ℕ) → length vs ≤ length rest
    → sets (pre ++ rest) (length pre) vs ≡ (pre ++ vs) ++ drop (length vs) rest
store_one pre rest vs h =
    sets-eq vs (pre ++ rest) (length pre) (simp length-append (omega arith))
    ∙ rw (take-append_seam pre rest, drop-append-add pre rest (length vs))

-- What is stored is the fields' bytes, and the bytes after them stay.
store_all_lem : (ks : List Kind) (vs pre rest : List ℕ) → length ks ≡ length vs → sizes_of ks ≤ length rest
    → store_all ks vs (length pre) (pre ++ rest) ≡ (pre ++ fields_of ks vs) ++ drop (sizes_of ks) rest
store_all_lem [] vs pre rest e h = rw append-nil
store_all_lem (k ∷ ks) [] pre rest e h = absurd (omega arith)
store_all_lem (k ∷ ks) (v ∷ vs) pre rest e h =
    let b : List ℕ = bytes_of k.width v in
    let size : length b ≡ size_of k.width = field_length k.width v in
    let left : sizes_of ks ≤ length (drop (length b) rest) = simp length-drop (omega arith) in
    let at : length pre + size_of k.width ≡ length (pre ++ b) = rw (length-append pre b, size) in
    rw (store_one pre rest b (omega arith), at)
    (store_all_lem ks vs (pre ++ b) (drop (length b) rest) (omega arith) left
    ∙ rw (append_assoc pre b (fields_of ks vs), drop-drop (sizes_of ks) (length b) rest, size))

-- The code and four fields, stored over eight bytes of filler, are the group's bytes.
pub store_whole : (x : Row) (g : Group) {p q r t : Kind} {n m l size : ℕ} {filled one two three four : List ℕ} → size ≡ 8
    → sizes_of (kinds_of x) ≤ 7 → p ≡ kind_at x.first → q ≡ kind_at x.second → r ≡ kind_at x.third → t ≡ kind_at x.fourth
    → filled ≡ replicate size 255 → one ≡ sets (set filled 0 g.code) 1 (bytes_of p.width g.first) → n ≡ 1 + size_of p.width
    → two ≡ sets one n (bytes_of q.width g.second) → m ≡ n + size_of q.width
    → three ≡ sets two m (bytes_of r.width g.third) → l ≡ m + size_of r.width
    → four ≡ sets three l (bytes_of t.width g.fourth) → four ≡ bytes_for g.code (kinds_of x) (values g)
unfolding bytes_for
store_whole x g {four = four} eight fit hp hq hr ht h0 h1 e1 h2 e2 h3 e3 h4 =
    let all : four ≡ store_all (kinds_of x) (values g) 1 (g.code ∷ replicate 7 255) =
    rw (h4, e3, h3, e2, h2, e1, h1, h0, eight, hp, hq, hr, ht) in
    all
    ∙ store_all_lem (kinds_of x) (values g) (g.code ∷ []) (replicate 7 255) refl fit
    ∙ rw (drop-replicate {X = ℕ} (sizes_of (kinds_of x)) 7 255)

-- Four values one after the other, each from the place where the field before it ends.
pub group_whole : (x : Row) (s : List ℕ) {p q r t : Kind} {code n m l a b c d : ℕ} → p ≡ kind_at x.first
    → q ≡ kind_at x.second → r ≡ kind_at x.third → t ≡ kind_at x.fourth → a ≡ value_of p.width (drop 1 s)
    → n ≡ 1 + size_of p.width → b ≡ value_of q.width (drop n s) → m ≡ n + size_of q.width → c ≡ value_of r.width (drop m s)
    → l ≡ m + size_of r.width → d ≡ value_of t.width (drop l s)
    → group_of code (a ∷ b ∷ c ∷ d ∷ []) ≡ group_from code (kinds_of x) s
unfolding group_from
group_whole x s {p} {q} {r} {n = n} {m = m} hp hq hr ht ha en hb em hc el hd =
    let sb = drop-drop (size_of p.width) 1 s in
    let sc = drop-drop (size_of q.width) n s in
    let sd = drop-drop (size_of r.width) m s in
    cc

-- A row allows a group's values where the kind of each does.
pub row_allowed : (x : Row) (g : Group) {a b c d : Bool} → a ≡ allowed (kind_at x.first) g.first
    → b ≡ allowed (kind_at x.second) g.second → c ≡ allowed (kind_at x.third) g.third
    → d ≡ allowed (kind_at x.fourth) g.fourth → (a && b && c && d) ≡ row_allows x (values g)
unfolding row_allows
row_allowed x g {a} {b} {c} {d} ea eb ec ed = rw (← ea, ← eb, ← ec, ← ed, and-true) (go a b)
  where
    go : (a b : Bool) → (a && b && c && d) ≡ (a && (b && (c && d)))
    go true true = refl
    go true false = refl
    go false b = refl

-- Reading goes by the length, the code's row, the filler and the values.
module _ (s : List ℕ) where
  pub read_length : (length s ≡ 8 → ⊥) → refused 9 ≡ read_of s
  unfolding read_in pick
  read_length h = rw (ne_eqb _ _ h)

  module _ {found : answers.Result Row Refusal} (eight : length s ≡ 8) (f : told_result found ≡ find_of (get_or s 0 0)) where
    pub read_unknown : {r : Refusal} → found ≡ Err r → refused (number_of r) ≡ read_of s
    unfolding read_in read_by pick
    read_unknown e = rw (eq-eqb _ _ eight, ← f, e)

    module _ {x : Row} {filler : Bool} (e : found ≡ Ok x) (h : filler ≡ all_filler (drop x.length s)) where
      pub read_unfilled : filler ≡ false → refused 9 ≡ read_of s
      unfolding read_in read_by read_row pick
      read_unfilled t = rw (eq-eqb _ _ eight, ← f, e, ← h, t)

      module _ {g : Group} {fine : Bool} (t : filler ≡ true) (eg : g ≡ group_from (get_or s 0 0) (kinds_of x) s)
          (ef : fine ≡ row_allows x (values g)) where
        pub read_fine : fine ≡ true → accepted g ≡ read_of s
        unfolding read_in read_by read_row judged pick
        read_fine k = rw (eq-eqb _ _ eight, ← f, e, ← h, t, ← eg, ← ef, k)

        pub read_value : fine ≡ false → refused 10 ≡ read_of s
        unfolding read_in read_by read_row judged pick
        read_value k = rw (eq-eqb _ _ eight, ← f, e, ← h, t, ← eg, ← ef, k)

-- And so does writing, by the length, the code's row and the values.
module _ (g : Group) (s : List ℕ) where
  pub write_length : (length s ≡ 8 → ⊥) → outcome (refused 9) s ≡ write_of g s
  unfolding write_in pick
  write_length h = rw (ne_eqb _ _ h)

  module _ {found : answers.Result Row Refusal} (eight : length s ≡ 8) (f : told_result found ≡ find_of g.code) where
    pub write_unknown : {r : Refusal} → found ≡ Err r → outcome (refused (number_of r)) s ≡ write_of g s
    unfolding write_in write_by pick
    write_unknown e = rw (eq-eqb _ _ eight, ← f, e)

    module _ {x : Row} {fine : Bool} (e : found ≡ Ok x) (ef : fine ≡ row_allows x (values g)) where
      pub write_fine : {t : List ℕ} → fine ≡ true → t ≡ bytes_for g.code (kinds_of x) (values g)
          → outcome (accepted tt) t ≡ write_of g s
      unfolding write_in write_by write_row pick
      write_fine k h = rw (eq-eqb _ _ eight, ← f, e, ← ef, k, h)

      pub write_value : fine ≡ false → outcome (refused 10) s ≡ write_of g s
      unfolding write_in write_by write_row pick
      write_value k = rw (eq-eqb _ _ eight, ← f, e, ← ef, k)

-- A code that is in no row is refused by 9 alone: to say so once more changes nothing.
pub found_or : (code : ℕ) (found : answers.Result Row Refusal) → told_result found ≡ find_of code
    → result_or found (Err refusals.Group) ≡ found
found_or code (Ok x) f = refl
found_or code (Err r) f =
    let nine : number_of r ≡ 9 = find_numbered code rows (number_of r) (sym f) in
    ap Err (sym (ap refusal_at nine) ∙ number_injective r)

-- The fields of a row that is found have room in eight bytes.
pub row_sizes : (code : ℕ) {found : answers.Result Row Refusal} {x : Row} → told_result found ≡ find_of code → found ≡ Ok x
    → sizes_of (kinds_of x) ≤ 7
row_sizes code {found} {x} f e = (known rows rows_fit code x (sym f ∙ ap told_result e)).small

-- The numbers of a row that is found are 0 or of kinds.
pub row_numbered : (code : ℕ) {found : answers.Result Row Refusal} {x : Row} → told_result found ≡ find_of code
    → found ≡ Ok x → IsNumbered x
row_numbered code {found} {x} f e = numbered code x (sym f ∙ ap told_result e)

pub ruleset reading = (read_length, read_unknown, read_unfilled, read_fine, read_value)

pub ruleset writing = (write_length, write_unknown, write_fine, write_value)
