-- Writing and reading undo each other, by every row at once of every table that is fit. A field's bytes give its value
-- back, and its value its bytes, by the three widths; fields one after the other, by the list of their kinds; and the test of
-- the table says that a row's fields fill its length and that what their kinds allow fits their widths.
-- Assumes nothing.
use Prim.Native.Nat.{ℕ, zero, suc, ◌+◌, ◌-◌, ◌%◌, ◌≤◌, ◌<◌}
use mathlib.Core.Path.{◌≡◌, refl, sym, ap, ◌∙◌, subst}
use mathlib.Core.Bool.{Bool, true, false}
use mathlib.Core.List.{List, [], ◌∷◌, ◌++◌, append_assoc}
use native.Mathlib.Omega.{arith}
use borrow.Author.Tests.{eq-eqb, eqb-true}
use lib.Dec.{eqb}
use lib.ListN.{length, get_or, take, drop, replicate, length-append, length-drop, length-replicate, take-append-drop}
use lib.Seq.{drop_at, drop-drop, get_or-drop, take-add, drop-cons}
use Rattle.frame.proofs.Inverse.{filled}
use Rattle.frame.proofs.Laws.{word_low, word_high}
use Rattle.frame.specs.Choice.{pick}
use Rattle.frame.specs.Reading.{all_filler}
use Rattle.frame.specs.Result.{Result, accepted, refused}
use Rattle.groups.specs.Format.{size_of, sizes_of, kinds_of, values, row_allows, value_of, values_of, bytes_of, fields_of, group_of, group_from, bytes_for}
use Rattle.groups.specs.Reading.{judged, read_row, read_by, read_in}
use Rattle.groups.specs.RoundTrips.{RoundTrips}
use Rattle.groups.specs.Table.{rows, find_in}
use Rattle.groups.specs.Writing.{Outcome, outcome, write_row, write_by, write_in}
use Rattle.groups.specs.declared.Group.{Group}
use Rattle.groups.specs.declared.Kind.{Kind}
use Rattle.groups.specs.declared.Row.{Row}
use Rattle.groups.specs.declared.Width.{Width}
use Rattle.groups.specs.declared.Width.TheVariants.{None, Byte, Word}
use Rattle.groups.proofs.Laws.{field_length}
use Rattle.groups.proofs.Rows.{Fits, rows_fit, known, room, Fit, all_fit}

-- A field: its bytes give the value back, whatever follows them,
value_back : (w : Width) (v : ℕ) (s : List ℕ) → v < room w → value_of w (bytes_of w v ++ s) ≡ v
value_back None v s h = omega arith
value_back Byte v s h = omega arith
value_back Word v s h = omega arith

-- and its value the bytes.
bytes_back : (w : Width) (s : List ℕ) → size_of w ≤ length s → ((n : ℕ) → get_or s n 0 < 256)
    → bytes_of w (value_of w s) ≡ take (size_of w) s
bytes_back None s h b = refl
bytes_back Byte [] h b = absurd (omega arith)
bytes_back Byte (x ∷ s) h b = let e : x % 256 ≡ x = omega (arith, b 0) in cc
bytes_back Word [] h b = absurd (omega arith)
bytes_back Word (x ∷ []) h b = absurd (omega arith)
bytes_back Word (x ∷ y ∷ s) h b =
    cc (word_low x y (b 0), word_high x y (b 0) (b 1))

-- Fields one after the other: as many bytes as their sizes together,
fields_length : (ks : List Kind) (vs : List ℕ) → length ks ≡ length vs → length (fields_of ks vs) ≡ sizes_of ks
fields_length [] vs e = refl
fields_length (k ∷ ks) [] e = absurd (omega arith)
fields_length (k ∷ ks) (v ∷ vs) e =
    rw (length-append (bytes_of k.width v) (fields_of ks vs), field_length k.width v, fields_length ks vs (omega arith))

-- the values back,
values_back : (ks : List Kind) (vs s : List ℕ) → length ks ≡ length vs → Fit ks vs → values_of ks (fields_of ks vs ++ s) ≡ vs
values_back [] [] s e f = refl
values_back [] (v ∷ vs) s e f = absurd (omega arith)
values_back (k ∷ ks) [] s e f = absurd (omega arith)
values_back (k ∷ ks) (v ∷ vs) s e f =
    let b : List ℕ = bytes_of k.width v in
    let rest : List ℕ = fields_of ks vs ++ s in
    let on : drop (size_of k.width) (b ++ rest) ≡ rest = drop_at b rest _ (field_length k.width v) in
    rw (append_assoc b (fields_of ks vs) s, value_back k.width v rest f.0, on, values_back ks vs s (omega arith) f.1)

-- and the bytes back.
fields_back : (ks : List Kind) (s : List ℕ) → sizes_of ks ≤ length s → ((n : ℕ) → get_or s n 0 < 256)
    → fields_of ks (values_of ks s) ≡ take (sizes_of ks) s
fields_back [] s h b = refl
fields_back (k ∷ ks) s h b =
    let n : ℕ = size_of k.width in
    let left : sizes_of ks ≤ length (drop n s) = simp length-drop (omega arith) in
    let bytes : (i : ℕ) → get_or (drop n s) i 0 < 256 = λ i. rw get_or-drop (b (n + i)) in
    rw (bytes_back k.width s (omega arith) b, fields_back ks (drop n s) left bytes, take-add n (sizes_of ks) s)

-- Filler passes, and what passes is filler.
filler_passes : (n : ℕ) → all_filler (replicate n 255) ≡ true
unfolding all_filler
filler_passes zero = refl
filler_passes (suc n) = filler_passes n

-- What passes a test that else refuses has passed it.
gave : {A : Type 0} (test : Bool) (a : Result A) (n : ℕ) (b : A) → pick test a (refused n) ≡ accepted b
    → (test ≡ true) × (a ≡ accepted b)
unfolding pick
gave true a n b h = (refl, h)
gave false a n b h = (cc, cc)

did : (test : Bool) (o : Outcome) (n : ℕ) (s t : List ℕ)
    → pick test o (outcome (refused n) s) ≡ outcome (accepted tt) t → (test ≡ true) × (o ≡ outcome (accepted tt) t)
unfolding pick
did true o n s t h = (refl, h)
did false o n s t h = let a = ap (λ (o : Outcome). o.answer) h in cc

-- Past a row's own length are the bytes past its code and its fields.
at_length : (n l : ℕ) → 1 + n ≡ l → (s : List ℕ) → drop l s ≡ drop n (drop 1 s)
at_length n l e s = sym (ap (λ (k : ℕ). drop k s) e) ∙ sym (drop-drop n 1 s)

-- By the rows of a table that is fit:
module _ (table : List Row) (fit : Fits table) where
  -- What a group that is read went through, one by one; and that is all that reading asks.
  record Read (s : List ℕ) (g : Group) : Type 0 where
    row : Row
    eight : length s ≡ 8
    found : find_in (get_or s 0 0) table ≡ accepted row
    filler : all_filler (drop row.length s) ≡ true
    group : group_from (get_or s 0 0) (kinds_of row) s ≡ g
    fine : row_allows row (values g) ≡ true

  read_by_row : (s : List ℕ) (g : Group) → length s ≡ 8 → (a : Result Row) → find_in (get_or s 0 0) table ≡ a
      → read_by s (get_or s 0 0) a ≡ accepted g → Read s g
  unfolding read_by read_row judged
  read_by_row s g eight (accepted x) found h =
      let filler = gave (all_filler (drop x.length s)) _ 9 g h in
      let fine = gave (row_allows x (values (group_from (get_or s 0 0) (kinds_of x) s))) _ 10 g filler.1 in
      let group : group_from (get_or s 0 0) (kinds_of x) s ≡ g = cc in
      record {
        row = x;
        eight = eight;
        found = found;
        filler = filler.0;
        group = group;
        fine = subst (λ (h : Group). row_allows x (values h) ≡ true) group fine.0;
      }
  read_by_row s g eight (refused n) found h = cc

  read_parts : (s : List ℕ) (g : Group) → read_in table s ≡ accepted g → Read s g
  unfolding read_in
  read_parts s g h =
      let both = gave (eqb (length s) 8) _ 9 g h in
      read_by_row s g (eqb-true _ _ both.0) (find_in (get_or s 0 0) table) refl both.1

  read_whole : (s : List ℕ) (g : Group) → Read s g → read_in table s ≡ accepted g
  unfolding read_in read_by read_row judged pick
  read_whole s g r = rw (eq-eqb _ _ r.eight, r.found, r.filler, r.group, r.fine)

  -- The same of a group that is written, into any eight bytes.
  record Wrote (g : Group) (s t : List ℕ) : Type 0 where
    row : Row
    eight : length s ≡ 8
    found : find_in g.code table ≡ accepted row
    fine : row_allows row (values g) ≡ true
    bytes : bytes_for g.code (kinds_of row) (values g) ≡ t

  write_by_row : (g : Group) (s t : List ℕ) → length s ≡ 8 → (a : Result Row) → find_in g.code table ≡ a
      → write_by g s a ≡ outcome (accepted tt) t → Wrote g s t
  unfolding write_by write_row
  write_by_row g s t eight (accepted x) found h =
      let fine = did (row_allows x (values g)) _ 10 s t h in
      record { row = x; eight = eight; found = found; fine = fine.0; bytes = ap (λ (o : Outcome). o.bytes) fine.1 }
  write_by_row g s t eight (refused n) found h = let a = ap (λ (o : Outcome). o.answer) h in cc

  write_parts : (g : Group) (s t : List ℕ) → write_in table g s ≡ outcome (accepted tt) t → Wrote g s t
  unfolding write_in
  write_parts g s t h =
      let both = did (eqb (length s) 8) _ 9 s t h in
      write_by_row g s t (eqb-true _ _ both.0) (find_in g.code table) refl both.1

  write_whole : (g : Group) (s t : List ℕ) → Wrote g s t → write_in table g s ≡ outcome (accepted tt) t
  unfolding write_in write_by write_row pick
  write_whole g s t w = rw (eq-eqb _ _ w.eight, w.found, w.fine, w.bytes)

  -- The bytes of a group that its row allows are read as the group.
  bytes_read : (g : Group) (x : Row) → find_in g.code table ≡ accepted x → row_allows x (values g) ≡ true
      → Read (bytes_for g.code (kinds_of x) (values g)) g
  unfolding bytes_for group_from
  bytes_read g x found fine =
      let ks : List Kind = kinds_of x in
      let row = known table fit g.code x found in
      let fields : List ℕ = fields_of ks (values g) in
      let size : length fields ≡ sizes_of ks = fields_length ks (values g) refl in
      let rest : List ℕ = replicate (7 - sizes_of ks) 255 in
      let long : length (fields ++ rest) ≡ 7 =
      rw (length-append fields rest, size, length-replicate {A = ℕ} (7 - sizes_of ks) 255) (omega (arith, row.small)) in
      let after : drop x.length (g.code ∷ fields ++ rest) ≡ rest =
      at_length (sizes_of ks) x.length row.filled (g.code ∷ fields ++ rest)
      ∙ drop_at fields rest (sizes_of ks) size in
      record {
        row = x;
        eight = ap suc long;
        found = found;
        filler = rw after (filler_passes (7 - sizes_of ks));
        group = ap (group_of g.code) (values_back ks (values g) rest refl (all_fit x (values g) row fine));
        fine = fine;
      }

  -- The bytes of the values that a row's kinds find in eight bytes are those bytes.
  read_bytes : (s : List ℕ) (x : Row) → length s ≡ 8 → ((n : ℕ) → get_or s n 0 < 256)
      → find_in (get_or s 0 0) table ≡ accepted x → all_filler (drop x.length s) ≡ true
      → bytes_for (get_or s 0 0) (kinds_of x) (values_of (kinds_of x) (drop 1 s)) ≡ s
  unfolding bytes_for
  read_bytes s x eight bytes found filler =
      let ks : List Kind = kinds_of x in
      let row = known table fit (get_or s 0 0) x found in
      let r : List ℕ = drop 1 s in
      let long : length r ≡ 7 = simp length-drop (omega arith) in
      let each : (n : ℕ) → get_or r n 0 < 256 = λ n. rw get_or-drop (bytes (1 + n)) in
      let fields : fields_of ks (values_of ks r) ≡ take (sizes_of ks) r =
      fields_back ks r (omega (arith, row.small)) each in
      let after : drop x.length s ≡ drop (sizes_of ks) r = at_length (sizes_of ks) x.length row.filled s in
      let left : length (drop (sizes_of ks) r) ≡ 7 - sizes_of ks = rw (length-drop (sizes_of ks) r, long) in
      let rest : drop (sizes_of ks) r ≡ replicate (7 - sizes_of ks) 255 =
      filled _ (sym (ap all_filler after) ∙ filler) ∙ ap (λ (n : ℕ). replicate n 255) left in
      let cut : get_or s 0 0 ∷ r ≡ s = sym (drop-cons s 0 0 (omega arith)) in
      rw (fields, ← rest, take-append-drop (sizes_of ks) r) cut

  -- The group that was read is one that was written.
  read_wrote : (s t : List ℕ) (g : Group) → ((n : ℕ) → get_or s n 0 < 256) → length t ≡ 8 → Read s g → Wrote g t s
  unfolding group_from
  read_wrote s t g bytes eight r =
      let x : Row = r.row in
      let wrote : (h : Group) → Type 0 = λ h. row_allows x (values h) ≡ true → Wrote h t s in
      subst wrote r.group
      (λ fine. record {
        row = x;
        eight = eight;
        found = r.found;
        fine = fine;
        bytes = read_bytes s x r.eight bytes r.found r.filler;
      }) r.fine

pub round_trips : (table : List Row) → Fits table → RoundTrips table
round_trips table fit =
    record {
      read_written = λ g s t h. let w = write_parts table fit g s t h in
          let r = bytes_read table fit g w.row w.found w.fine in
          subst (λ (u : List ℕ). read_in table u ≡ accepted g) w.bytes (read_whole table fit _ g r);
      written_read = λ s g bytes h t eight.
          write_whole table fit g t s (read_wrote table fit s t g bytes eight (read_parts table fit s g h));
    }

-- So they do by document 01's table.
pub rows_round_trip : RoundTrips rows
rows_round_trip = round_trips rows rows_fit
