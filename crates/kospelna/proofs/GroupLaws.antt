-- What is written flat of the groups is read back, and the other way round.
-- Assumes nothing.
use Prim.Native.Nat.{ℕ, zero, suc, ◌≤◌}
use mathlib.Core.List.{List, [], ◌∷◌}
use mathlib.Core.Path.{◌≡◌, refl, ap}
use native.Mathlib.Omega.{arith}
use lib.ListN.{get_or}
use Rattle.frame.proofs.Choice.{pick_elim}
use Rattle.frame.specs.Choice.{pick}
use Rattle.frame.specs.Result.{Result, accepted, refused}
use Rattle.groups.specs.Reading.{judged, read_row, read_by, read_in, read_of}
use Rattle.groups.specs.Table.{rows, find_in, find_of}
use Rattle.groups.specs.Writing.{Outcome, outcome, write_row, write_by, write_in, write_of}
use Rattle.groups.specs.declared.Group.{Group}
use Rattle.groups.specs.declared.Row.{Row}
use Rattle.groups.specs.declared.Sender.{Sender}
use Rattle.groups.specs.declared.Sender.TheVariants.{Charger, Vehicle}
use Rattle.kospelna.specs.Group.{group_in, group_out, no_group, reading_out, reading_in, ReadingMade, writing_out, writing_in, Written, written, written_out, written_in, side_number, side_in, row_out, row_in, no_row, finding_out, finding_in, FindingMade, GroupWhole}
use Rattle.kospelna.specs.Refusals.{result_from, Numbered}
use Rattle.kospelna.proofs.Refusals.{result_back, result_made, number_again, value_again}
use Rattle.kospelna.specs.declared.group.FlatGroup.{FlatGroup}
use Rattle.kospelna.specs.declared.group.FlatGroupReading.{FlatGroupReading}
use Rattle.kospelna.specs.declared.group.FlatGroupWriting.{FlatGroupWriting}
use Rattle.kospelna.specs.declared.group.FlatGroupRow.{FlatGroupRow}
use Rattle.kospelna.specs.declared.group.FlatGroupFinding.{FlatGroupFinding}

-- groups: every value, both ways
pub group_read : (g : Group) → group_in (group_out g) ≡ g
group_read g = refl

pub group_written : (f : FlatGroup) → group_out (group_in f) ≡ f
group_written f = refl

-- answers: every value comes back; a flat answer that writing makes comes back; and writing makes no others
pub reading_read : (r : Result Group) → Numbered r → reading_in (reading_out r) ≡ r
reading_read = result_back group_out group_in no_group group_read

pub reading_made : (r : Result Group) → Numbered r → ReadingMade (reading_out r)
reading_made = result_made group_out no_group (λ (g : FlatGroup). Unit) (λ g. tt)

pub reading_written : (f : FlatGroupReading) → ReadingMade f → reading_out (reading_in f) ≡ f
reading_written f made =
    rw (
      number_again group_in f.refusal f.group,
      value_again group_out group_in no_group (λ (g : FlatGroup). Unit) (λ g h. group_written g) f.refusal f.group made,
    )

pub writing_read : (r : Result Unit) → Numbered r → writing_in (writing_out r) ≡ r
unfolding result_from
writing_read (accepted u) h = refl
writing_read (refused zero) h = absurd (omega arith)
writing_read (refused (suc n)) h = refl

-- every number is one that writing makes
pub writing_written : (f : FlatGroupWriting) → writing_out (writing_in f) ≡ f
unfolding result_from
writing_written f = go f.refusal
  where
    go : (n : ℕ) → writing_out (writing_in (record { refusal = n })) ≡ record { refusal = n }
    go zero = refl
    go (suc n) = refl

-- with the lent bytes
pub written_read : (o : Outcome) → Numbered o.answer → written_in (written_out o) ≡ o
written_read o h = ap (λ (a : Result Unit). outcome a o.bytes) (writing_read o.answer h)

pub written_written : (w : Written) → written_out (written_in w) ≡ w
written_written w = ap (λ (f : FlatGroupWriting). written f w.bytes) (writing_written w.answer)

-- rows, whose side is 0 or 1
side_read : (s : Sender) → side_in (side_number s) ≡ s
unfolding pick
side_read Charger = refl
side_read Vehicle = refl

side_made : (s : Sender) → side_number s ≤ 1
side_made Charger = omega arith
side_made Vehicle = omega arith

side_written : (n : ℕ) → n ≤ 1 → side_number (side_in n) ≡ n
unfolding pick
side_written zero h = refl
side_written (suc zero) h = refl
side_written (suc (suc n)) h = absurd (omega arith)

pub row_read : (x : Row) → row_in (row_out x) ≡ x
row_read x = rw (side_read x.sender)

pub row_written : (f : FlatGroupRow) → f.side ≤ 1 → row_out (row_in f) ≡ f
row_written f h = rw (side_written f.side h)

pub finding_read : (r : Result Row) → Numbered r → finding_in (finding_out r) ≡ r
finding_read = result_back row_out row_in no_row row_read

pub finding_made : (r : Result Row) → Numbered r → FindingMade (finding_out r)
finding_made = result_made row_out no_row (λ (x : FlatGroupRow). x.side ≤ 1) (λ x. side_made x.sender)

pub finding_written : (f : FlatGroupFinding) → FindingMade f → finding_out (finding_in f) ≡ f
finding_written f made =
    rw (
      number_again row_in f.refusal f.row,
      value_again row_out row_in no_row (λ (x : FlatGroupRow). x.side ≤ 1) row_written f.refusal f.row made,
    )

-- no refusal is numbered 0
find_numbered : (code : ℕ) (table : List Row) → Numbered (find_in code table)
unfolding find_in
find_numbered code [] = omega arith
find_numbered code (x ∷ rest) = pick_elim Numbered _ (λ e. tt) (λ e. find_numbered code rest)

pub finding_numbered : (code : ℕ) → Numbered (find_of code)
finding_numbered code = find_numbered code rows

pub reading_numbered : (s : List ℕ) → Numbered (read_of s)
unfolding read_in read_by read_row judged
reading_numbered s =
    pick_elim Numbered _
    (λ e. by_row (find_in (get_or s 0 0) rows) (find_numbered (get_or s 0 0) rows))
    (λ e. omega arith)
  where
    by_row : (r : Result Row) → Numbered r → Numbered (read_by s (get_or s 0 0) r)
    by_row (accepted x) h = pick_elim Numbered _ (λ e. pick_elim Numbered _ (λ e. tt) (λ e. omega arith)) (λ e. omega arith)
    by_row (refused n) h = h

pub writing_numbered : (g : Group) (s : List ℕ) → Numbered (write_of g s).answer
unfolding write_in write_by write_row
writing_numbered g s =
    pick_elim Known _ (λ e. by_row (find_in g.code rows) (find_numbered g.code rows)) (λ e. omega arith)
  where
    Known : Outcome → Type 0
    Known o = Numbered o.answer

    by_row : (r : Result Row) → Numbered r → Known (write_by g s r)
    by_row (accepted x) h = pick_elim Known _ (λ e. tt) (λ e. omega arith)
    by_row (refused n) h = h

pub group_whole : GroupWhole
group_whole = (
  λ s. reading_read (read_of s) (reading_numbered s),
  λ g s. written_read (write_of g s) (writing_numbered g s),
  λ code. finding_read (find_of code) (finding_numbered code),
)
