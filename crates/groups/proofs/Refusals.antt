-- A refused call on groups has number 9 or 10, and a refused write leaves the lent bytes. By the choices of the
-- definitions, each taken on both sides: every side that refuses names its number and hands back the bytes it was given.
-- Assumes nothing.
use Prim.Native.Nat.{ℕ}
use mathlib.Core.Path.{◌≡◌, refl}
use mathlib.Core.Logic.{inl, inr}
use mathlib.Core.List.{List, [], ◌∷◌}
use lib.ListN.{get_or}
use Rattle.frame.proofs.Choice.{pick_elim}
use Rattle.frame.specs.Result.{Result, accepted, refused}
use Rattle.groups.specs.Reading.{judged, read_row, read_by, read_in}
use Rattle.groups.specs.Refusals.{GroupRefusal, Refusals}
use Rattle.groups.specs.Table.{rows, find_in}
use Rattle.groups.specs.Writing.{Outcome, write_row, write_by, write_in}
use Rattle.groups.specs.declared.Group.{Group}
use Rattle.groups.specs.declared.Row.{Row}

-- what holds of every row, and of refusal 9, holds of what is found
find_elim : (P : Result Row → Type 0) (code : ℕ) (table : List Row) → ((x : Row) → P (accepted x)) → P (refused 9)
    → P (find_in code table)
unfolding find_in
find_elim P code [] row none = none
find_elim P code (x ∷ rest) row none = pick_elim P _ (λ at. row x) (λ other. find_elim P code rest row none)

pub find_numbered : (code : ℕ) (table : List Row) (n : ℕ) → find_in code table ≡ refused n → n ≡ 9
find_numbered code table n =
    find_elim (λ (r : Result Row). r ≡ refused n → n ≡ 9) code table (λ x. λ e. cc) (λ e. cc)

-- ---- reading

module _ (n : ℕ) where
  abbrev Numbered : Result Group → Type 0
  Numbered r = r ≡ refused n → GroupRefusal n

  read_numbered : (table : List Row) (s : List ℕ) → Numbered (read_in table s)
  unfolding read_in read_by read_row judged
  read_numbered table s =
      pick_elim Numbered _
      (λ eight. find_elim (λ (r : Result Row). Numbered (read_by s (get_or s 0 0) r)) (get_or s 0 0) table
      (λ x. pick_elim Numbered _
      (λ filler. pick_elim Numbered _ (λ fine. λ e. cc) (λ bad. λ e. inr cc))
      (λ dirty. λ e. inl cc))
      (λ e. inl cc))
      (λ other. λ e. inl cc)

-- ---- writing

module _ (n : ℕ) (s : List ℕ) where
  abbrev Left : Outcome → Type 0
  Left o = o.answer ≡ refused n → GroupRefusal n × (o.bytes ≡ s)

  write_left : (table : List Row) (g : Group) → Left (write_in table g s)
  unfolding write_in write_by write_row
  write_left table g =
      pick_elim Left _
      (λ eight. find_elim (λ (r : Result Row). Left (write_by g s r)) g.code table
      (λ x. pick_elim Left _ (λ fine. λ e. cc) (λ bad. λ e. (inr cc, refl)))
      (λ e. (inl cc, refl)))
      (λ other. λ e. (inl cc, refl))

pub refusals : Refusals
refusals =
    record {
      find = λ code number. find_numbered code rows number;
      read = λ bytes number. read_numbered number rows bytes;
      write = λ g bytes number. write_left number bytes rows g;
    }
