-- The parameter groups' flat structs: what each stands for, in both directions. Document 01, Around the transport, Groups;
-- Refusals, parameter group.
use Rattle.std.specs.Prelude.{ℕ, ◌≤◌, false, List, ◌≡◌, eqb}
use Rattle.frame.specs.Choice.{pick}
use Rattle.frame.specs.Result.{Result, refusal_of}
use Rattle.groups.specs.Reading.{read_of}
use Rattle.groups.specs.Table.{find_of}
use Rattle.groups.specs.Writing.{Outcome, outcome, write_of}
use Rattle.groups.specs.declared.Group.{Group}
use Rattle.groups.specs.declared.Row.{Row}
use Rattle.groups.specs.declared.Sender.{Sender}
use Rattle.groups.specs.declared.Sender.TheVariants.{Charger, Vehicle}
use Rattle.kospelna.specs.Refusals.{result_from, value_of, Made}
use Rattle.kospelna.specs.declared.group.FlatGroup.{FlatGroup}
use Rattle.kospelna.specs.declared.group.FlatGroupReading.{FlatGroupReading}
use Rattle.kospelna.specs.declared.group.FlatGroupWriting.{FlatGroupWriting}
use Rattle.kospelna.specs.declared.group.FlatGroupRow.{FlatGroupRow}
use Rattle.kospelna.specs.declared.group.FlatGroupFinding.{FlatGroupFinding}

-- a group, field by field
abbrev pub group_in : FlatGroup → Group
group_in f = record { code = f.code; first = f.first; second = f.second; third = f.third; fourth = f.fourth }

abbrev pub group_out : Group → FlatGroup
group_out g = record { code = g.code; first = g.first; second = g.second; third = g.third; fourth = g.fourth }

-- what reading answers: the refusal's number, 0 where there is none, and the group, zeros where refused
abbrev pub no_group : FlatGroup
no_group = record { code = 0; first = 0; second = 0; third = 0; fourth = 0 }

abbrev pub reading_out : Result Group → FlatGroupReading
reading_out r = record { refusal = refusal_of r; group = value_of group_out no_group r }

abbrev pub reading_in : FlatGroupReading → Result Group
reading_in f = result_from group_in f.refusal f.group

-- the flat answers that writing makes
abbrev pub ReadingMade : FlatGroupReading → Type 0
ReadingMade f = Made (λ (g : FlatGroup). Unit) no_group f.refusal f.group

-- what writing answers: the refusal's number, 0 where there is none
abbrev pub writing_out : Result Unit → FlatGroupWriting
writing_out r = record { refusal = refusal_of r }

abbrev pub writing_in : FlatGroupWriting → Result Unit
writing_in f = result_from (λ (u : Unit). u) f.refusal tt

-- that answer and the lent bytes together
pub record Written : Type 0 where
  pub answer : FlatGroupWriting
  pub bytes : List ℕ

abbrev pub written : FlatGroupWriting → List ℕ → Written
written answer bytes = record { answer = answer; bytes = bytes }

abbrev pub written_out : Outcome → Written
written_out o = written (writing_out o.answer) o.bytes

abbrev pub written_in : Written → Outcome
written_in w = outcome (writing_in w.answer) w.bytes

-- the side that sends a group: 0 the charger, 1 the vehicle; any other number is read as 0
abbrev pub side_number : Sender → ℕ
side_number Charger = 0
side_number Vehicle = 1

abbrev pub side_in : ℕ → Sender
side_in n = pick (eqb n 1) Vehicle Charger

-- a row of the table of groups
abbrev pub row_out : Row → FlatGroupRow
row_out x =
    record {
      code = x.code;
      length = x.length;
      side = side_number x.sender;
      reliable = x.reliable;
      first = x.first;
      second = x.second;
      third = x.third;
      fourth = x.fourth;
    }

abbrev pub row_in : FlatGroupRow → Row
row_in f =
    record {
      code = f.code;
      length = f.length;
      sender = side_in f.side;
      reliable = f.reliable;
      first = f.first;
      second = f.second;
      third = f.third;
      fourth = f.fourth;
    }

-- what looking for a code answers: the refusal's number, 0 where there is none, and the row, zeros where refused
abbrev pub no_row : FlatGroupRow
no_row = record { code = 0; length = 0; side = 0; reliable = false; first = 0; second = 0; third = 0; fourth = 0 }

abbrev pub finding_out : Result Row → FlatGroupFinding
finding_out r = record { refusal = refusal_of r; row = value_of row_out no_row r }

abbrev pub finding_in : FlatGroupFinding → Result Row
finding_in f = result_from row_in f.refusal f.row

abbrev pub FindingMade : FlatGroupFinding → Type 0
FindingMade f = Made (λ (x : FlatGroupRow). x.side ≤ 1) no_row f.refusal f.row

-- Theorem: nothing is lost. A caller reads off each answer what document 01 has there.
abbrev pub GroupWhole : Type 0
GroupWhole =
    ((s : List ℕ) → reading_in (reading_out (read_of s)) ≡ read_of s)
    × ((g : Group) (s : List ℕ) → written_in (written_out (write_of g s)) ≡ write_of g s)
    × ((code : ℕ) → finding_in (finding_out (find_of code)) ≡ find_of code)
