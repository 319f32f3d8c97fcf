-- The two tables. Source document 001, table H.2 (which end sends a group, and whether its receipt is confirmed), tables
-- H.3 to H.11 (each group's fields); document 01, Around the transport, Groups (lengths, senders, reliability, marks).
use Rattle.std.specs.Prelude.{ℕ, ◌≤◌, Bool, true, false, List, [], ◌∷◌, eqb}
use Rattle.frame.specs.Choice.{pick}
use Rattle.frame.specs.Result.{Result, accepted, refused}
use Rattle.groups.specs.declared.Kind.{Kind}
use Rattle.groups.specs.declared.Row.{Row}
use Rattle.groups.specs.declared.Width.{Width}
use Rattle.groups.specs.declared.Width.TheVariants.{None, Byte, Word}
use Rattle.groups.specs.declared.Sender.{Sender}
use Rattle.groups.specs.declared.Sender.TheVariants.{Charger, Vehicle}

-- the numbers of the kinds of fields; 0 where a group has no field
abbrev pub absent : ℕ
absent = 0

abbrev pub ready : ℕ
ready = 1

abbrev pub voltage : ℕ
voltage = 2

abbrev pub current : ℕ
current = 3

abbrev pub mode : ℕ
mode = 4

abbrev pub charge : ℕ
charge = 5

abbrev pub minutes : ℕ
minutes = 6

abbrev pub reason : ℕ
reason = 7

abbrev pub cell : ℕ
cell = 8

abbrev pub temp : ℕ
temp = 9

abbrev pub pause : ℕ
pause = 10

-- A line of the table of kinds: number, width, lowest and highest value as they stand in the bytes, and two values that
-- are allowed besides. Where there are none of these, or one, the lowest value stands in their place.
abbrev pub Line : Type 0
Line = ℕ × Kind

abbrev kind : ℕ → Width → ℕ → ℕ → ℕ → ℕ → Line
kind number width low high mark other =
    (number, record { width = width; low = low; high = high; mark = mark; other = other })

-- The kinds of fields, each under its name in 001 ("parameter type").
unfoldable pub kinds : List Line
kinds =
    -- ReadyType: 0x00 not ready, 0x01 ready (H.3 row 2, H.4 row 2)
    kind ready Byte 0x00 0x01 0 0
    -- VoltageType: 0 V to 6500.0 V, 0.1 V a step (H.4 row 3, H.5 row 2, H.8 row 2)
    ∷ kind voltage Word 0 65000 0 0
    -- CurrentType: 0 A to 6500.0 A, 0.1 A a step (H.5 row 3, H.7 row 2, H.8 row 3)
    ∷ kind current Word 0 65000 0 0
    -- ChargeModeType: 0x01 constant current, 0x02 constant voltage (H.5 row 4)
    ∷ kind mode Byte 0x01 0x02 0x01 0x01
    -- SOCType: 0 % to 100.0 %, 0.1 % a step (H.6 row 2)
    ∷ kind charge Word 0 1000 0 0
    -- MTime1Type: 0 min to 65000 min, 1 min a step (H.6 row 3)
    ∷ kind minutes Word 0 65000 0 0
    -- ReasonType: 0x00 no change, 0x01 the grid, 0x02 the charger, 0xFF other (H.7 row 3)
    ∷ kind reason Byte 0x00 0x02 0xFF 0x00
    -- VoltageType2: 0 V to 650.00 V, 0.01 V a step, 0xFFFE abnormal, 0xFFFF invalid (H.9 rows 2 and 3)
    ∷ kind cell Word 0 65000 0xFFFE 0xFFFF
    -- TempType: -50 °C to 200 °C, 1 °C a step from -50 °C on, 0xFE abnormal, 0xFF invalid (H.9 rows 4 and 5)
    ∷ kind temp Byte 0 250 0xFE 0xFF
    -- PauseStatusType: 0x00 resume, 0xAA pause (H.10 row 2, H.11 row 2)
    ∷ kind pause Byte 0x00 0x00 0xAA 0x00
    ∷ []

-- whether the receipt of a group is confirmed (H.2, "message type")
abbrev reliable : Bool
reliable = true

abbrev unreliable : Bool
unreliable = false

-- A row of the table of groups: code, length in bytes with the code's, sender, reliable or not, and the kinds of up to four
-- fields.
abbrev row : ℕ → ℕ → Sender → Bool → ℕ → ℕ → ℕ → ℕ → Row
row code length sender confirmed first second third fourth =
    record {
      code = code;
      length = length;
      sender = sender;
      reliable = confirmed;
      first = first;
      second = second;
      third = third;
      fourth = fourth;
    }

-- The numbers of a row are 0 or of kinds, of which the last is the highest.
pub record IsNumbered (x : Row) : Type 0 where
  pub first : x.first ≤ pause
  pub second : x.second ≤ pause
  pub third : x.third ≤ pause
  pub fourth : x.fourth ≤ pause

-- The groups: document 01, Around the transport, Groups, for code, length, sender and reliability; 001, tables H.3 to H.11,
-- for the fields and their order.
unfoldable pub rows : List Row
rows =
    -- H.3 the charger is ready
    row 0x71 2 Charger unreliable ready absent absent absent
    -- H.4 the vehicle is ready
    ∷ row 0x72 4 Vehicle unreliable ready voltage absent absent
    -- H.5 what the vehicle asks for
    ∷ row 0x73 6 Vehicle unreliable voltage current mode absent
    -- H.6 the vehicle's charging
    ∷ row 0x74 5 Vehicle unreliable charge minutes absent absent
    -- H.7 what the charger can give
    ∷ row 0x75 4 Charger unreliable current reason absent absent
    -- H.8 the charger's charging
    ∷ row 0x76 5 Charger unreliable voltage current absent absent
    -- H.9 the vehicle's battery: highest and lowest voltage, highest and lowest temperature
    ∷ row 0x77 7 Vehicle unreliable cell cell temp temp
    -- H.10 the charger pauses
    ∷ row 0x78 2 Charger reliable pause absent absent absent
    -- H.11 the vehicle pauses
    ∷ row 0x79 2 Vehicle reliable pause absent absent absent
    ∷ []

-- the kind with a number; of a number that no kind has, no byte, and the value 0
abbrev pub no_field : Kind
no_field = record { width = None; low = 0; high = 0; mark = 0; other = 0 }

unfoldable pub kind_in : ℕ → List Line → Kind
kind_in number [] = no_field
kind_in number (line ∷ rest) = pick (eqb line.0 number) line.1 (kind_in number rest)

unfoldable pub kind_at : ℕ → Kind
kind_at number = kind_in number kinds

-- the first row of a table with a code. Refusals, parameter group: 9 where there is none.
unfoldable pub find_in : ℕ → List Row → Result Row
find_in code [] = refused 9
find_in code (x ∷ rest) = pick (eqb x.code code) (accepted x) (find_in code rest)

abbrev pub find_of : ℕ → Result Row
find_of code = find_in code rows
