-- A case view of tables 8 and 9 of 001: what a cell of either table may say, by its row and column.
-- A proof about every call of a talker matches on it, on one side's S1 row and on three cells
-- beside, and not on the 156 cells.
-- Assumes nothing.
use Rattle.version.specs.Table.{Trigger, connected, period_due, success_other, success_below2, success2, failure_heard, continue_same, continue_lower, continue_higher, continue_none, greeted, stopped, limit_due, Entry, nothing, opens, repeats, fails, charger_s0, charger_s1, vehicle_s0, vehicle_s1, vehicle_s3, cell_of}
use Rattle.version.specs.declared.Side.{Side}
use Rattle.version.specs.declared.Side.TheVariants.{Charger, Vehicle}
use Rattle.version.specs.declared.State.{State}
use Rattle.version.specs.declared.State.TheVariants.{S0, S1, S2, S3, S4, S5}

pub data Cell : State → Trigger → Entry → Type 0 where
  -- "-", or a row with no transition: nothing is done. In S1 only the charger's greeting is such a
  -- cell: table 8 has no such column.
  rests : {state : State} {k : Trigger} → Cell state k nothing
  -- S1: table 8 says what table 9 says, the greeting apart
  negotiates : {k : Trigger} → Cell S1 k (vehicle_s1 k)
  -- S0, 物理连接完成: both tables send continue and enter S1
  starts : Cell S0 connected opens
  -- S0, 接收 CHM, table 9: the vehicle enters S4
  declines : Cell S0 greeted fails
  -- S3, T1 到时, table 9: the vehicle goes on sending success
  goes_on : Cell S3 period_due repeats

charger_s0_lem : (k : Trigger) → Cell S0 k (charger_s0 k)
charger_s0_lem connected = starts
charger_s0_lem period_due = rests
charger_s0_lem success_other = rests
charger_s0_lem success_below2 = rests
charger_s0_lem success2 = rests
charger_s0_lem failure_heard = rests
charger_s0_lem continue_same = rests
charger_s0_lem continue_lower = rests
charger_s0_lem continue_higher = rests
charger_s0_lem continue_none = rests
charger_s0_lem greeted = rests
charger_s0_lem stopped = rests
charger_s0_lem limit_due = rests

charger_s1_lem : (k : Trigger) → Cell S1 k (charger_s1 k)
charger_s1_lem connected = negotiates
charger_s1_lem period_due = negotiates
charger_s1_lem success_other = negotiates
charger_s1_lem success_below2 = negotiates
charger_s1_lem success2 = negotiates
charger_s1_lem failure_heard = negotiates
charger_s1_lem continue_same = negotiates
charger_s1_lem continue_lower = negotiates
charger_s1_lem continue_higher = negotiates
charger_s1_lem continue_none = negotiates
charger_s1_lem greeted = rests
charger_s1_lem stopped = negotiates
charger_s1_lem limit_due = negotiates

vehicle_s0_lem : (k : Trigger) → Cell S0 k (vehicle_s0 k)
vehicle_s0_lem connected = starts
vehicle_s0_lem period_due = rests
vehicle_s0_lem success_other = rests
vehicle_s0_lem success_below2 = rests
vehicle_s0_lem success2 = rests
vehicle_s0_lem failure_heard = rests
vehicle_s0_lem continue_same = rests
vehicle_s0_lem continue_lower = rests
vehicle_s0_lem continue_higher = rests
vehicle_s0_lem continue_none = rests
vehicle_s0_lem greeted = declines
vehicle_s0_lem stopped = rests
vehicle_s0_lem limit_due = rests

vehicle_s3_lem : (k : Trigger) → Cell S3 k (vehicle_s3 k)
vehicle_s3_lem connected = rests
vehicle_s3_lem period_due = goes_on
vehicle_s3_lem success_other = rests
vehicle_s3_lem success_below2 = rests
vehicle_s3_lem success2 = rests
vehicle_s3_lem failure_heard = rests
vehicle_s3_lem continue_same = rests
vehicle_s3_lem continue_lower = rests
vehicle_s3_lem continue_higher = rests
vehicle_s3_lem continue_none = rests
vehicle_s3_lem greeted = rests
vehicle_s3_lem stopped = rests
vehicle_s3_lem limit_due = rests

-- every cell of either table is one of these
pub cell_is : (side : Side) (state : State) (k : Trigger) → Cell state k (cell_of side state k)
cell_is Charger S0 k = charger_s0_lem k
cell_is Charger S1 k = charger_s1_lem k
cell_is Charger S2 k = rests
cell_is Charger S3 k = rests
cell_is Charger S4 k = rests
cell_is Charger S5 k = rests
cell_is Vehicle S0 k = vehicle_s0_lem k
cell_is Vehicle S1 k = negotiates
cell_is Vehicle S2 k = rests
cell_is Vehicle S3 k = vehicle_s3_lem k
cell_is Vehicle S4 k = rests
cell_is Vehicle S5 k = rests
