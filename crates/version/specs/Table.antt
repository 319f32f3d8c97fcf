-- 001, tables 8 (charger, 充电机状态转换表) and 9 (vehicle, 车辆状态转换表), cell by cell. A column is a trigger
-- (触发条件), a row a state (状态), and an entry what the cell says is done.
use Rattle.version.specs.declared.Side.{Side}
use Rattle.version.specs.declared.Side.TheVariants.{Charger, Vehicle}
use Rattle.version.specs.declared.State.{State}
use Rattle.version.specs.declared.State.TheVariants.{S0, S1, S2, S3, S4, S5}
use Rattle.version.specs.declared.table.Entry as entry-enum
use Rattle.version.specs.declared.table.Entry.TheVariants as entry-variants
use Rattle.version.specs.declared.table.Trigger as trigger-enum
use Rattle.version.specs.declared.table.Trigger.TheVariants as trigger-variants

-- the columns
pub data Trigger : Type 0 where
  -- 物理连接完成: the physical connection is complete
  connected : Trigger
  -- T1 到时: T1 is due
  period_due : Trigger
  -- 接收“协商成功”, 版本不一致: success is heard, the version is not consistent
  success_other : Trigger
  -- .. 版本一致且为 V1.1.0: consistent, V1.1.0; document 01 ("any agreed version") has every version
  -- below 2.0.0 here
  success_below2 : Trigger
  -- .. 版本一致且 ≥ V2.0.0: consistent, 2.0.0 or above
  success2 : Trigger
  -- 接收“协商失败”: failure is heard
  failure_heard : Trigger
  -- 接收“继续协商”, 有相同的版本号: continue is heard, the same version is supported
  continue_same : Trigger
  -- .. 版本低于车辆 (充电机): the own version is lower
  continue_lower : Trigger
  -- .. 版本高于车辆 (充电机), 有更低的版本号: the own version is higher, and there is a lower one
  continue_higher : Trigger
  -- .. 没有更低的版本号: and there is none
  continue_none : Trigger
  -- 接收 CHM (vehicle only): the old protocol's greeting is heard
  greeted : Trigger
  -- 故障必须中止充电或断开 S2 (S1): a fault, or the other side opens its switch
  stopped : Trigger
  -- Tout0 到时: Tout0 is due
  limit_due : Trigger

-- what a cell says
pub data Entry : Type 0 where
  -- "-": nothing is done
  nothing : Entry
  -- 发送“继续协商”, 打开 T1、Tout0, 进入 S1: send continue with the version at Ns, start T1 and Tout0, enter
  -- S1
  opens : Entry
  -- 发送版本协商, 重置 T1, 保持 S1: send the version at Ns, reset T1, stay
  repeats : Entry
  -- 协商结果=“继续协商”, 保持 S1: the result becomes continue, stay
  resumes : Entry
  -- 协商结果=“协商成功”, 进入 S2: the result becomes success, enter S2
  settles_below2 : Entry
  -- 协商结果=“协商成功”, 进入 S3: the result becomes success, enter S3
  settles : Entry
  -- 进入 S4: enter S4
  fails : Entry
  -- 协商结果=“协商成功”, Ns 指向该版本, 保持 S1: the result becomes success, Ns points at that version, stay
  accepts : Entry
  -- 保持 S1: stay
  stays : Entry
  -- 调整 Ns 指向低于期望版本中最高的版本, 保持 S1: Ns points at the highest version below the one expected, stay
  lowers : Entry
  -- 进入 S5: enter S5
  leaves : Entry

-- document 01's value for each case of a trigger
abbrev pub told_trigger : trigger-enum.Trigger → Trigger
told_trigger trigger-variants.Connected = connected
told_trigger trigger-variants.PeriodDue = period_due
told_trigger trigger-variants.SuccessOther = success_other
told_trigger trigger-variants.SuccessBelow2 = success_below2
told_trigger trigger-variants.Success2 = success2
told_trigger trigger-variants.FailureHeard = failure_heard
told_trigger trigger-variants.ContinueSame = continue_same
told_trigger trigger-variants.ContinueLower = continue_lower
told_trigger trigger-variants.ContinueHigher = continue_higher
told_trigger trigger-variants.ContinueNone = continue_none
told_trigger trigger-variants.Greeted = greeted
told_trigger trigger-variants.Stopped = stopped
told_trigger trigger-variants.LimitDue = limit_due

-- and of an entry
abbrev pub told_entry : entry-enum.Entry → Entry
told_entry entry-variants.Nothing = nothing
told_entry entry-variants.Opens = opens
told_entry entry-variants.Repeats = repeats
told_entry entry-variants.Resumes = resumes
told_entry entry-variants.SettlesBelow2 = settles_below2
told_entry entry-variants.Settles = settles
told_entry entry-variants.Fails = fails
told_entry entry-variants.Accepts = accepts
told_entry entry-variants.Stays = stays
told_entry entry-variants.Lowers = lowers
told_entry entry-variants.Leaves = leaves

-- table 8, a definition for each row. Its S0 row prints one dash too many; S2 to S5 have one merged
-- cell each, with no transition.
abbrev pub charger_s0 : Trigger → Entry
charger_s0 connected = opens
charger_s0 period_due = nothing
charger_s0 success_other = nothing
charger_s0 success_below2 = nothing
charger_s0 success2 = nothing
charger_s0 failure_heard = nothing
charger_s0 continue_same = nothing
charger_s0 continue_lower = nothing
charger_s0 continue_higher = nothing
charger_s0 continue_none = nothing
charger_s0 greeted = nothing
charger_s0 stopped = nothing
charger_s0 limit_due = nothing

abbrev pub charger_s1 : Trigger → Entry
charger_s1 connected = nothing
charger_s1 period_due = repeats
charger_s1 success_other = resumes
charger_s1 success_below2 = settles_below2
charger_s1 success2 = settles
charger_s1 failure_heard = fails
charger_s1 continue_same = accepts
charger_s1 continue_lower = stays
charger_s1 continue_higher = lowers
charger_s1 continue_none = fails
charger_s1 greeted = nothing
charger_s1 stopped = leaves
charger_s1 limit_due = fails

abbrev pub charger_cell : State → Trigger → Entry
charger_cell S0 t = charger_s0 t
charger_cell S1 t = charger_s1 t
charger_cell S2 t = nothing
charger_cell S3 t = nothing
charger_cell S4 t = nothing
charger_cell S5 t = nothing

-- table 9. S0 and S1 have the greeting's cells; S3 goes on sending success (持续发送“协商成功”).
abbrev pub vehicle_s0 : Trigger → Entry
vehicle_s0 connected = opens
vehicle_s0 period_due = nothing
vehicle_s0 success_other = nothing
vehicle_s0 success_below2 = nothing
vehicle_s0 success2 = nothing
vehicle_s0 failure_heard = nothing
vehicle_s0 continue_same = nothing
vehicle_s0 continue_lower = nothing
vehicle_s0 continue_higher = nothing
vehicle_s0 continue_none = nothing
vehicle_s0 greeted = fails
vehicle_s0 stopped = nothing
vehicle_s0 limit_due = nothing

abbrev pub vehicle_s1 : Trigger → Entry
vehicle_s1 connected = nothing
vehicle_s1 period_due = repeats
vehicle_s1 success_other = resumes
vehicle_s1 success_below2 = settles_below2
vehicle_s1 success2 = settles
vehicle_s1 failure_heard = fails
vehicle_s1 continue_same = accepts
vehicle_s1 continue_lower = stays
vehicle_s1 continue_higher = lowers
vehicle_s1 continue_none = fails
vehicle_s1 greeted = fails
vehicle_s1 stopped = leaves
vehicle_s1 limit_due = fails

abbrev pub vehicle_s3 : Trigger → Entry
vehicle_s3 connected = nothing
vehicle_s3 period_due = repeats
vehicle_s3 success_other = nothing
vehicle_s3 success_below2 = nothing
vehicle_s3 success2 = nothing
vehicle_s3 failure_heard = nothing
vehicle_s3 continue_same = nothing
vehicle_s3 continue_lower = nothing
vehicle_s3 continue_higher = nothing
vehicle_s3 continue_none = nothing
vehicle_s3 greeted = nothing
vehicle_s3 stopped = nothing
vehicle_s3 limit_due = nothing

abbrev pub vehicle_cell : State → Trigger → Entry
vehicle_cell S0 t = vehicle_s0 t
vehicle_cell S1 t = vehicle_s1 t
vehicle_cell S2 t = nothing
vehicle_cell S3 t = vehicle_s3 t
vehicle_cell S4 t = nothing
vehicle_cell S5 t = nothing

-- the cell of a side's table
abbrev pub cell_of : Side → State → Trigger → Entry
cell_of Charger state t = charger_cell state t
cell_of Vehicle state t = vehicle_cell state t
