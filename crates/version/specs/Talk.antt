-- The calls of a talker: which trigger a call is, and what the table's entry does.
use Rattle.std.specs.Prelude.{ℕ, Bool, true, false, List, [], eqb, leb, ltb, Some, None}
use Rattle.std.specs.declared.option.Option.{Option}
use Rattle.frame.specs.Choice.{pick}
use Rattle.frame.specs.Count.{increment_of}
use Rattle.frame.specs.Result.{Result, accepted, refused}
use Rattle.version.specs.List.{version_of, placed, is_list, ListOutcome, Accepted, Refused, highest, find, find_below}
use Rattle.version.specs.Message.{read_of}
use Rattle.version.specs.Table.{Trigger, connected, period_due, success_other, success_below2, success2, failure_heard, continue_same, continue_lower, continue_higher, continue_none, greeted, stopped, limit_due, Entry, nothing, opens, repeats, resumes, settles_below2, settles, fails, accepts, stays, lowers, leaves, cell_of}
use Rattle.version.specs.Told.{Told, quiet, agreed, failed, left, silently, refusing, saying, moved, unsaid, own_version}
use Rattle.version.specs.declared.Message.{Message}
use Rattle.version.specs.declared.Side.{Side}
use Rattle.version.specs.declared.Side.TheVariants.{Charger, Vehicle}
use Rattle.version.specs.declared.State.{State}
use Rattle.version.specs.declared.State.TheVariants.{S0, S1, S2, S3, S4, S5}
use Rattle.version.specs.declared.Talker.{Talker}
use Rattle.version.specs.declared.Verdict.{Verdict}
use Rattle.version.specs.declared.Verdict.TheVariants.{Continue, Success, Failure}
use Rattle.version.specs.declared.Versions.{Versions}

-- a talker of a side with a list and a control-pilot byte: S0, Ns at the highest version, the
-- result continue
abbrev pub fresh : Side → Versions → ℕ → Talker
fresh side versions control =
    record {
      side = side;
      versions = versions;
      control = control;
      state = S0;
      place = highest versions;
      verdict = Continue;
      period = 0;
      age = 0;
      timing = false;
    }

-- Refusals, by place, version list: a talker is made of a list and of nothing else, as it is given
unfoldable pub make_of : Side → Versions → ℕ → Result Talker
make_of side versions control = pick (is_list versions) (accepted (fresh side versions control)) (refused 11)

-- the same, with a talker beside a refusal too, as C has it: where it is refused, a charger with no versions and control-pilot
-- byte 0
pub record Made : Type 0 where
  pub talker : Talker
  pub outcome : ListOutcome

abbrev pub made_of : Result Talker → Made
made_of (accepted t) = record { talker = t; outcome = Accepted }
made_of (refused number) = record { talker = fresh Charger (placed []) 0; outcome = Refused number }

-- a place that was found, else the place where Ns is
abbrev pub place_or : Option ℕ → ℕ → ℕ
place_or None place = place
place_or (Some n) place = n

-- the vehicle's S3 keeps T1 running (持续发送“协商成功”); the charger's closes it
abbrev pub keeps_timing : Side → Bool
keeps_timing Charger = false
keeps_timing Vehicle = true

-- the talker in S1, with a result and at a place of its list, its timers as they are
abbrev pub pointed : Talker → Verdict → ℕ → Talker
pointed t verdict place = moved t S1 verdict place t.period t.age false

-- What each entry does. Entering S2, S3 or S4 sends that state's message at once, in the same call
-- (Around the transport, version talk). A new state starts T1 and Tout0 anew; S2 to S5 have closed
-- them but for the vehicle's T1 in S3.
abbrev pub opening : Talker → Told
opening t = saying (moved t S1 Continue t.place 0 0 false) quiet

abbrev pub repeating : Talker → Told
repeating t = saying (moved t t.state t.verdict t.place 0 t.age t.timing) quiet

abbrev pub resuming : Talker → Told
resuming t = silently (pointed t Continue t.place)

abbrev pub settling : Talker → State → Bool → Told
settling t state timing =
    saying (moved t state Success t.place 0 0 timing) (agreed (own_version t))

abbrev pub failing : Talker → Told
failing t = saying (moved t S4 Failure t.place 0 0 false) failed

abbrev pub accepting : Talker → ℕ → Told
accepting t version =
    silently (pointed t Success (place_or (find t.versions version) t.place))

abbrev pub lowering : Talker → ℕ → Told
lowering t version =
    silently (pointed t t.verdict (place_or (find_below t.versions version) t.place))

abbrev pub leaving : Talker → Told
leaving t = unsaid (moved t S5 t.verdict t.place 0 0 false) left

-- by the entry, with the version heard
unfoldable pub doing : Talker → ℕ → Entry → Told
doing t version nothing = silently t
doing t version opens = opening t
doing t version repeats = repeating t
doing t version resumes = resuming t
doing t version settles_below2 = settling t S2 false
doing t version settles = settling t S3 (keeps_timing t.side)
doing t version fails = failing t
doing t version accepts = accepting t version
doing t version stays = silently t
doing t version lowers = lowering t version
doing t version leaves = leaving t

-- a trigger, looked up in the talker's table
abbrev pub triggered : Talker → ℕ → Trigger → Told
triggered t version trigger = doing t version (cell_of t.side t.state trigger)

-- the physical connection is complete; a fault, or the other side opens its switch; the old
-- protocol's greeting (CHM)
unfoldable pub connect_of : Talker → Told
connect_of t = triggered t 0 connected

unfoldable pub stop_of : Talker → Told
stop_of t = triggered t 0 stopped

unfoldable pub greet_of : Talker → Told
greet_of t = triggered t 0 greeted

-- table 9, S3: the charger's supported functions close T1 and Tout0
-- (收到“充电机支持功能”后关闭T1和Tout0)
abbrev pub closed : Talker → Talker
closed t = moved t t.state t.verdict t.place 0 0 false

unfoldable pub functions_state : Talker → State → Told
functions_state t S0 = silently t
functions_state t S1 = silently t
functions_state t S2 = silently t
functions_state t S3 = silently (closed t)
functions_state t S4 = silently t
functions_state t S5 = silently t

unfoldable pub functions_heard_of : Talker → Told
functions_heard_of t = functions_state t t.state

-- a success heard and consistent: below 2.0.0 is S2's column, 2.0.0 and above S3's
abbrev pub agreed_trigger : ℕ → Trigger
agreed_trigger version = pick (ltb version (version_of 2 0 0)) success_below2 success2

-- Around the transport ("A success heard"): a message that names the version at Ns is consistent
unfoldable pub success_trigger : Talker → ℕ → Trigger
success_trigger t version = pick (eqb version (own_version t)) (agreed_trigger version) success_other

-- a version below the one heard: there is one, or none
abbrev pub higher_trigger : Option ℕ → Trigger
higher_trigger None = continue_none
higher_trigger (Some n) = continue_higher

-- Around the transport ("a heard continue"): a version from anywhere in the own list is the same. Any
-- other is held against the version at Ns, which is the lower one or else the higher.
unfoldable pub else_trigger : Talker → ℕ → Trigger
else_trigger t version =
    pick (ltb (own_version t) version) continue_lower (higher_trigger (find_below t.versions version))

abbrev pub continue_at : Talker → ℕ → Option ℕ → Trigger
continue_at t version None = else_trigger t version
continue_at t version (Some n) = continue_same

unfoldable pub continue_trigger : Talker → ℕ → Trigger
continue_trigger t version = continue_at t version (find t.versions version)

unfoldable pub heard_trigger : Talker → ℕ → Verdict → Trigger
heard_trigger t version Continue = continue_trigger t version
heard_trigger t version Success = success_trigger t version
heard_trigger t version Failure = failure_heard

-- Refusals, by place, message: 10, before the state is looked at
unfoldable pub hear_judged : Talker → Result Message → Told
hear_judged t (accepted m) = triggered t m.version (heard_trigger t m.version m.verdict)
hear_judged t (refused number) = refusing t number

unfoldable pub hear_of : Talker → List ℕ → Told
hear_of t bytes = hear_judged t (read_of bytes)

-- T1 and Tout0 a tick, which is 1 ms, later
abbrev pub next_period : Talker → ℕ
next_period t = increment_of t.period

abbrev pub next_age : Talker → ℕ
next_age t = increment_of t.age

-- T1 is due every 50 ms, Tout0 15 s after the first message
abbrev pub period_is_due : Talker → Bool
period_is_due t = leb 50 (next_period t)

abbrev pub limit_is_due : Talker → Bool
limit_is_due t = leb 15000 (next_age t)

-- T1 and Tout0 at these ticks
abbrev pub aged : Talker → ℕ → ℕ → Talker
aged t period age = moved t t.state t.verdict t.place period age t.timing

-- S1, before the limit
abbrev pub tick_period : Talker → Told
tick_period t =
    pick (period_is_due t) (triggered (aged t t.period (next_age t)) 0 period_due)
    (silently (aged t (next_period t) (next_age t)))

-- S1: a tick at which both are due is Tout0's alone (Around the transport, "At one tick")
unfoldable pub tick_talking : Talker → Told
tick_talking t = pick (limit_is_due t) (triggered t 0 limit_due) (tick_period t)

-- S3 with T1 running: T1 alone; the merged row has no transition at 15 s
abbrev pub tick_timing : Talker → Told
tick_timing t =
    pick (period_is_due t) (triggered t 0 period_due) (silently (aged t (next_period t) t.age))

unfoldable pub tick_settled : Talker → Told
tick_settled t = pick t.timing (tick_timing t) (silently t)

-- by the state: T1 and Tout0 run in S1, T1 in the vehicle's S3, nothing elsewhere
unfoldable pub tick_state : Talker → State → Told
tick_state t S0 = silently t
tick_state t S1 = tick_talking t
tick_state t S2 = silently t
tick_state t S3 = tick_settled t
tick_state t S4 = silently t
tick_state t S5 = silently t

unfoldable pub tick_of : Talker → Told
tick_of t = tick_state t t.state
