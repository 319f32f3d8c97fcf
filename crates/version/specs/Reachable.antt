-- The talkers that making and calls bring about, what holds of them, and that for them the
-- definitions' counts and tests are those of tables 8 and 9. `proofs/Reachable.antt` proves both, and
-- `proofs/Tight.antt` that no bound is too wide.
use Rattle.std.specs.Prelude.{ℕ, ◌+◌, ◌≤◌, ◌<◌, ◌≡◌, Bool, true, false, eqb}
use Rattle.frame.specs.Result.{accepted}
use Rattle.version.specs.Calls.{Call, answer_of}
use Rattle.version.specs.List.{version_of, is_list, highest}
use Rattle.version.specs.Message.{named, read_of}
use Rattle.version.specs.Talk.{make_of, next_period, next_age, period_is_due, limit_is_due}
use Rattle.version.specs.Told.{own_version, own_message}
use Rattle.version.specs.declared.Side.{Side}
use Rattle.version.specs.declared.Side.TheVariants.{Vehicle}
use Rattle.version.specs.declared.State.{State}
use Rattle.version.specs.declared.State.TheVariants.{S0, S1, S2, S3, S4, S5}
use Rattle.version.specs.declared.Talker.{Talker}
use Rattle.version.specs.declared.Verdict.TheVariants.{Continue, Success, Failure}
use Rattle.version.specs.declared.Versions.{Versions}

-- a talker that making answered, and the next state of every call on a reachable one, whatever is
-- heard
pub data Reachable : Talker → Type 0 where
  made : {t : Talker} (side : Side) (versions : Versions) (control : ℕ)
      → make_of side versions control ≡ accepted t
      → Reachable t
  called : {t : Talker} (c : Call) → Reachable t → Reachable (answer_of t c).next

-- T1 and Tout0 stand still at 0
abbrev pub Closed : Talker → Type 0
Closed t = (t.period ≡ 0) × (t.age ≡ 0) × (t.timing ≡ false)

-- S3: only the vehicle's T1 runs on, and one that does not is at 0
abbrev pub Timing : Side → ℕ → Bool → Type 0
Timing side period true = side ≡ Vehicle
Timing side period false = period ≡ 0

-- by the state: the result that its messages carry, where Ns is, and which timers run. S2 was agreed
-- on a version below 2.0.0, S3 on another.
abbrev pub StateWithin : Talker → State → Type 0
StateWithin t S0 = (t.verdict ≡ Continue) × (t.place ≡ highest t.versions) × Closed t
StateWithin t S1 = (t.verdict ≡ Failure → ⊥) × (t.timing ≡ false)
StateWithin t S2 = (t.verdict ≡ Success) × (own_version t < version_of 2 0 0) × Closed t
StateWithin t S3 =
    (t.verdict ≡ Success)
    × (version_of 2 0 0 ≤ own_version t)
    × (t.age ≡ 0)
    × Timing t.side t.period t.timing
StateWithin t S4 = (t.verdict ≡ Failure) × Closed t
StateWithin t S5 = (t.verdict ≡ Failure → ⊥) × Closed t

-- T1 and Tout0 have not come to their limits
abbrev pub PeriodWithin : ℕ → Type 0
PeriodWithin period = period < 50

abbrev pub AgeWithin : ℕ → Type 0
AgeWithin age = age < 15000

-- its versions are a list, Ns is a place of it, and the rest is by its state
pub record Within (t : Talker) : Type 0 where
  pub versions : is_list t.versions ≡ true
  pub place : t.place < t.versions.count
  pub period : PeriodWithin t.period
  pub age : AgeWithin t.age
  pub state : StateWithin t t.state

-- what the definitions do in another way, so that they have a meaning for every talker that a caller
-- can write down, is for these talkers what the tables say
pub record Exact (t : Talker) : Type 0 where
  -- T1 and Tout0 grow by one tick and are not cut
  pub grows : next_period t ≡ t.period + 1
  pub ages : next_age t ≡ t.age + 1
  -- T1 is due at tick 50 and Tout0 at tick 15000: "at least" is "at"
  pub due : period_is_due t ≡ eqb (t.period + 1) 50
  pub over : limit_is_due t ≡ eqb (t.age + 1) 15000
  -- its message has the whole version, and is read as it was meant; a failure names FF FF FF
  pub read : read_of (own_message t)
      ≡ accepted
      (record { verdict = t.verdict; version = named t.verdict (own_version t); control = t.control })

-- the claim
abbrev pub EveryReachable : Type 0
EveryReachable = (t : Talker) → Reachable t → Within t × Exact t

-- every bound is met, so none of them can be tighter: 49 and 14999 ticks after connecting, and Ns at
-- the last place
pub record Reached (P : Talker → Type 0) : Type 0 where
  pub talker : Talker
  pub reachable : Reachable talker
  pub holds : P talker

pub record Tight : Type 0 where
  pub place : Reached (λ t. t.place + 1 ≡ t.versions.count)
  pub period : Reached (λ t. t.period ≡ 49)
  pub age : Reached (λ t. t.age ≡ 14999)
