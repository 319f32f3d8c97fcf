-- The states that making and calls bring a receiver to, what holds of them, and that in them the definitions' tests and
-- counts are those of documents 01 and 02: `EveryReachable`, proved in `proofs/Reachable.antt`.
use Rattle.std.specs.Prelude.{ℕ, ◌+◌, ◌-◌, ◌*◌, ◌≤◌, ◌<◌, Bool, true, false, ◌≡◌, List, eqb, leb}
use Rattle.frame.specs.Result.{accepted}
use Rattle.frame.specs.Count.{frame_count_of, increment_of}
use Rattle.frame.specs.Frames.{carried}
use Rattle.frame.specs.declared.Frame.{Frame}
use Rattle.receiver.specs.Hear.{hear_of}
use Rattle.receiver.specs.Hold.{hold_of, resume_of}
use Rattle.receiver.specs.Make.{make_of}
use Rattle.receiver.specs.Tick.{tick_of}
use Rattle.receiver.specs.Window.{window_of}
use Rattle.receiver.specs.declared.Connection.{Connection}
use Rattle.receiver.specs.declared.Misses.{Misses}
use Rattle.receiver.specs.declared.Misses.TheVariants.{NoneAfterAck, OneAfterAck, TwoAfterAck, NoneAfterFrame, OneAfterFrame}
use Rattle.receiver.specs.declared.Phase.{Phase}
use Rattle.receiver.specs.declared.Phase.TheVariants.{Idle, Done, Open}
use Rattle.receiver.specs.declared.Receiver.{Receiver}
use Rattle.receiver.specs.declared.Settings.{Settings}

-- a receiver that making answered, and what a tick, a hold, a resume, or a hearing of any frame with any buffer, leaves
-- of a reachable one
pub data Reachable : Receiver → Type 0 where
  new : {r : Receiver} (timeout window capacity : ℕ) → make_of timeout window capacity ≡ accepted r → Reachable r
  ticked : {r : Receiver} → Reachable r → Reachable (tick_of r).next
  held : {r : Receiver} → Reachable r → Reachable (hold_of r).next
  resumed : {r : Receiver} → Reachable r → Reachable (resume_of r).next
  hearing : {r : Receiver} → Reachable r → (f : Frame) (buffer : List ℕ) → Reachable (hear_of r f buffer).told.next

-- The receiver, "Settings": the limits
pub record SettingsWithin (s : Settings) : Type 0 where
  pub timeout_low : 1 ≤ s.timeout
  pub timeout_high : s.timeout ≤ 10000
  pub window_low : 1 ≤ s.window
  pub window_high : s.window ≤ 255
  pub capacity_low : 9 ≤ s.capacity
  pub capacity_high : s.capacity ≤ 1785

-- an N and an L that were announced and had space
pub record Announced (s : Settings) (frames length : ℕ) : Type 0 where
  pub long : 9 ≤ length
  pub space : length ≤ s.capacity
  pub fits : frames ≡ frame_count_of length
  pub byte : frames ≤ 255

-- document 02, E4: a wait after a frame, and a timeout after one, come after an accepted frame; and the wait while held is one
-- after an LM_ACK
abbrev pub MissesWithin : Misses → ℕ → Bool → Type 0
MissesWithin NoneAfterAck expected mark = Unit
MissesWithin OneAfterAck expected mark = Unit
MissesWithin TwoAfterAck expected mark = Unit
MissesWithin NoneAfterFrame expected mark = (2 ≤ expected) × (mark ≡ false)
MissesWithin OneAfterFrame expected mark = 2 ≤ expected

-- an open connection: 1 ≤ e ≤ w ≤ N, w at most e + C − 1, short of T and of the 21st held timeout; it is held only where a
-- frame has been accepted
pub record OpenWithin (s : Settings) (x : Connection) : Type 0 where
  pub announced : Announced s x.frames x.length
  pub first : 1 ≤ x.expected
  pub inside : x.expected ≤ x.last
  pub final : x.last ≤ x.frames
  pub window : x.last ≤ x.expected + s.window - 1
  pub waits : x.wait < s.timeout
  pub held_timeouts : x.holds ≤ 20
  pub begun : x.held ≡ true → 2 ≤ x.expected
  pub typed : MissesWithin x.misses x.expected x.held

abbrev pub PhaseWithin : Settings → Phase → Type 0
PhaseWithin s Idle = Unit
PhaseWithin s (Done x) = Announced s x.frames x.length
PhaseWithin s (Open x) = OpenWithin s x

pub record Within (r : Receiver) : Type 0 where
  pub settings : SettingsWithin r.settings
  pub phase : PhaseWithin r.settings r.phase

-- What the definitions do in another way than the documents say, for the sake of states that no calls make, is the same
-- in a state within: no count is cut, "at least" is "at", no difference is cut, and what is stored lies inside L.
pub record Exact (r : Receiver) (x : Connection) : Type 0 where
  -- "wait grows by 1"
  pub wait : increment_of x.wait ≡ x.wait + 1
  -- "At T"
  pub due : leb r.settings.timeout (increment_of x.wait) ≡ eqb (x.wait + 1) r.settings.timeout
  -- document 02, E2, "where a 21st would fall due"
  pub twenty_first : leb 21 (x.holds + 1) ≡ eqb (x.holds + 1) 21
  -- E2, "LM_ACK e − 1, 1", while held (a hold itself tests e): the start is a frame's number, one below e
  pub before : x.held ≡ true → (1 ≤ x.expected - 1) × (x.expected - 1 + 1 ≡ x.expected)
  -- "LM_ACK e, w − e + 1": of the window now, asked for again, and of the next
  pub count : x.last - (x.expected - 1) ≡ x.last + 1 - x.expected
  pub again : x.expected ≤ window_of r.settings x.expected x.frames
  pub next : x.expected < x.frames → x.expected + 1 ≤ window_of r.settings (x.expected + 1) x.frames
  -- "its message bytes": at least one, and none past L; the last frame's end at L
  pub some : 1 ≤ carried x.expected x.length
  pub part : 7 * (x.expected - 1) + carried x.expected x.length ≤ x.length
  pub whole : 7 * (x.frames - 1) + carried x.frames x.length ≡ x.length
  -- document 02, E3: every frame before the last is full, so that nothing in it could be unclean
  pub full : x.expected < x.frames → carried x.expected x.length ≡ 7

-- the claim: every receiver that making and calls bring about is within, and where it has an open connection, exact
abbrev pub EveryReachable : Type 0
EveryReachable = (r : Receiver) → Reachable r → Within r × ((x : Connection) → r.phase ≡ Open x → Exact r x)
