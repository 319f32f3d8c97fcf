-- The senders that calls can make, what holds of them, and what follows for the definitions: no count is ever cut, every
-- "at least" is document 01's "at", and a frame's part of the message starts inside it. Proved in `proofs/Reachable.antt`.
use Rattle.std.specs.Prelude.{ℕ, ◌+◌, ◌-◌, ◌*◌, ◌≤◌, ◌<◌, ◌≡◌, List, eqb, leb, length}
use Rattle.frame.specs.Result.{accepted}
use Rattle.frame.specs.Count.{frame_count_of, increment_of}
use Rattle.sender.specs.Call.{Call, answer_of}
use Rattle.sender.specs.Make.{make_of}
use Rattle.sender.specs.declared.Phase.{Phase}
use Rattle.sender.specs.declared.Phase.TheVariants.{Idle, Opening, Sending, Waiting, Short}
use Rattle.sender.specs.declared.Sender.{Sender}
use Rattle.sender.specs.declared.Settings.{Settings}
use Rattle.sender.specs.declared.Streamed.{Streamed}
use Rattle.sender.specs.declared.Transfer.{Transfer}

-- a sender that making answered, and the next state of every call on a reachable one, whatever is lent or heard
pub data Reachable : Sender → Type 0 where
  fresh : {s : Sender} (gap timeout limit : ℕ) → make_of gap timeout limit ≡ accepted s → Reachable s
  called : {s : Sender} (call : Call) → Reachable s → Reachable (answer_of s call).next

-- The sender, Settings: G, T and M
pub record SettingsWithin (r : Settings) : Type 0 where
  pub gap : (1 ≤ r.gap) × (r.gap ≤ 10)
  pub timeout : (1 ≤ r.timeout) × (r.timeout ≤ 10000)
  pub limit : (1 ≤ r.limit) × (r.limit ≤ 60000)

-- the ticks are below M; a call emits one frame at most, and the begin emitted the first
pub record TransferWithin (r : Settings) (t : Transfer) : Type 0 where
  pub age : t.age < r.limit
  pub emitted : (1 ≤ t.emitted) × (t.emitted ≤ t.age + 1)

-- Frames, Lengths, what goes long; N is that of L, and so at most 255
pub record LongWithin (r : Settings) (t : Transfer) : Type 0 where
  pub counted : TransferWithin r t
  pub length : (9 ≤ t.length) × (t.length ≤ 1785)
  pub frames : (t.frames ≡ frame_count_of t.length) × (2 ≤ t.frames) × (t.frames ≤ 255)

-- Frames, Lengths, what goes short, in one frame
pub record ShortWithin (r : Settings) (t : Transfer) : Type 0 where
  pub counted : TransferWithin r t
  pub length : (1 ≤ t.length) × (t.length ≤ 8)
  pub frames : t.frames ≡ 1

-- the counts of each phase are below their limits, the numbers of its frames within 1 to N; the last start taken is at most
-- one above the frame that is sent next or was sent last (document 02, E2: after an LM_ACK of a hold)
abbrev pub PhaseWithin : Settings → Phase → Type 0
PhaseWithin r Idle = Unit
PhaseWithin r (Opening x) = LongWithin r x.transfer × (x.wait < r.timeout) × (x.misses < 3)
PhaseWithin r (Sending x) =
    LongWithin r x.transfer
    × ((1 ≤ x.start) × (x.start ≤ x.next + 1) × (x.start ≤ x.transfer.frames))
    × ((1 ≤ x.next) × (x.next ≤ x.last) × (x.last ≤ x.transfer.frames))
    × (x.gap < r.gap)
    × (x.misses < 3)
PhaseWithin r (Waiting x) =
    LongWithin r x.transfer
    × ((1 ≤ x.start) × (x.start ≤ x.last + 1) × (x.start ≤ x.transfer.frames))
    × ((1 ≤ x.last) × (x.last ≤ x.transfer.frames))
    × (x.wait < r.timeout)
    × (x.misses < 3)
PhaseWithin r (Short x) = ShortWithin r x.transfer × (x.wait < r.timeout)

pub record Within (s : Sender) : Type 0 where
  pub settings : SettingsWithin s.settings
  pub phase : PhaseWithin s.settings s.phase

-- a count that is not cut as it grows, and whose test "at least" is the test "at": age at M, wait at T, gap at G, misses at
-- the third
pub record Counts (count limit : ℕ) : Type 0 where
  pub grows : increment_of count ≡ count + 1
  pub exact : leb limit (increment_of count) ≡ eqb (count + 1) limit

-- what is said of the transfer, the wait, the misses, the window that is being sent and the frame that a tick sends, where
-- the phase has one
abbrev pub OfTransfer : Phase → (Transfer → Type 0) → Type 0
OfTransfer Idle P = Unit
OfTransfer (Opening x) P = P x.transfer
OfTransfer (Sending x) P = P x.transfer
OfTransfer (Waiting x) P = P x.transfer
OfTransfer (Short x) P = P x.transfer

abbrev pub OfWait : Phase → (ℕ → Type 0) → Type 0
OfWait Idle P = Unit
OfWait (Opening x) P = P x.wait
OfWait (Sending x) P = Unit
OfWait (Waiting x) P = P x.wait
OfWait (Short x) P = P x.wait

abbrev pub OfMisses : Phase → (ℕ → Type 0) → Type 0
OfMisses Idle P = Unit
OfMisses (Opening x) P = P x.misses
OfMisses (Sending x) P = P x.misses
OfMisses (Waiting x) P = P x.misses
OfMisses (Short x) P = Unit

abbrev pub OfSending : Phase → (Streamed → Type 0) → Type 0
OfSending Idle P = Unit
OfSending (Opening x) P = Unit
OfSending (Sending x) P = P x
OfSending (Waiting x) P = Unit
OfSending (Short x) P = Unit

abbrev pub OfFrame : Phase → (Transfer → ℕ → Type 0) → Type 0
OfFrame Idle P = Unit
OfFrame (Opening x) P = Unit
OfFrame (Sending x) P = P x.transfer x.next
OfFrame (Waiting x) P = P x.transfer x.last
OfFrame (Short x) P = Unit

-- the test of `after_frame`: the window is out exactly where its last frame was the next one
abbrev pub EndsAtLast : Streamed → Type 0
EndsAtLast x = leb x.last x.next ≡ eqb x.next x.last

-- in a message of the begun length, the only one that a tick takes, the part of this frame is not empty
abbrev pub StartsInside : Transfer → ℕ → Type 0
StartsInside t number = (message : List ℕ) → length message ≡ t.length → 7 * (number - 1) < length message

-- what holds of a sender within its limits, so that the definitions say there what document 01 says
pub record Exact (s : Sender) : Type 0 where
  pub age : OfTransfer s.phase (λ t. Counts t.age s.settings.limit)
  pub emitted : OfTransfer s.phase (λ t. increment_of t.emitted ≡ t.emitted + 1)
  pub wait : OfWait s.phase (λ wait. Counts wait s.settings.timeout)
  pub gap : OfSending s.phase (λ x. Counts x.gap s.settings.gap)
  pub misses : OfMisses s.phase (λ misses. Counts misses 3)
  pub last : OfSending s.phase EndsAtLast
  pub part : OfFrame s.phase StartsInside

-- the claim
abbrev pub EveryReachable : Type 0
EveryReachable = (s : Sender) → Reachable s → Within s × Exact s
