-- Where a transfer can stand: the sender's phase, the receiver's, what both lists hold, and what has been delivered.
use Prim.Native.Nat.{ℕ, ◌-◌, ◌*◌, ◌≤◌, ◌<◌}
use mathlib.Core.Bool.{Bool, true, false}
use mathlib.Core.List.{List, [], ◌∷◌}
use mathlib.Core.Path.{◌≡◌, refl}
use native.Mathlib.Nat.{add-zero}
use lib.ListN.{length, take}
use Rattle.frame.specs.Count.{frame_count_of}
use Rattle.frame.specs.Frames.{announcement_of, lm_ack_of, lm_nack_of, end_of_ack_of, sm_rm_of, sm_ack_of, fill_to}
use Rattle.frame.specs.declared.Frame.{Frame}
use Rattle.receiver.specs.declared.Connection.{Connection}
use Rattle.receiver.specs.declared.Delivery.{Delivery}
use Rattle.receiver.specs.declared.Phase as receiver-phase
use Rattle.receiver.specs.declared.Phase.TheVariants as at
use Rattle.receiver.specs.declared.Receiver.{Receiver}
use Rattle.sender.specs.Tick.{information_at}
use Rattle.sender.specs.declared.Announced.{Announced}
use Rattle.sender.specs.declared.Awaited.{Awaited}
use Rattle.sender.specs.declared.Phase.{Phase}
use Rattle.sender.specs.declared.Phase.TheVariants.{Idle, Opening, Sending, Waiting, Short}
use Rattle.sender.specs.declared.Sender.{Sender}
use Rattle.sender.specs.declared.Settings.{Settings}
use Rattle.sender.specs.declared.Single.{Single}
use Rattle.sender.specs.declared.Streamed.{Streamed}
use Rattle.sender.specs.declared.Transfer.{Transfer}
use Rattle.delivery.proofs.Lines.{Line, Ordered}
use Rattle.receiver.proofs.View.{Shut}
use Rattle.delivery.specs.Demand3.{Copies, HadReport}
use Rattle.delivery.specs.Seen.{Begun, since, further}

abbrev pub sender_in : Settings → Phase → Sender
sender_in st p = record { settings = st; phase = p }

-- what was seen since the begin, and nothing more
pub further_none : (b : Begun) → further b 0 0 [] ≡ b
further_none Begun.never = refl
further_none (since message ticks reports deliveries) = rw (add-zero ticks, add-zero reports) refl

-- ---- the frames of a transfer of m

abbrev pub frames_of : List ℕ → ℕ
frames_of m = frame_count_of (length m)

-- the announcement
pub data Announces (m : List ℕ) : Frame → Type 0 where
  announces : {f : Frame} → f ≡ announcement_of (frames_of m) (length m) → Announces m f

-- an information frame
pub data Carries (m : List ℕ) : Frame → Type 0 where
  carries : (number : ℕ) → 1 ≤ number → number ≤ frames_of m → Carries m (information_at number m)

-- an N and an L that are not m's
abbrev pub Other : List ℕ → ℕ → ℕ → Type 0
Other m frames l = frames ≡ frames_of m → l ≡ length m → ⊥

-- what no Opening sender goes on with: a refusal by the receiver, or a later window; a refusal or an acknowledgement; that, or
-- the end of a transfer of m; that, or the end of another
pub data Declines : Frame → Type 0 where
  refuses : (cause : ℕ) → Declines (lm_nack_of cause)
  later : (start count : ℕ) → (start ≡ 1 → ⊥) → Declines (lm_ack_of start count)

pub data Replies : Frame → Type 0 where
  grants : (start count : ℕ) → Replies (lm_ack_of start count)
  refuses : (cause : ℕ) → Replies (lm_nack_of cause)

pub data Closes (m : List ℕ) : Frame → Type 0 where
  replies : {f : Frame} → Replies f → Closes m f
  ends : {f : Frame} → f ≡ end_of_ack_of (frames_of m) (length m) → Closes m f

pub data Strays (m : List ℕ) : Frame → Type 0 where
  replies : {f : Frame} → Replies f → Strays m f
  ends : (frames l : ℕ) → Other m frames l → l ≤ 1785 → Strays m (end_of_ack_of frames l)

-- what the sender adds to forward: while Opening the announcement, later an information frame
pub data Adds (m : List ℕ) : Bool → Frame → Type 0 where
  announcement : {f : Frame} → Announces m f → Adds m true f
  information : {f : Frame} → Carries m f → Adds m false f

-- ---- a long transfer of m

-- the sender keeps m's N and L, and has counted n ticks
pub record Keeps (m : List ℕ) (t : Transfer) (n : ℕ) : Type 0 where
  pub long : t.length ≡ length m
  pub many : t.frames ≡ frames_of m
  pub old : t.age ≡ n

-- the sender is Opening (true), or Sending or Waiting with a window within 1 to N
pub data Moving (m : List ℕ) (n : ℕ) : Bool → Phase → Type 0 where
  opening : {x : Announced} → Keeps m x.transfer n → Moving m n true (Opening x)
  sending : {x : Streamed}
      → Keeps m x.transfer n
      → 1 ≤ x.next
      → x.next ≤ x.last
      → x.last ≤ frames_of m
      → Moving m n false (Sending x)
  waiting : {x : Awaited} → Keeps m x.transfer n → 1 ≤ x.last → x.last ≤ frames_of m → Moving m n false (Waiting x)

-- the receiver is open for an earlier transfer, past its first frame and not held
abbrev pub Early : receiver-phase.Phase → Type 0
Early at.Idle = ⊥
Early (at.Done y) = ⊥
Early (at.Open x) = (1 < x.expected) × (x.held ≡ false)

-- The receiver has forgotten every earlier delivery, and holds the first bytes of m if it is open; or it is open for an
-- earlier transfer of another N or L.
pub data Halfway (m : List ℕ) : receiver-phase.Phase → List ℕ → Type 0 where
  closed : {buffer : List ℕ} → Halfway m at.Idle buffer
  opened : {x : Connection} {buffer : List ℕ}
      → x.frames ≡ frames_of m
      → x.length ≡ length m
      → 1 ≤ x.expected
      → x.expected ≤ frames_of m
      → take (7 * (x.expected - 1)) buffer ≡ take (7 * (x.expected - 1)) m
      → Halfway m (at.Open x) buffer
  stray : {x : Connection} {buffer : List ℕ} → Other m x.frames x.length → x.length ≤ 1785 → Halfway m (at.Open x) buffer

-- Lax: a begin may find a connection open, and no hold is accepted; where it is empty, no stage is early.
-- early: the receiver is still at an earlier transfer, past its first frame, and hears announcements only, which it ignores.
-- fresh: it is shut and has not opened since the begin. asked: it has opened for m, or stands at the first frame of an earlier
-- transfer, and the sender has not taken up its LM_ACK. going: the sender has; every announcement stands before every
-- information frame, so that none follows the last frame. there: m has been delivered, and no announcement is left to open
-- again. lost: frames of m have ended an earlier transfer of another N or L, and no announcement is left, so that m is never
-- acknowledged.
pub data Stage (Lax : Type 0) (m : List ℕ) : Bool → receiver-phase.Phase → (forward back : List Frame) → List ℕ → List (List ℕ) → Type 0 where
  early : {p : receiver-phase.Phase} {forward back : List Frame} {buffer : List ℕ}
      → Lax
      → Early p
      → Line (Announces m) forward
      → Line Declines back
      → Stage Lax m true p forward back buffer []
  fresh : {p : receiver-phase.Phase} {forward back : List Frame} {buffer : List ℕ}
      → Shut p
      → Line (Announces m) forward
      → Line Declines back
      → Stage Lax m true p forward back buffer []
  asked : {p : receiver-phase.Phase} {forward back : List Frame} {buffer : List ℕ}
      → Halfway m p buffer
      → Line (Announces m) forward
      → Line Replies back
      → Stage Lax m true p forward back buffer []
  going : {p : receiver-phase.Phase} {forward back : List Frame} {buffer : List ℕ}
      → Halfway m p buffer
      → Ordered (Announces m) (Carries m) forward
      → Line Replies back
      → Stage Lax m false p forward back buffer []
  there : {forward back : List Frame} {buffer : List ℕ}
      → Line (Carries m) forward
      → Line (Closes m) back
      → Stage Lax m false (at.Done (record { frames = frames_of m; length = length m })) forward back buffer (m ∷ [])
  lost : {y : Delivery} {forward back : List Frame} {buffer : List ℕ} {ds : List (List ℕ)}
      → Other m y.frames y.length
      → y.length ≤ 1785
      → Line (Carries m) forward
      → Line (Strays m) back
      → Stage Lax m false (at.Done y) forward back buffer ds

-- ---- a short transfer of m

-- the sender is Short with m's length, and has counted n ticks
pub data Lone (m : List ℕ) (n : ℕ) : Phase → Type 0 where
  lone : {x : Single} → x.transfer.length ≡ length m → x.transfer.age ≡ n → Lone m n (Short x)

-- every SM_ACK came after a delivery; the other frames are those of an earlier transfer
pub data Echoes (deliveries : List (List ℕ)) : Frame → Type 0 where
  echoes : (first : ℕ) → 1 ≤ length deliveries → Echoes deliveries (sm_ack_of first)
  replies : {f : Frame} → Replies f → Echoes deliveries f

pub data Repeats (m : List ℕ) : Frame → Type 0 where
  repeats : Repeats m (sm_rm_of m)

-- ---- the world as a whole

-- the sender, the receiver, the lists and the buffer, beside what has been seen since the last accepted begin
pub data Live (Lax : Type 0) (st : Settings) : Sender → Receiver → (forward back : List Frame) → List ℕ → Begun → Type 0 where
  resting : {r : Receiver} {forward back : List Frame} {buffer : List ℕ} {b : Begun}
      → HadReport b
      → Live Lax st (sender_in st Idle) r forward back buffer b
  long : {m : List ℕ} {n : ℕ} {is_opening : Bool} {p : Phase} {r : Receiver} {forward back : List Frame} {buffer : List ℕ} {ds : List (List ℕ)}
      → 8 < length m
      → length m ≤ 1785
      → n < st.limit
      → Moving m n is_opening p
      → Stage Lax m is_opening r.phase forward back buffer ds
      → Live Lax st (sender_in st p) r forward back buffer (since m n 0 ds)
  short : {m : List ℕ} {n : ℕ} {p : Phase} {r : Receiver} {forward back : List Frame} {buffer : List ℕ} {ds : List (List ℕ)}
      → length m ≤ 8
      → n < st.limit
      → Lone m n p
      → Line (Repeats m) forward
      → Line (Echoes ds) back
      → Copies (fill_to 8 m) ds
      → Live Lax st (sender_in st p) r forward back buffer (since m n 0 ds)
