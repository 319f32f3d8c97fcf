-- Where a clean transfer of m can stand, by the frame that is next: both ends, both lines, whose tick is next, and what has
-- been seen since the begin. Every clean call leads from one stage to another.
-- Assumes nothing.
use Prim.Native.Nat.{ℕ, ◌+◌, ◌-◌, ◌*◌, ◌≤◌, ◌<◌}
use mathlib.Core.Bool.{Bool, true, false, false≢true}
use mathlib.Core.Path.{◌≡◌, refl}
use mathlib.Core.List.{List, [], ◌∷◌, ◌++◌}
use lib.ListN.{length, take}
use Rattle.frame.specs.Frames.{announcement_of, end_of_ack_of}
use Rattle.frame.specs.declared.Frame.{Frame}
use Rattle.receiver.proofs.View.{receiver_in}
use Rattle.receiver.specs.Window.{window_ack}
use Rattle.receiver.specs.declared.Misses.{Misses}
use Rattle.receiver.specs.declared.Misses.TheVariants.{NoneAfterAck}
use Rattle.receiver.specs.declared.Phase as receiver-phase
use Rattle.receiver.specs.declared.Phase.TheVariants as at
use Rattle.receiver.specs.declared.Settings as receiver-settings
use Rattle.sender.specs.Tick.{information_at}
use Rattle.sender.specs.Told as sender
use Rattle.sender.specs.declared.Phase.{Phase}
use Rattle.sender.specs.declared.Phase.TheVariants.{Idle, Sending}
use Rattle.sender.specs.declared.Settings.{Settings}
use Rattle.delivery.proofs.CleanReceives.{connected, done_phase}
use Rattle.delivery.proofs.CleanSends.{announced_phase, streamed, awaited_phase, out_phase, Awaits}
use Rattle.delivery.proofs.Stages.{sender_in, frames_of}
use Rattle.delivery.specs.Clean.{Turn, anyone, senders, receivers, turn_by, reports_of}
use Rattle.delivery.specs.Seen.{taken, Begun, since, begun_after, listened, sort_of}
use Rattle.transport.specs.Step.{Stepped}
use Rattle.transport.specs.World.{World}

-- the conditions on the settings and on m, as far as they are needed: the sender's T is not, since no tick finds it waiting
pub record Clear (st : Settings) (rs : receiver-settings.Settings) (m : List ℕ) : Type 0 where
  pub long : 8 < length m
  pub fits : length m ≤ 1785
  pub space : length m ≤ rs.capacity
  pub gap : 1 ≤ st.gap
  pub gaps : st.gap ≤ 10
  pub window : 1 ≤ rs.window
  pub patient : st.gap < rs.timeout
  pub timeouts : rs.timeout ≤ 10000
  pub in_time : frames_of m * st.gap < st.limit
  pub limits : st.limit ≤ 60000

-- the receiver has waited no longer than the sender, or a tick longer where it ticked last
abbrev pub Paced : Turn → ℕ → ℕ → Type 0
Paced anyone gap wait = wait ≤ gap
Paced senders gap wait = wait ≤ gap + 1
Paced receivers gap wait = wait ≤ gap

-- the buffer holds the bytes of the frames before this one
pub record Filled (m : List ℕ) (number : ℕ) (buffer : List ℕ) : Type 0 where
  pub size : length buffer ≡ 1785
  pub before : take (7 * (number - 1)) buffer ≡ take (7 * (number - 1)) m

-- a frame of a window that was asked for from start on
pub record Inside (m : List ℕ) (start number last : ℕ) : Type 0 where
  pub first : 1 ≤ number
  pub asked : start ≤ number
  pub inside : number ≤ last
  pub final : last ≤ frames_of m

-- the receiver heard a frame in a step
abbrev pub listens : Stepped → Bool
listens x = listened x.event.given x.event.receiver

module _ (st : Settings) (rs : receiver-settings.Settings) (m : List ℕ) where
  abbrev pub world_at : Phase → receiver-phase.Phase → List Frame → List Frame → List ℕ → World
  world_at p q forward back buffer =
      record { sender = sender_in st p; receiver = receiver_in rs q; forward = forward; back = back; buffer = buffer }

  -- frame number of a window is next, for both ends
  abbrev pub sends_world : ℕ → ℕ → ℕ → ℕ → ℕ → ℕ → Misses → List Frame → List Frame → List ℕ → World
  sends_world ticks start number last gap wait misses forward back buffer =
      world_at (Sending (streamed m ticks start number last gap)) (at.Open (connected m number last wait misses)) forward back buffer

  abbrev pub announcement : Frame
  announcement = announcement_of (frames_of m) (length m)

  abbrev pub end_of_ack : Frame
  end_of_ack = end_of_ack_of (frames_of m) (length m)

  -- the report of the clean figures
  abbrev pub clean_report : sender.Outcome
  clean_report = sender.sent (frames_of m * st.gap) (frames_of m + 1)

  module _ (repeats : Bool) where
    -- ---- what is on a line though it has been heard, where frames may be repeated

    -- a frame that was kept
    pub data Kept (f : Frame) : List Frame → Type 0 where
      none : Kept f []
      kept : repeats ≡ true → Kept f (f ∷ [])

    -- copies of an answer
    pub data Repeated (f : Frame) : List Frame → Type 0 where
      none : Repeated f []
      more : {fs : List Frame} → repeats ≡ true → Repeated f fs → Repeated f (f ∷ fs)

    -- on forward, where frame number of a window that starts at start is next, after so many ticks of the gap: the frame before
    -- it, or the announcement
    pub data Passed : ℕ → ℕ → ℕ → List Frame → Type 0 where
      none : {start number gap : ℕ} → Passed start number gap []
      announced : repeats ≡ true → Passed 1 1 0 (announcement ∷ [])
      informed : {start before gap : ℕ} → repeats ≡ true → 1 ≤ before
          → Passed start (before + 1) gap (information_at before m ∷ [])

    -- on back, copies of that window's LM_ACK
    pub data Answered : ℕ → ℕ → ℕ → ℕ → List Frame → Type 0 where
      none : {start number last gap : ℕ} → Answered start number last gap []
      more : {number last : ℕ} {fs : List Frame}
          → repeats ≡ true
          → Answered number number last 0 fs
          → Answered number number last 0 (window_ack number last ∷ fs)

    -- ---- the world, whose tick is next, what was seen since the begin, and the sender's reports

    pub data Stage : World → Turn → Begun → List sender.Outcome → Type 0 where
      -- the announcement is on its way
      opens : {buffer : List ℕ}
          → length buffer ≡ 1785
          → Stage (world_at (announced_phase m) at.Idle (announcement ∷ []) [] buffer) anyone (since m 0 0 []) []
      -- the LM_ACK of a window is
      asks : {turn : Turn} {ticks number last : ℕ} {p : Phase} {forward back : List Frame} {buffer : List ℕ}
          → Awaits m ticks number last turn p
          → Inside m number number last
          → Filled m number buffer
          → ticks + st.gap ≡ number * st.gap + 0
          → Passed number number 0 forward
          → Answered number number last 0 back
          → Stage (world_at p (at.Open (connected m number last 0 NoneAfterAck)) forward (window_ack number last ∷ back) buffer)
          turn (since m ticks 0 []) []
      -- a frame of the window is next
      sends : {turn : Turn} {ticks start number last gap wait : ℕ} {misses : Misses} {forward back : List Frame} {buffer : List ℕ}
          → Inside m start number last
          → Filled m number buffer
          → gap < st.gap
          → Paced turn gap wait
          → ticks + st.gap ≡ number * st.gap + gap
          → Passed start number gap forward
          → Answered start number last gap back
          → Stage (sends_world ticks start number last gap wait misses forward back buffer) turn (since m ticks 0 []) []
      -- it is on its way
      sent : {ticks start number last wait : ℕ} {misses : Misses} {buffer : List ℕ}
          → Inside m start number last
          → Filled m number buffer
          → ticks ≡ number * st.gap
          → Stage
          (world_at (out_phase m ticks start number last) (at.Open (connected m number last wait misses)) (information_at number m ∷ []) []
          buffer)
          receivers (since m ticks 0 []) []
      -- it was the message's last, and the EndofACK is on its way
      ends : {ticks start last : ℕ} {forward back : List Frame} {buffer : List ℕ}
          → length buffer ≡ 1785
          → ticks ≡ frames_of m * st.gap
          → Kept (information_at (frames_of m) m) forward
          → Repeated end_of_ack back
          → Stage
          (world_at (awaited_phase m ticks start (frames_of m) last) (done_phase m) forward (end_of_ack ∷ back) buffer)
          receivers (since m ticks 0 (m ∷ [])) []
      -- sent has been reported
      over : {turn : Turn} {ticks : ℕ} {forward back : List Frame} {buffer : List ℕ}
          → length buffer ≡ 1785
          → frames_of m * st.gap ≤ ticks
          → Kept (information_at (frames_of m) m) forward
          → Repeated end_of_ack back
          → Stage (world_at Idle (done_phase m) forward back buffer) turn (since m ticks 1 (m ∷ [])) (clean_report ∷ [])

    -- the stage after a call, by what was seen before it
    pub record After (x : Stepped) (turn : Turn) (b : Begun) (reports : List sender.Outcome) : Type 0 where
      pub stage :
          Stage x.world (turn_by (sort_of x.event.call) (taken x.event.sender) turn) (begun_after x.event b)
          (reports_of x.event.sender ++ reports)

  -- ---- where none is repeated, nothing that was heard is on a line

  pub none_kept : {f : Frame} {fs : List Frame} → Kept false f fs → fs ≡ []
  none_kept Kept.none = refl
  none_kept (kept e) = absurd (false≢true e)

  pub none_repeated : {f : Frame} {fs : List Frame} → Repeated false f fs → fs ≡ []
  none_repeated Repeated.none = refl
  none_repeated (Repeated.more e _) = absurd (false≢true e)

  pub none_passed : {start number gap : ℕ} {fs : List Frame} → Passed false start number gap fs → fs ≡ []
  none_passed Passed.none = refl
  none_passed (announced e) = absurd (false≢true e)
  none_passed (informed e _) = absurd (false≢true e)

  pub none_answered : {start number last gap : ℕ} {fs : List Frame} → Answered false start number last gap fs → fs ≡ []
  none_answered Answered.none = refl
  none_answered (Answered.more e _) = absurd (false≢true e)
