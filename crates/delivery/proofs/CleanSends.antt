-- What the sender answers in a clean transfer of m, call by call: every count is below its limit but the gap's, and each
-- frame heard is the one that its phase awaits or, where frames are repeated, one that it has heard already.
-- Assumes nothing.
use Prim.Native.Nat.{ℕ, ◌+◌, ◌-◌, ◌≤◌, ◌<◌}
use mathlib.Core.Bool.{false}
use mathlib.Core.Path.{◌≡◌, refl}
use mathlib.Core.List.{List}
use native.Mathlib.Omega.{arith}
use borrow.Author.Tests.{le-leb, lt-leb, le-ltb, eq-eqb, ne_eqb}
use lib.Dec.{leb}
use lib.ListN.{length, get_or}
use Rattle.frame.proofs.Laws.{increment_is, word_whole}
use Rattle.frame.specs.Choice.{pick}
use Rattle.frame.specs.Frames.{announcement_of, lm_ack_of, end_of_ack_of, blank_of}
use Rattle.frame.specs.Reading.{read_of, named_of, all_filler}
use Rattle.receiver.specs.Window.{window_ack}
use Rattle.sender.specs.Begin.{begin_of, begin_phase, begin_idle, begin_long}
use Rattle.sender.specs.Hear.{hear_of, hear_read, hear_kind, hear_ack, ack_opening, ack_window, window_last, taking, hear_end, if_whole}
use Rattle.sender.specs.Tick.{information_at, unless_over, at_limit, after_frame, tick_sending, tick_phase, lent_to, tick_of}
use Rattle.sender.specs.Told.{silently, emitting, closing, sent}
use Rattle.sender.specs.declared.Phase.{Phase}
use Rattle.sender.specs.declared.Phase.TheVariants.{Idle, Opening, Sending, Waiting}
use Rattle.sender.specs.declared.Settings.{Settings}
use Rattle.sender.specs.declared.Streamed.{Streamed}
use Rattle.sender.specs.declared.Transfer.{Transfer}
use Rattle.delivery.proofs.Stages.{sender_in, frames_of}
use Rattle.delivery.specs.Clean.{Turn, anyone, receivers}

-- ---- the phases of a clean transfer: no miss is ever counted

-- so many ticks and frames since the begin
abbrev transfer_at : List ℕ → ℕ → ℕ → Transfer
transfer_at m ticks frames =
    record { length = length m; frames = frames_of m; first = get_or m 0 0; age = ticks; emitted = frames }

-- the announcement has gone out
abbrev pub announced_phase : List ℕ → Phase
announced_phase m = Opening (record { transfer = transfer_at m 0 1; wait = 0; misses = 0 })

-- frame number of a window is next, after so many ticks of the gap; as many frames as its number are out
abbrev pub streamed : List ℕ → ℕ → ℕ → ℕ → ℕ → ℕ → Streamed
streamed m ticks start number last gap =
    record { transfer = transfer_at m ticks number; start = start; next = number; last = last; gap = gap; misses = 0 }

-- the window is out, up to its last frame, which has this number
abbrev pub awaited_phase : List ℕ → ℕ → ℕ → ℕ → ℕ → Phase
awaited_phase m ticks start number last =
    Waiting (record { transfer = transfer_at m ticks (number + 1); start = start; last = last; wait = 0; misses = 0 })

-- frame number of the window is out
abbrev pub out_phase : List ℕ → ℕ → ℕ → ℕ → ℕ → Phase
out_phase m ticks start number last =
    pick (leb last number) (awaited_phase m ticks start number last) (Sending (streamed m ticks start (number + 1) last 0))

-- the phases that wait for the LM_ACK of the window from a frame on, or have just taken it, by the sender's ticks and by whose
-- tick is next
pub data Awaits (m : List ℕ) : ℕ → ℕ → ℕ → Turn → Phase → Type 0 where
  opening : {last : ℕ} → Awaits m 0 1 last anyone (announced_phase m)
  window : {ticks start number before last : ℕ}
      → start ≤ number
      → Awaits m ticks (number + 1) last receivers (awaited_phase m ticks start number before)
  again : {ticks number last : ℕ} {turn : Turn}
      → Awaits m ticks number last turn (Sending (streamed m ticks number number last 0))

module _ (st : Settings) (m : List ℕ) where
  pub begins_long : 8 < length m → length m ≤ 1785
      → begin_of (sender_in st Idle) m ≡ emitting (sender_in st (announced_phase m)) (announcement_of (frames_of m) (length m))
  unfolding begin_of begin_phase begin_idle begin_long pick
  begins_long long fits =
      rw (le-leb 1 (length m) (omega arith), le-leb (length m) 1785 fits, lt-leb (length m) 8 long)

  -- ---- ticks

  module _ (small : st.limit ≤ 60000) (ticks start number last gap : ℕ) (early : ticks + 1 < st.limit) where
    -- short of the gap
    pub ticks_on : gap + 1 < st.gap → gap < 65535
        → tick_of (sender_in st (Sending (streamed m ticks start number last gap))) m
        ≡ silently (sender_in st (Sending (streamed m (ticks + 1) start number last (gap + 1))))
    unfolding tick_of lent_to tick_phase tick_sending unless_over at_limit pick
    ticks_on g h =
        rw (
          eq-eqb (length m) (length m) refl,
          increment_is ticks (omega arith),
          lt-leb st.limit (ticks + 1) early,
          increment_is gap h,
          lt-leb st.gap (gap + 1) g,
        )

    -- at the gap
    pub ticks_frame : gap + 1 ≡ st.gap → gap < 65535 → number < 65535
        → tick_of (sender_in st (Sending (streamed m ticks start number last gap))) m
        ≡ emitting (sender_in st (out_phase m (ticks + 1) start number last)) (information_at number m)
    unfolding tick_of lent_to tick_phase tick_sending unless_over at_limit after_frame pick
    ticks_frame g h k =
        rw (
          eq-eqb (length m) (length m) refl,
          increment_is ticks (omega arith),
          lt-leb st.limit (ticks + 1) early,
          increment_is gap h,
          g,
          le-leb st.gap st.gap (omega arith),
          increment_is number k,
        )

  -- ---- hearings

  -- the LM_ACK that is awaited, or the one just taken, asks for the window that is then sent
  window_is : (number last : ℕ) → 1 ≤ number → number ≤ last → last ≤ frames_of m
      → window_last number (last - (number - 1)) (frames_of m) ≡ last
  window_is number last low inside final = omega arith

  pub hears_ack : {ticks number last : ℕ} {turn : Turn} {p : Phase} → Awaits m ticks number last turn p
      → 1 ≤ number → number ≤ last → last ≤ frames_of m
      → hear_of (sender_in st p) (window_ack number last)
      ≡ silently (sender_in st (Sending (streamed m ticks number number last 0)))
  unfolding hear_of hear_read hear_kind hear_ack ack_opening ack_window taking read_of named_of all_filler lm_ack_of pick
  hears_ack (opening {last}) low inside final =
      rw (ne_eqb (last - 0) 0 (omega arith), le-ltb (frames_of m) 1 (omega arith), window_is 1 last low inside final)
  hears_ack (window {start = start} {number = n} {last = last} old) low inside final =
      rw (
        ne_eqb (n + 1) 0 (omega arith),
        ne_eqb (last - (n + 1 - 1)) 0 (omega arith),
        le-ltb (frames_of m) (n + 1) (omega arith),
        le-ltb (n + 1) start (omega arith),
        ne_eqb (n + 1) start (omega arith),
        window_is (n + 1) last low inside final,
      )
  hears_ack (again {number = n} {last = last}) low inside final =
      rw (
        ne_eqb n 0 (omega arith),
        ne_eqb (last - (n - 1)) 0 (omega arith),
        le-ltb (frames_of m) n (omega arith),
        le-ltb n n (omega arith),
        eq-eqb n n refl,
        window_is n last low inside final,
      )

  pub hears_end : (ticks start number last : ℕ) → length m < 65536
      → hear_of (sender_in st (awaited_phase m ticks start number last)) (end_of_ack_of (frames_of m) (length m))
      ≡ closing (sender_in st Idle) false blank_of (sent ticks (number + 1))
  unfolding hear_of hear_read hear_kind hear_end if_whole read_of named_of all_filler end_of_ack_of pick
  hears_end ticks start number last small =
      rw (word_whole (length m) small, eq-eqb (frames_of m) (frames_of m) refl, eq-eqb (length m) (length m) refl)

  -- once it has reported, the sender hears it in vain
  pub hears_idle : hear_of (sender_in st Idle) (end_of_ack_of (frames_of m) (length m)) ≡ silently (sender_in st Idle)
  unfolding hear_of hear_read hear_kind hear_end read_of named_of all_filler end_of_ack_of pick
  hears_idle = refl
