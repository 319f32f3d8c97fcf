-- What a receiver shows in silence, once it has opened, depends on T alone.
-- Assumes nothing.
use mathlib.Core.Path.{◌≡◌, refl, ap, ◌∙◌}
use mathlib.Core.Bool.{Bool, true, false, ◌&&◌}
use mathlib.Core.List.{List, [], ◌∷◌, ◌++◌}
use Prim.Native.Nat.{ℕ, zero, suc, ◌≤◌}
use native.Mathlib.Omega.{arith}
use borrow.Author.Tests.{le-leb, eq-eqb}
use lib.Dec.{leb}
use lib.ListN.{length}
use Rattle.frame.proofs.Laws.{word_whole}
use Rattle.frame.specs.Result.{accepted, refused}
use Rattle.frame.specs.Choice.{pick}
use Rattle.frame.specs.Count.{frame_count_of, increment_of}
use Rattle.frame.specs.Frames.{announcement_of, lm_ack_of, lm_nack_of}
use Rattle.frame.specs.Reading.{named_of, all_filler, read_of}
use Rattle.receiver.specs.Hear.{hear_of, hear_read, hear_kind, is_held, hear_unless_held, hear_numbered, hear_announcement, announce_idle, opening}
use Rattle.receiver.specs.Make.{idle_with, make_of}
use Rattle.receiver.specs.Misses.{timed_out}
use Rattle.receiver.specs.State.{in_phase}
use Rattle.receiver.specs.Tick.{waiting, asking_again, tick_of, tick_phase, timeout_by, timeout_free, tick_open}
use Rattle.receiver.specs.Told.{Told, failing_with}
use Rattle.receiver.specs.declared.Connection.{Connection}
use Rattle.receiver.specs.declared.Misses.{Misses}
use Rattle.receiver.specs.declared.Misses.TheVariants.{NoneAfterAck, OneAfterAck, TwoAfterAck, NoneAfterFrame, OneAfterFrame}
use Rattle.receiver.specs.declared.Phase.TheVariants.{Idle, Open}
use Rattle.receiver.specs.declared.Receiver.{Receiver}
use Rattle.cases.specs.Answer.{brief, if_emitted, receiver_ticks, receiver_in_silence, of_receiver}
use Rattle.cases.specs.Row.{nack, at, refusal}

-- by what is counted at a timeout: what comes where it is counted on, or where it is the third of its type
counting : {A : Type 0} → Misses → (Misses → A) → A → A
counting NoneAfterAck on third = on OneAfterAck
counting OneAfterAck on third = on TwoAfterAck
counting TwoAfterAck on third = third
counting NoneAfterFrame on third = on OneAfterFrame
counting OneAfterFrame on third = on OneAfterAck

-- the numbers that it shows: T, then e, wait and misses, the next tick, and how many ticks
pub open_numbers : ℕ → ℕ → ℕ → Misses → ℕ → ℕ → List ℕ
open_numbers timeout expected wait misses tick zero = []
open_numbers timeout expected wait misses tick (suc ticks) =
    pick (leb timeout (increment_of wait))
    (counting misses (λ counted. at tick (2 ∷ expected ∷ []) ++ open_numbers timeout expected 0 counted (suc tick) ticks)
    (at tick (nack 2)))
    (open_numbers timeout expected (increment_of wait) misses (suc tick) ticks)

-- an Idle receiver shows nothing
idle_shows : (r : Receiver) (tick ticks : ℕ) → receiver_ticks (in_phase r Idle) tick ticks ≡ []
unfolding receiver_ticks tick_of tick_phase pick
idle_shows r tick zero = refl
idle_shows r tick (suc ticks) = idle_shows r (suc tick) ticks

-- what a tick's answer shows, with all that comes after it
after : Told → ℕ → ℕ → List ℕ
after t tick ticks = if_emitted t.emits (at tick (brief t.frame)) ++ receiver_ticks t.next (suc tick) ticks

-- by the test of a tick in Open: wait = T
by_test : (tick ticks : ℕ) (timeout waits : Told) (frames silence : List ℕ) (due : Bool)
    → after timeout tick ticks ≡ frames
    → after waits tick ticks ≡ silence
    → after (pick due timeout waits) tick ticks ≡ pick due frames silence
unfolding pick
by_test tick ticks timeout waits frames silence true ht hw = ht
by_test tick ticks timeout waits frames silence false ht hw = hw

-- the third of its type shows NACK 2, and nothing after it
fails_shows : (r : Receiver) (tick ticks : ℕ) → after (failing_with r 2) tick ticks ≡ at tick (nack 2)
unfolding after lm_nack_of pick
fails_shows r tick ticks = ap {B = List ℕ} (λ rest. at tick (nack 2) ++ rest) (idle_shows r (suc tick) ticks)

-- where no hold stands, a tick makes this test
free_tick : (r : Receiver) (x : Connection) → x.held ≡ false
    → tick_of (in_phase r (Open x))
    ≡ pick (leb r.settings.timeout (increment_of x.wait)) (timeout_free (in_phase r (Open x)) x) (waiting (in_phase r (Open x)) x)
unfolding tick_of tick_phase tick_open pick
free_tick r x free = rw free

-- a timeout by what is counted; where it is counted on, what comes after it is known
timeout_shows : (r : Receiver) (x : Connection) (tick ticks : ℕ) (misses : Misses)
    → ((counted : Misses)
    → receiver_ticks (asking_again (in_phase r (Open x)) x counted).next (suc tick) ticks
    ≡ open_numbers r.settings.timeout x.expected 0 counted (suc tick) ticks)
    → after (timeout_by (in_phase r (Open x)) x (timed_out misses)) tick ticks
    ≡ counting misses
    (λ counted. at tick (2 ∷ x.expected ∷ []) ++ open_numbers r.settings.timeout x.expected 0 counted (suc tick) ticks)
    (at tick (nack 2))
unfolding counting after timeout_by lm_ack_of pick
timeout_shows r x tick ticks NoneAfterAck later = ap {B = List ℕ} (λ rest. at tick (2 ∷ x.expected ∷ []) ++ rest) (later OneAfterAck)
timeout_shows r x tick ticks OneAfterAck later = ap {B = List ℕ} (λ rest. at tick (2 ∷ x.expected ∷ []) ++ rest) (later TwoAfterAck)
timeout_shows r x tick ticks TwoAfterAck later = fails_shows (in_phase r (Open x)) tick ticks
timeout_shows r x tick ticks NoneAfterFrame later = ap {B = List ℕ} (λ rest. at tick (2 ∷ x.expected ∷ []) ++ rest) (later OneAfterFrame)
timeout_shows r x tick ticks OneAfterFrame later = ap {B = List ℕ} (λ rest. at tick (2 ∷ x.expected ∷ []) ++ rest) (later OneAfterAck)

open_shows : (r : Receiver) (tick ticks : ℕ) (x : Connection) → x.held ≡ false
    → receiver_ticks (in_phase r (Open x)) tick ticks ≡ open_numbers r.settings.timeout x.expected x.wait x.misses tick ticks
unfolding receiver_ticks open_numbers after pick
open_shows r tick zero x free = refl
open_shows r tick (suc ticks) x free =
    ap (λ (t : Told). after t tick ticks) (free_tick r x free)
    ∙ by_test tick ticks _ _ _ _
    (leb r.settings.timeout (increment_of x.wait))
    (timeout_shows r x tick ticks x.misses (λ counted. open_shows r (suc tick) ticks _ free))
    (open_shows r (suc tick) ticks _ free)

-- an announcement that fits opens a connection
opens_idle : (r : Receiver) (frames l : ℕ)
    → 9 ≤ l
    → l ≤ r.settings.capacity
    → l ≤ 1785
    → frames ≡ frame_count_of l
    → announce_idle r frames l ≡ opening r frames l
unfolding announce_idle pick
opens_idle r frames l low room high fits =
    rw (le-leb 9 l low, le-leb l 1785 high, eq-eqb frames (frame_count_of l) fits, le-leb l r.settings.capacity room)

opens : (r : Receiver) (frames l : ℕ) (buffer : List ℕ)
    → r.phase ≡ Idle
    → 9 ≤ l
    → l ≤ r.settings.capacity
    → l ≤ 1785
    → frames ≡ frame_count_of l
    → length buffer ≡ 1785
    → (hear_of r (announcement_of frames l) buffer).told ≡ opening r frames l
unfolding hear_of hear_read hear_kind hear_unless_held hear_numbered hear_announcement read_of named_of all_filler announcement_of pick
opens r frames l buffer idle low room high fits lent =
    rw (eq-eqb (length buffer) 1785 lent, ap is_held idle, word_whole l (omega (arith, high)))
    (ap (λ p. hear_announcement r p frames l) idle ∙ opens_idle r frames l low room high fits)

-- the numbers of a run from making on
pub receiver_numbers : ℕ → ℕ → List ℕ
receiver_numbers timeout ticks = pick (leb 1 timeout && leb timeout 10000) (open_numbers timeout 1 0 NoneAfterAck 1 ticks) (refusal 1)

alone_shows : (r : Receiver) (frames l : ℕ) (buffer : List ℕ) (ticks : ℕ)
    → r.phase ≡ Idle
    → 9 ≤ l
    → l ≤ r.settings.capacity
    → l ≤ 1785
    → frames ≡ frame_count_of l
    → length buffer ≡ 1785
    → receiver_in_silence r frames l buffer ticks ≡ open_numbers r.settings.timeout 1 0 NoneAfterAck 1 ticks
unfolding receiver_in_silence
alone_shows r frames l buffer ticks idle low room high fits lent =
    ap (λ (t : Told). receiver_ticks t.next 1 ticks) (opens r frames l buffer idle low room high fits lent)
    ∙ open_shows r 1 ticks _ refl

by_fit : (timeout window capacity frames l : ℕ) (buffer : List ℕ) (ticks : ℕ) (fit : Bool)
    → 9 ≤ l
    → l ≤ capacity
    → l ≤ 1785
    → frames ≡ frame_count_of l
    → length buffer ≡ 1785
    → of_receiver
    (pick (fit && true) (accepted (idle_with timeout window capacity)) (refused 1))
    (λ r. receiver_in_silence r frames l buffer ticks)
    ≡ pick fit (open_numbers timeout 1 0 NoneAfterAck 1 ticks) (refusal 1)
unfolding of_receiver pick
by_fit timeout window capacity frames l buffer ticks true low room high fits lent =
    alone_shows _ frames l buffer ticks refl low room high fits lent
by_fit timeout window capacity frames l buffer ticks false low room high fits lent = refl

pub receiver_shows : (timeout window capacity frames l : ℕ) (buffer : List ℕ) (ticks : ℕ)
    → 1 ≤ window
    → window ≤ 255
    → 9 ≤ l
    → l ≤ capacity
    → capacity ≤ 1785
    → frames ≡ frame_count_of l
    → length buffer ≡ 1785
    → of_receiver (make_of timeout window capacity) (λ r. receiver_in_silence r frames l buffer ticks) ≡ receiver_numbers timeout ticks
unfolding make_of receiver_numbers
receiver_shows timeout window capacity frames l buffer ticks w1 w255 low room high fits lent =
    rw (le-leb 1 window w1, le-leb window 255 w255, le-leb 9 capacity (omega arith), le-leb capacity 1785 high)
    (by_fit timeout window capacity frames l buffer ticks
    (leb 1 timeout && leb timeout 10000)
    low room (omega arith) fits lent)
