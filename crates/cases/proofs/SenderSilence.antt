-- What a sender shows in silence, once it has announced, depends on T and M alone.
-- Assumes nothing.
use mathlib.Core.Path.{◌≡◌, refl, ap, ◌∙◌}
use mathlib.Core.Bool.{Bool, true, false, ◌&&◌}
use mathlib.Core.List.{List, [], ◌++◌}
use Prim.Native.Nat.{ℕ, zero, suc, ◌≤◌}
use borrow.Author.Tests.{le-leb, eq-eqb}
use lib.Dec.{leb}
use lib.ListN.{length}
use Rattle.frame.specs.Result.{accepted, refused}
use Rattle.frame.specs.Choice.{pick}
use Rattle.frame.specs.Count.{increment_of, within}
use Rattle.frame.specs.Frames.{announcement_of, lm_nack_of}
use Rattle.sender.specs.Begin.{begin_long}
use Rattle.sender.specs.Make.{idle_with, make_of}
use Rattle.sender.specs.State.{aged, in_phase}
use Rattle.sender.specs.Tick.{unless_over, at_limit, unless_third, tick_opening, tick_phase, lent_to, tick_of}
use Rattle.sender.specs.Told.{Told, failing_with}
use Rattle.sender.specs.declared.Announced.{Announced}
use Rattle.sender.specs.declared.Phase.TheVariants.{Idle, Opening}
use Rattle.sender.specs.declared.Sender.{Sender}
use Rattle.sender.specs.declared.Transfer.{Transfer}
use Rattle.cases.specs.Answer.{brief, if_emitted, sender_ticks, sender_in_silence, of_sender}
use Rattle.cases.specs.Row.{frame0, nack, at, refusal}
use Rattle.cases.proofs.Begin.{begins_long}

-- the numbers that it shows: T, M, then age, wait and misses, the next tick, and how many ticks
pub opening_numbers : ℕ → ℕ → ℕ → ℕ → ℕ → ℕ → ℕ → List ℕ
opening_numbers timeout limit age wait misses tick zero = []
opening_numbers timeout limit age wait misses tick (suc ticks) =
    pick (leb limit (increment_of age)) (at tick (nack 3))
    (pick (leb timeout (increment_of wait))
    (pick (leb 3 (increment_of misses)) (at tick (nack 2))
    (at tick frame0 ++ opening_numbers timeout limit (increment_of age) 0 (increment_of misses) (suc tick) ticks))
    (opening_numbers timeout limit (increment_of age) (increment_of wait) misses (suc tick) ticks))

-- an Idle sender shows nothing
idle_shows : (s : Sender) (message : List ℕ) (tick ticks : ℕ) → sender_ticks (in_phase s Idle) message tick ticks ≡ []
unfolding sender_ticks tick_of lent_to tick_phase pick
idle_shows s message tick zero = refl
idle_shows s message tick (suc ticks) = idle_shows s message (suc tick) ticks

-- what a tick's answer shows, with all that comes after it
after : Told → List ℕ → ℕ → ℕ → List ℕ
after t message tick ticks = if_emitted t.emits (at tick (brief t.frame)) ++ sender_ticks t.next message (suc tick) ticks

failed_shows : (s : Sender) (t : Transfer) (cause : ℕ) (message : List ℕ) (tick ticks : ℕ)
    → after (failing_with s t cause) message tick ticks ≡ at tick (nack cause)
unfolding after pick lm_nack_of
failed_shows s t cause message tick ticks =
    ap {B = List ℕ} (λ rest. at tick (nack cause) ++ rest) (idle_shows s message (suc tick) ticks)

-- by the three tests of a tick in Opening: age = M, wait = T, the third miss
by_tests : (s : Sender) (t : Transfer) (message : List ℕ) (tick ticks : ℕ)
    → (again waits : Told) (frames silence : List ℕ) (late due third : Bool)
    → after again message tick ticks ≡ frames
    → after waits message tick ticks ≡ silence
    → after (pick late (failing_with s t 3) (pick due (pick third (failing_with s t 2) again) waits)) message tick ticks
    ≡ pick late (at tick (nack 3)) (pick due (pick third (at tick (nack 2)) frames) silence)
unfolding pick
by_tests s t message tick ticks again waits frames silence true due third ha hw = failed_shows s t 3 message tick ticks
by_tests s t message tick ticks again waits frames silence false true true ha hw = failed_shows s t 2 message tick ticks
by_tests s t message tick ticks again waits frames silence false true false ha hw = ha
by_tests s t message tick ticks again waits frames silence false false third ha hw = hw

-- a tick that is lent a message of the begun length is not refused
tick_lent : (s : Sender) (message : List ℕ) (x : Announced)
    → length message ≡ x.transfer.length
    → tick_of (in_phase s (Opening x)) message ≡ tick_opening (in_phase s (Opening x)) x
unfolding tick_of lent_to tick_phase pick
tick_lent s message x lent = rw (eq-eqb (length message) x.transfer.length lent)

opening_shows : (s : Sender) (message : List ℕ) (tick ticks : ℕ) (x : Announced)
    → length message ≡ x.transfer.length
    → sender_ticks (in_phase s (Opening x)) message tick ticks
    ≡ opening_numbers s.settings.timeout s.settings.limit x.transfer.age x.wait x.misses tick ticks
unfolding sender_ticks opening_numbers after tick_opening unless_over at_limit unless_third announcement_of pick
opening_shows s message tick zero x lent = refl
opening_shows s message tick (suc ticks) x lent =
    ap (λ t. after t message tick ticks) (tick_lent s message x lent)
    ∙ by_tests (in_phase s (Opening x)) (aged x.transfer) message tick ticks _ _ _ _
    (leb s.settings.limit (increment_of x.transfer.age))
    (leb s.settings.timeout (increment_of x.wait))
    (leb 3 (increment_of x.misses))
    (ap {B = List ℕ} (λ rest. at tick frame0 ++ rest)
    (opening_shows s message (suc tick) ticks _ lent))
    (opening_shows s message (suc tick) ticks _ lent)

-- the numbers of a run from making on
pub sender_numbers : ℕ → ℕ → ℕ → List ℕ
sender_numbers timeout limit ticks =
    pick (within 1 timeout 10000 && within 1 limit 60000)
    (at 0 frame0 ++ opening_numbers timeout limit 0 0 0 1 ticks)
    (refusal 1)

alone_shows : (s : Sender) (message : List ℕ) (ticks : ℕ)
    → s.phase ≡ Idle
    → 9 ≤ length message
    → length message ≤ 1785
    → sender_in_silence s message ticks ≡ at 0 frame0 ++ opening_numbers s.settings.timeout s.settings.limit 0 0 0 1 ticks
unfolding sender_in_silence begin_long announcement_of pick
alone_shows s message ticks idle low high =
    rw (begins_long s message idle low high)
    (ap {B = List ℕ} (λ rest. at 0 frame0 ++ rest) (opening_shows s message 1 ticks _ refl))

by_fit : (gap timeout limit : ℕ) (message : List ℕ) (ticks : ℕ) (fit : Bool)
    → 9 ≤ length message
    → length message ≤ 1785
    → of_sender (pick fit (accepted (idle_with gap timeout limit)) (refused 1)) (λ s. sender_in_silence s message ticks)
    ≡ pick fit (at 0 frame0 ++ opening_numbers timeout limit 0 0 0 1 ticks) (refusal 1)
unfolding of_sender pick
by_fit gap timeout limit message ticks true low high = alone_shows _ message ticks refl low high
by_fit gap timeout limit message ticks false low high = refl

pub sender_shows : (gap timeout limit : ℕ) (message : List ℕ) (ticks : ℕ)
    → 1 ≤ gap
    → gap ≤ 10
    → 9 ≤ length message
    → length message ≤ 1785
    → of_sender (make_of gap timeout limit) (λ s. sender_in_silence s message ticks) ≡ sender_numbers timeout limit ticks
unfolding make_of sender_numbers
sender_shows gap timeout limit message ticks g1 g10 low high =
    rw (le-leb 1 gap g1, le-leb gap 10 g10)
    (by_fit gap timeout limit message ticks
    (within 1 timeout 10000 && within 1 limit 60000)
    low high)
