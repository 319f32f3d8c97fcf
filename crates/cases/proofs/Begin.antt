-- What a begin shows depends on the message's length alone.
-- Assumes nothing.
use mathlib.Core.Path.{◌≡◌, refl, ap, ◌∙◌}
use mathlib.Core.Bool.{Bool, true, false, ◌&&◌}
use mathlib.Core.List.{List}
use Prim.Native.Nat.{ℕ, ◌≤◌}
use native.Mathlib.Omega.{arith}
use borrow.Author.Tests.{le-leb, lt-leb}
use lib.Dec.{leb}
use lib.ListN.{length}
use Rattle.frame.specs.Choice.{pick}
use Rattle.frame.specs.Count.{frame_count_of, low_byte, high_byte}
use Rattle.frame.specs.Frames.{announcement_of, sm_rm_of}
use Rattle.sender.specs.Begin.{begin_long, begin_short, begin_idle, begin_phase, begin_of}
use Rattle.sender.specs.Told.{refusing}
use Rattle.sender.specs.declared.Phase.TheVariants.{Idle}
use Rattle.sender.specs.declared.Sender.{Sender}
use Rattle.cases.specs.Answer.{shown_begin, begin_frame, unless_refused}
use Rattle.cases.specs.Row.{short, announces, refusal}

-- the numbers that a begin with a message of this length shows
pub begin_numbers : ℕ → List ℕ
begin_numbers l =
    pick (leb 1 l && leb l 1785) (pick (leb l 8) short (announces 0 (frame_count_of l) (low_byte l) (high_byte l))) (refusal 2)

by_length : (s : Sender) (message : List ℕ) (fits is_short : Bool)
    → shown_begin (pick fits (pick is_short (begin_short s message) (begin_long s message)) (refusing s 2))
    ≡ pick fits
    (pick is_short short
    (announces 0 (frame_count_of (length message)) (low_byte (length message)) (high_byte (length message))))
    (refusal 2)
unfolding pick begin_short begin_long announcement_of sm_rm_of begin_frame unless_refused
by_length s message true true = refl
by_length s message true false = refl
by_length s message false true = refl
by_length s message false false = refl

pub begin_shows : (s : Sender) (message : List ℕ)
    → s.phase ≡ Idle
    → shown_begin (begin_of s message) ≡ begin_numbers (length message)
unfolding begin_of begin_phase begin_idle begin_numbers
begin_shows s message idle =
    ap (λ p. shown_begin (begin_phase s p message)) idle
    ∙ by_length s message (leb 1 (length message) && leb (length message) 1785) (leb (length message) 8)

-- a long message begins a long transfer
pub begins_long : (s : Sender) (message : List ℕ)
    → s.phase ≡ Idle
    → 9 ≤ length message
    → length message ≤ 1785
    → begin_of s message ≡ begin_long s message
unfolding begin_of begin_phase begin_idle pick
begins_long s message idle low high =
    ap (λ p. begin_phase s p message) idle
    ∙ rw (le-leb 1 (length message) (omega arith), le-leb (length message) 1785 high, lt-leb (length message) 8 low)
