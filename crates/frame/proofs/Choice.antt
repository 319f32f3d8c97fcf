-- How a fact is shown of a choice: by its test's outcome, or on each side with the outcome in hand.
-- Assumes nothing.
use Prim.Native.Nat.{ℕ}
use mathlib.Core.Path.{◌≡◌, refl}
use mathlib.Core.Bool.{Bool, true, false, ◌&&◌, ◌||◌, false≢true, true≢false}
use Rattle.frame.specs.Choice.{pick}
use Rattle.frame.specs.Reading.{parsed_of, read_of}
use Rattle.frame.specs.Result.{Result, accepted, refused}
use Rattle.frame.specs.declared.Parsed.{Parsed}
use Rattle.frame.specs.declared.Frame.{Frame}

pub pick_true : {A : Type 0} {b : Bool} {a x : A} (y : A) → b ≡ true → a ≡ x → a ≡ pick b x y
unfolding pick
pick_true y t e = rw t e

pub pick_false : {A : Type 0} {b : Bool} {a y : A} (x : A) → b ≡ false → a ≡ y → a ≡ pick b x y
unfolding pick
pick_false x t e = rw t e

-- what holds on both sides of a choice holds of it
pub pick_elim : {A : Type 0} (P : A → Type 0) (b : Bool) {x y : A} → (b ≡ true → P x) → (b ≡ false → P y) → P (pick b x y)
unfolding pick
pick_elim P true f g = f refl
pick_elim P false f g = g refl

-- a choice between a result and a refusal, where it is accepted: the test passed, and the result is that
pub pick_accepted : {A : Type 0} (test : Bool) (r : Result A) (n : ℕ) {x : A} → pick test r (refused n) ≡ accepted x
    → (test ≡ true) × (r ≡ accepted x)
unfolding pick
pick_accepted true r n h = (refl, h)
pick_accepted false r n h = (cc, cc)

-- a frame is read as what it is, or refused 6
pub read_elim : (P : Result Parsed → Type 0) (f : Frame) (length : ℕ) → P (accepted (parsed_of f length)) → P (refused 6)
    → P (read_of f length)
unfolding read_of
read_elim P f length whole bad = pick_elim P _ (λ known. pick_elim P _ (λ clean. whole) (λ dirty. bad)) (λ unknown. bad)

-- the two halves of a test that passed
pub both_left : (a b : Bool) → (a && b) ≡ true → a ≡ true
both_left true b e = refl
both_left false b e = e

pub both_right : (a b : Bool) → (a && b) ≡ true → b ≡ true
both_right true b e = e
both_right false b e = absurd (false≢true e)

-- the two halves of a test either of which would have passed
pub neither_left : (a b : Bool) → (a || b) ≡ false → a ≡ false
neither_left true b e = e
neither_left false b e = refl

pub neither_right : (a b : Bool) → (a || b) ≡ false → b ≡ false
neither_right true b e = absurd (true≢false e)
neither_right false b e = e
