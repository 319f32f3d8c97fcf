-- The figures fit their words, and a law for each path through the judging of a length and a gap.
-- Assumes nothing.
use Prim.Native.Nat.{ℕ, ◌+◌, ◌*◌, ◌≤◌, ◌<◌}
use mathlib.Core.Path.{◌≡◌, refl, ap}
use mathlib.Core.Bool.{true, false, and-false}
use native.Mathlib.Nat.{mul-le-mul}
use native.Mathlib.Omega.{arith}
use borrow.Author.Tests.{le-leb, lt-leb}
use Rattle.frame.proofs.Choice.{pick_true, pick_false}
use Rattle.frame.specs.Count.{frame_count_of, within}
use Rattle.frame.specs.Result.{accepted, refused}
use Rattle.clean.specs.Figures.{figures_for, figures_of}
use Rattle.clean.specs.declared.Figures.{Figures}

-- N is at most 255, so that neither figure wraps.
module _ (length count : ℕ) (l : length ≤ 1785) (e : count ≡ frame_count_of length) where
  most : count ≤ 255
  unfolding frame_count_of
  most = omega arith

  pub ticks_fit : (gap : ℕ) → gap ≤ 10 → count * gap < 65536
  ticks_fit gap g =
      let bound : count * gap ≤ 255 * 10 = mul-le-mul most g in
      omega arith

  pub frames_fit : count + 1 < 65536
  frames_fit = omega (arith, most)

-- A number between the limits, below them and above them.
module _ (low x high : ℕ) where
  between : low ≤ x → x ≤ high → within low x high ≡ true
  between l h = rw (le-leb low x l, le-leb x high h)

  below : x < low → within low x high ≡ false
  below h = rw (lt-leb low x h)

  above : high < x → within low x high ≡ false
  above h = rw (lt-leb x high h, and-false)

-- Each path through the code has tested what the definition tests.
module _ (length gap : ℕ) where
  pub length_low : length < 9 → refused 2 ≡ figures_of length gap
  unfolding figures_of
  length_low h = pick_false _ (below 9 length 1785 h) refl

  pub length_high : 1786 ≤ length → refused 2 ≡ figures_of length gap
  unfolding figures_of
  length_high h = pick_false _ (above 9 length 1785 h) refl

  module _ (low : 9 ≤ length) (high : length < 1786) where
    long : within 9 length 1785 ≡ true
    long = between 9 length 1785 low (omega arith)

    pub gap_low : gap < 1 → refused 1 ≡ figures_of length gap
    unfolding figures_of
    gap_low h = pick_true _ long (pick_false _ (below 1 gap 10 h) refl)

    pub gap_high : 11 ≤ gap → refused 1 ≡ figures_of length gap
    unfolding figures_of
    gap_high h = pick_true _ long (pick_false _ (above 1 gap 10 h) refl)

    pub inside : {f : Figures} → 1 ≤ gap → gap < 11 → f ≡ figures_for length gap → accepted f ≡ figures_of length gap
    unfolding figures_of
    inside some few e = pick_true _ long (pick_true _ (between 1 gap 10 some (omega arith)) (ap accepted e))

pub ruleset paths = (length_low, length_high, gap_low, gap_high, inside)
