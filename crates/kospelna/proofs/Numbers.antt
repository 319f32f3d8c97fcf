-- Of the numbers that stand for phases.
-- Assumes nothing.
use Prim.Native.Nat.{ℕ, suc}
use mathlib.Core.Path.{◌≡◌, ap}
use native.Mathlib.Omega.{arith}
use lib.Dec.{eqb}

-- 0 is no other number
pub other : {n k : ℕ} → n ≡ 0 → n ≡ suc k → ⊥
other p q = omega arith

-- a test of a number that is known
pub test : {n k : ℕ} (j : ℕ) → n ≡ k → eqb n j ≡ eqb k j
test j e = ap (λ (n : ℕ). eqb n j) e
