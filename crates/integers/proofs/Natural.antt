-- The way between naturals and the integers that are not negative; sums and products need no law, since `pos a +ℤ pos
-- b` and `pos a *ℤ pos b` compute to `pos (a + b)` and `pos (a * b)`.
use mathlib.Core.Path.{◌≡◌}
use Prim.Native.Nat.{ℕ, ◌-◌, ◌≤◌}
use native.Mathlib.Omega.{arith}
use lib.IntN.{pos, ◌-ℤ◌}
use Rattle.integers.proofs.Difference.{zval}

-- A difference of naturals that does not go below zero is that of the integers.
pub pos_sub : {n i : ℕ} → i ≤ n → pos (n - i) ≡ pos n -ℤ pos i
pos_sub = simp zval (omega arith)
