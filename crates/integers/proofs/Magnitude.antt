-- Bounds on the magnitude of integers, `Within M z`: bounds add where integers are added or subtracted, and multiply
-- where they are multiplied, so the bound of an expression follows its shape.
use mathlib.Core.Path.{◌≡◌, refl}
use Prim.Native.Nat.{ℕ, zero, suc, ◌+◌, ◌*◌, ◌≤◌}
use native.Mathlib.Nat.{le_refl, mul-le-mul}
use native.Mathlib.Omega.{arith}
use lib.IntN.{ℤ, pos, negsuc, neg_ℤ, nat_abs, ◌+ℤ◌, ◌-ℤ◌, ◌*ℤ◌}
use Rattle.integers.specs.Magnitude.{Within}
use Rattle.integers.proofs.Difference.{val_of, zval}

-- An integer is within its own magnitude: for a literal.
pub within_self : (z : ℤ) → Within (nat_abs z) z
within_self z = record { size = le_refl (nat_abs z) }

-- A natural is within each bound of it.
pub within_pos : {n M : ℕ} → n ≤ M → Within M (pos n)
within_pos h = record { size = h }

-- A larger bound is a bound.
pub within_weaken : {M N : ℕ} {z : ℤ} → Within M z → M ≤ N → Within N z
within_weaken b h = record { size = omega arith }

module _ {M N : ℕ} {x y : ℤ} where
  -- The bound of a sum is the sum of the bounds.
  pub within_add : Within M x → Within N y → Within (M + N) (x +ℤ y)
  within_add = rw (val_of x, val_of y) (simp zval (omega arith))

  -- The bound of a difference is the sum of the bounds.
  pub within_sub : Within M x → Within N y → Within (M + N) (x -ℤ y)
  within_sub = rw (val_of x, val_of y) (simp zval (omega arith))

-- An integer and its negative have one magnitude.
nat_abs_neg : (z : ℤ) → nat_abs (neg_ℤ z) ≡ nat_abs z
nat_abs_neg (pos zero) = refl
nat_abs_neg (pos (suc n)) = refl
nat_abs_neg (negsuc n) = refl

-- The magnitude of a product is the product of the magnitudes.
nat_abs-* : (x y : ℤ) → nat_abs (x *ℤ y) ≡ nat_abs x * nat_abs y
nat_abs-* (pos a) (pos b) = refl
nat_abs-* (pos a) (negsuc b) = nat_abs_neg (pos (a * suc b))
nat_abs-* (negsuc a) (pos b) = nat_abs_neg (pos (suc a * b))
nat_abs-* (negsuc a) (negsuc b) = refl

-- The bound of a product is the product of the bounds; a natural factor n has the bound n, by `within-self (pos n)`.
pub within_mul : {M N : ℕ} {x y : ℤ} → Within M x → Within N y → Within (M * N) (x *ℤ y)
within_mul {x} {y} b c = record { size = rw (nat_abs-* x y) (mul-le-mul b.size c.size) }
