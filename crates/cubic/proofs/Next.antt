-- Equation 8 on a cubic: three additions lead from the differences at i to those at i + 1.
use mathlib.Core.Path.{◌≡◌, refl, sym, ◌∙◌, ap}
use Prim.Native.Nat.{ℕ, zero, suc}
use native.Mathlib.Omega.{arith}
use lib.IntN.{ℤ, ◌+ℤ◌, ◌-ℤ◌}
use Rattle.integers.proofs.Difference.{val_of, zval}
use Rattle.integers.proofs.Ring.{equal_if_difference_zero}
use Rattle.cubic.specs.declared.differences.Differences.{Differences}
use Rattle.cubic.specs.Differences.{delta, differences_at, next_of, nexts, IsCubic}

-- Structs with equal fields are equal.
pub same_fields : {A : Type 0} {v w a b c d x y : A} → v ≡ w → a ≡ b → c ≡ d → x ≡ y →
    ◌≡◌ {A = Differences A} (record { value = v; d1 = a; d2 = c; d3 = x }) (record { value = w; d1 = b; d2 = d; d3 = y })
same_fields p q r s = rw (p, q, r, s)

-- What is added to a is what b exceeds it by.
add_difference : (a b : ℤ) → a +ℤ (b -ℤ a) ≡ b
add_difference a b = rw (val_of a, val_of b) (simp zval (omega arith))

module _ (f : ℕ → ℤ) (i : ℕ) where
  -- Each difference, added to the one below it, leads on by one index.
  pub delta_next : (k : ℕ) → delta k f i +ℤ delta (suc k) f i ≡ delta k f (suc i)
  unfolding delta
  delta_next k = add_difference (delta k f i) (delta k f (suc i))

  -- The third differences of a cubic are all the same.
  pub third_same : IsCubic f → delta 3 f i ≡ delta 3 f (suc i)
  unfolding delta
  third_same h = sym (equal_if_difference_zero (delta 3 f (suc i)) (delta 3 f i) (h.fourth i))

  -- After a next the fields are the value and the differences at the next index.
  pub next_differences : IsCubic f → next_of (differences_at f i) ≡ differences_at f (suc i)
  unfolding next_of differences_at delta
  next_differences h = rw (delta_next 0, delta_next 1, delta_next 2, third_same h)

-- After i nexts the fields are the value and the differences at index i.
pub nexts_differences : {f : ℕ → ℤ} → IsCubic f → (i : ℕ) → nexts i (differences_at f 0) ≡ differences_at f i
unfolding nexts
nexts_differences h zero = refl
nexts_differences {f} h (suc i) = ap next_of (nexts_differences h i) ∙ next_differences f i h
