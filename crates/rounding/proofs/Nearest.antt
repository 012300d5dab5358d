-- The coordinate of a value owns it, and no other does. So it is within half a cell, a whole number is its own, and the
-- coordinates of values are in the order of the values, and at most one apart where the values are.
use mathlib.Core.Path.{◌≡◌}
use Prim.Native.Nat.{ℕ, suc, ◌+◌, ◌*◌, ◌≤◌, ◌<◌}
use native.Mathlib.Nat.{div-mul-le_self, lt-div-mul-add}
use native.Mathlib.Omega.{arith}
use lib.Dec.{T}
use Rattle.rounding.specs.Nearest.{Owns, nearest, within_half, AtMostOneApart, NextTo}
use Rattle.rounding.proofs.Half.{within_half_whole}
use Rattle.rounding.proofs.Owns.{owns_ordered, owns_unique, owns_within_half, owns_next}

-- Over a scale that is not 0.
module _ {s : ℕ} (positive : 0 < s) where
  -- It owns its value.
  pub nearest_owns : (v : ℕ) → Owns s (nearest s v) v
  unfolding nearest
  nearest_owns v =
      quotient _ (nearest s v) (omega arith) (div-mul-le_self _ (2 * s)) (lt-div-mul-add (omega arith))
    where
      quotient : (a c : ℕ) → suc a ≡ 2 * v + s → c * (2 * s) ≤ a → a < c * (2 * s) + 2 * s → Owns s c v
      quotient a c e low high = record { above = omega arith; up_to = omega arith }

  -- It is the only one that does.
  pub nearest_only : {c v : ℕ} → Owns s c v → nearest s v ≡ c
  nearest_only {v} h = owns_unique (nearest_owns v) h

  -- It is within half a cell.
  pub nearest_within_half : (v : ℕ) → T (within_half s (nearest s v) v)
  nearest_within_half v = owns_within_half (nearest_owns v)

  -- A whole number is its own.
  pub nearest_whole : (p : ℕ) → nearest s (s * p) ≡ p
  nearest_whole p = within_half_whole s (nearest s (s * p)) p positive (nearest_within_half (s * p))

  -- It lies between the coordinates of a smaller and a larger value.
  pub nearest_between : {u v w : ℕ} → u ≤ v → v ≤ w → (nearest s u ≤ nearest s v) × (nearest s v ≤ nearest s w)
  nearest_between {u} {v} {w} l h =
      (owns_ordered l (nearest_owns u) (nearest_owns v), owns_ordered h (nearest_owns v) (nearest_owns w))

  -- Two values at most one cell apart have coordinates at most one apart.
  pub nearest_next_to : {v w : ℕ} → AtMostOneApart s v w → NextTo (nearest s v) (nearest s w)
  nearest_next_to {v} {w} near = record {
    up = owns_next near.up (nearest_owns w) (nearest_owns v);
    down = owns_next near.down (nearest_owns v) (nearest_owns w);
  }
