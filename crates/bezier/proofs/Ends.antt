-- End points are samples: at a corner the value is the scale times that corner's control point, since one weight is
-- the scale and the others are 0.
use mathlib.Core.Path.{◌≡◌}
use mathlib.Core.List.{List}
use Prim.Native.Nat.{ℕ, ◌+◌, ◌*◌, zero-le}
use native.Mathlib.Nat.{le_refl, sub-zero, sub_self}
use native.Mathlib.Omega.{arith}
use Rattle.bezier.specs.Exact.{blend, scale, points, value, Sample, no_index, index, Corner, no_corner, first, last}

module _ (n a b c d : ℕ) where
  -- Sample 0 of n has the first control value.
  blend_first : blend n 0 a b c d ≡ n * n * n * a
  unfolding blend
  blend_first = rw sub-zero (omega arith)

  -- Sample n of n has the last control value.
  blend_last : blend n n a b c d ≡ n * n * n * d
  unfolding blend
  blend_last = rw sub_self (omega arith)

-- A corner is a sample.
pub corner_sample : {ns is : List ℕ} {p : ℕ} → Corner ns is p → Sample ns is
corner_sample no_corner = no_index
corner_sample (first c) = index zero-le (corner_sample c)
corner_sample (last {n} c) = index (le_refl n) (corner_sample c)

-- At a corner the exact value is the control point's coordinate.
pub corner_value : {ns is : List ℕ} {p : ℕ} (g : ℕ → ℕ) → Corner ns is p → value ns g is ≡ scale ns * g p
unfolding value scale
corner_value g no_corner = omega arith
corner_value g (first {n} {p} {ns} c) =
    let e : 0 * points ns + p ≡ p = omega arith in
    simp (blend_first, corner_value (λ q. g (0 * points ns + q)) c, e) (omega arith)
corner_value g (last {n} {ns = ns} c) =
    simp (blend_last, corner_value (λ q. g (3 * points ns + q)) c) (omega arith)
