-- A curve along one axis: within the limits the machine may start and go on, and it follows twice the exact values.
use mathlib.Core.Path.{◌≡◌}
use mathlib.Core.List.{[], ◌∷◌}
use Prim.Native.Nat.{ℕ, ◌*◌, ◌≤◌, ◌<◌, ◌^◌}
use native.Mathlib.Nat.{le_trans, mul-le-mul}
use native.Mathlib.Omega.{arith}
use lib.Dec.{lit≤, lit<}
use lib.IntN.{ℤ, pos}
use lib.ListN.{length}
use Rattle.bezier.specs.Exact.{scale}
use Rattle.cube.specs.Cube.{Axis, x_axis, y_axis, z_axis}
use Rattle.drawing.specs.Object.{offset, coordinate, scale_of, exact}
use Rattle.drawing.specs.Refusals.{Drawable}
use Rattle.cubic.specs.Room.{Room}
use Rattle.cubic.specs.Differences.{differences_at}
use Rattle.cubic.specs.Tracks.{Doubles}
use Rattle.cubic.proofs.Exact.{curve_doubles}
use Rattle.cubic.proofs.Fits.{Holds, read}
use Rattle.scan.specs.Column.{InColumn}
use Rattle.scan.proofs.Column.{column_room}
use Rattle.scan.proofs.Natural.{natural_held}
use Rattle.curve.specs.declared.Curve.{Curve}
use Rattle.curve.specs.Curve.{curve_of}
use Rattle.curve.specs.Machine.{InLimits, doubled_along}

-- What can be drawn is within the limits.
pub drawable_in_limits : {S : ℕ} (c : Curve) → length c.points ≡ 12 → Drawable S (curve_of c) → InLimits c
drawable_in_limits c twelve d = record {
  count_least = d.count_least 0 (lit< tt);
  count_most = d.count_most 0 (lit< tt);
  twelve = twelve;
  coordinates = λ b h. omega (arith, d.coordinate_below b h, d.side_most);
}

-- The scale is n × n × n.
pub curve_scale : (c : Curve) → scale_of (curve_of c) ≡ c.steps * c.steps * c.steps
unfolding scale
curve_scale c = omega arith

module _ {c : Curve} (l : InLimits c) where
  pub scale_small : scale_of (curve_of c) ≤ 2 ^ 60
  scale_small =
      rw (curve_scale c) (le_trans (mul-le-mul (mul-le-mul l.count_most l.count_most) l.count_most) (lit≤ tt))

  -- What a call answers for n × n × n is the scale, and is held.
  pub scale_held : {r : ℤ} → r ≡ pos (c.steps * c.steps * c.steps) → Holds (2 ^ 60) (pos (scale_of (curve_of c))) (read r)
  scale_held e = natural_held (rw (← curve_scale c) at e) scale_small (lit< tt)

  pub along_column : (a : ℕ) → a < 3 → InColumn c.points c.steps 3 a
  along_column a h = record {
    count = l.count_most;
    there = rw l.twelve (omega arith);
    coordinates = l.coordinates;
  }

  pub along_room : (a : ℕ) → a < 3 → (i : ℕ) → i ≤ c.steps → Room (differences_at (doubled_along c a) i)
  along_room a h = column_room (along_column a h)

-- The machine follows twice the exact values.
pub along_doubles : (c : Curve) (a : Axis) →
    Doubles c.steps (λ i. exact (curve_of c) a (i ∷ [])) (doubled_along c (offset a))
unfolding exact coordinate offset
along_doubles c x_axis = curve_doubles c.steps (coordinate c.points x_axis)
along_doubles c y_axis = curve_doubles c.steps (coordinate c.points y_axis)
along_doubles c z_axis = curve_doubles c.steps (coordinate c.points z_axis)
