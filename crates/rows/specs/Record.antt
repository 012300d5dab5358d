-- What the step test of a record asks, and what it finds.
use Rattle.std.specs.Prelude.{◌≡◌, Bool, false, ℕ, zero, suc}
use Rattle.decide.specs.Some.{some_of}
use Rattle.neighbours.specs.Steps.{too_long}
use Rattle.cube.specs.Cube.{Axis, x_axis, y_axis, z_axis}
use Rattle.drawing.specs.Object.{Object, scale_of, exact}
use Rattle.drawing.specs.Refusals.{count_out}
use Rattle.scan.specs.Column.{Below64}

-- What must hold before the step test can be asked: neither 13 nor 14 applies, at a side up to 64.
pub record HasLimits (o : Object) : Type 0 where
  pub counts : some_of (count_out o.most) o.counts ≡ false
  pub coordinates : Below64 o.points

-- Axis number 0, 1 or 2.
abbrev pub axis_of : ℕ → Axis
axis_of zero = x_axis
axis_of (suc zero) = y_axis
axis_of (suc (suc a)) = z_axis

-- Some two neighbouring samples lie more than one cell apart on the axis with this number.
abbrev pub steps_too_long_along : Object → ℕ → Bool
steps_too_long_along o a = too_long (scale_of o) o.counts (exact o (axis_of a))
