-- Axes by their numbers: x is 0, y is 1, z is 2.
use mathlib.Core.Path.{◌≡◌, refl}
use mathlib.Core.Bool.{Bool, ◌||◌}
use Prim.Native.Nat.{ℕ, zero, suc, ◌<◌}
use native.Mathlib.Omega.{arith}
use lib.Dec.{lit<}
use Rattle.neighbours.specs.Steps.{too_long}
use Rattle.cube.specs.Cube.{Axis, x_axis, y_axis, z_axis, some_axis}
use Rattle.drawing.specs.Object.{Object, offset, scale_of, exact}
use Rattle.drawing.specs.Refusals.{steps_too_long}

pub offset_small : (a : Axis) → offset a < 3
unfolding offset
offset_small x_axis = lit< tt
offset_small y_axis = lit< tt
offset_small z_axis = lit< tt

pub axis_numbered : (k : ℕ) → k < 3 → (a : Axis) × (offset a ≡ k)
unfolding offset
axis_numbered zero h = (x_axis, refl)
axis_numbered (suc zero) h = (y_axis, refl)
axis_numbered (suc (suc zero)) h = (z_axis, refl)
axis_numbered (suc (suc (suc k))) h = absurd (omega arith)

-- Steps are too long where one of the three axes, by its number, has a long step.
pub some_axis_long : (o : Object) (long : ℕ → Bool) →
    ((a : Axis) → long (offset a) ≡ too_long (scale_of o) o.counts (exact o a)) →
    steps_too_long o ≡ (long 0 || long 1 || long 2)
unfolding steps_too_long some_axis offset
some_axis_long o long finds = rw (← finds x_axis, ← finds y_axis, ← finds z_axis)
