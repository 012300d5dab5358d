-- The step test of a record: it may be asked past the tests before it, and it looks at the three axes in turn.
use mathlib.Core.Path.{◌≡◌, refl, sym, ◌∙◌}
use mathlib.Core.Bool.{Bool, ◌||◌}
use Prim.Native.Nat.{ℕ, zero, suc, ◌<◌}
use native.Mathlib.Omega.{arith}
use Rattle.decide.specs.Some.{some_of}
use Rattle.cube.specs.Cube.{some_axis}
use Rattle.drawing.specs.Object.{Object, offset}
use Rattle.drawing.specs.Refusals.{count_out, steps_too_long}
use Rattle.scan.proofs.Orders.{Passed}
use Rattle.rows.specs.Record.{HasLimits, axis_of, steps_too_long_along}

pub limits : {S : ℕ} (o : Object) {out : Bool} → out ≡ some_of (count_out o.most) o.counts → Passed S o.points out → HasLimits o
limits o e p = record {
  counts = sym e ∙ p.count_in;
  coordinates = λ k h. omega (arith, p.coordinate_below k h, p.side_most);
}

pub three_axes : (o : Object) → steps_too_long o ≡ (steps_too_long_along o 0 || steps_too_long_along o 1 || steps_too_long_along o 2)
unfolding steps_too_long some_axis
three_axes o = refl

pub axis_numbered : (a : ℕ) → a < 3 → offset (axis_of a) ≡ a
unfolding offset
axis_numbered zero h = refl
axis_numbered (suc zero) h = refl
axis_numbered (suc (suc zero)) h = refl
axis_numbered (suc (suc (suc a))) h = absurd (omega arith)
