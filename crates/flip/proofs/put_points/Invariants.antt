-- `put_points` meets its contract: the points before k are those with the first k numbers.
use mathlib.Core.Path.{◌≡◌}
use Prim.Native.Nat.{ℕ, ◌<◌}
use lib.ListN.{get_or}
use Rattle.cube.specs.Cube.{Axis}
use Rattle.drawing.specs.Object.{coordinate}
use Rattle.flip.proofs.put_points.Given as goal

abbrev pub invariant-loop-k : goal.invariant-loop-k
invariant-loop-k l = (j : ℕ) → j < l.k → (a : Axis) → coordinate l.to a j ≡ coordinate l.points a (get_or l.numbers j 0)
