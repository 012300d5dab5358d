-- `smallest` meets its contract: every count below the present one is refused, and one that all three axes accept is the
-- smallest.
use mathlib.Core.Path.{◌≡◌}
use Prim.Native.Nat.{◌+◌, ◌-◌, ◌*◌, ◌≤◌}
use Rattle.drawing.specs.Axis.{axis_of}
use Rattle.chosen.specs.Search.{enough, Agreed}
use Rattle.chosen.proofs.Tries.{RefusedBelow}
use Rattle.chosen.proofs.search.smallest.Given as goal

abbrev pub invariant-loop-n : goal.invariant-loop-n
invariant-loop-n l = (1 ≤ l.n) × (l.n ≤ l.most) × (l.most ≡ enough l.curve.points) × RefusedBelow l.curve l.n ×
    (l.agreed ≤ 2) × Agreed l.curve l.n (axis_of l.axis) l.agreed

abbrev pub decreases-loop-n : goal.decreases-loop-n
decreases-loop-n l = 3 * (l.most - l.n) + (3 - l.agreed)
