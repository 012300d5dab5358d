-- `by_planes` is safe and ends: each turn goes on to a later plane, up to the side.
use Rattle.std.proofs.Common.{◌-◌}
use Rattle.sheet_cases.proofs.printed.by_planes.Given as goal

abbrev pub decreases-loop-z : goal.decreases-loop-z
decreases-loop-z l = l.cube.side - l.z
