-- `by_parts` is safe and ends: the place rises to the cube's length, by a part that is not 0.
use Rattle.std.proofs.Common.{◌-◌, length}
use Rattle.sheet_cases.proofs.printed.by_parts.Given as goal

abbrev pub decreases-loop-first : goal.decreases-loop-first
decreases-loop-first l = length l.cube.bytes.now - l.first
