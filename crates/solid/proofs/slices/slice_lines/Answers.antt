-- `slice_lines` meets its contract: the slice on each axis.
use Rattle.std.proofs.Common.{rules}
use Rattle.scan.proofs.ThreeAxes.{same_axes}
use Rattle.solid.proofs.slices.slice_lines.Goals as goal

pub returns : goal.returns
returns c = let e = c.map.ensures in same_axes (search rules) (search rules) (search rules)
