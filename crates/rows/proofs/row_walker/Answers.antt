-- `row_walker` meets its contract: the row on each axis.
use Rattle.std.proofs.Common.{rules}
use Rattle.scan.proofs.ThreeAxes.{same_axes}
use Rattle.rows.proofs.row_walker.Goals as goal

pub returns : goal.returns
returns c = let e = c.map.ensures in same_axes (search rules) (search rules) (search rules)
