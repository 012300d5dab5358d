-- `cubic_along` meets its contract: the four coordinates of the axis are a column.
use Rattle.curve.proofs.Along.{along_column}
use Rattle.curve.proofs.steps.cubic_along.Goals as goal

pub start_column-requires : goal.start_column-requires
start_column-requires c = along_column c.requires.in_limits c.args.a c.requires.a_bound
