-- `check` meets its contract: the order with nothing to say of grid, mark and list.
use Rattle.drawing.specs.Refusals.{check_verdict}
use Rattle.rows.proofs.record.check.Goals as goal

pub returns : goal.returns
unfolding check_verdict
returns g c = c.judge.ensures
