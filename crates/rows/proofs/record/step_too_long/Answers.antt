-- `step_too_long` meets its contract: the three axes in turn.
use native.Mathlib.Omega.{arith}
use Rattle.rows.proofs.Limits.{three_axes}
use Rattle.rows.proofs.record.step_too_long.Goals as goal

pub returns-then-step_too_long_along-2 : goal.returns-then-step_too_long_along-2
returns-then-step_too_long_along-2 g c = grind (arith, three_axes)

pub returns-else-step_too_long_along-2 : goal.returns-else-step_too_long_along-2
returns-else-step_too_long_along-2 g c = grind (arith, three_axes)
