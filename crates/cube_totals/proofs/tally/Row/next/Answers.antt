-- `Row::next` meets its contract: at the end of a plane y is 0 again and z goes on, and else y goes on.
use native.Mathlib.Omega.{arith}
use Rattle.cube_totals.proofs.tally.Row.next.Goals as goal

pub overflow_add-y : goal.overflow_add-y
overflow_add-y c = omega arith

pub overflow_add-result : goal.overflow_add-result
overflow_add-result c = omega arith

pub returns-then-y-side : goal.returns-then-y-side
returns-then-y-side c = record { y_in = omega arith; is = omega arith }

pub returns-else-y-side : goal.returns-else-y-side
returns-else-y-side c = record { y_in = omega arith; is = omega arith }
