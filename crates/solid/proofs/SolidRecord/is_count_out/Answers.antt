-- `is_count_out` meets its contract: one of the three counts.
use native.Mathlib.Omega.{arith}
use Rattle.decide.proofs.Some.{some_of_three}
use Rattle.solid.proofs.SolidRecord.is_count_out.Goals as goal

pub returns-then-is_count_out-2 : goal.returns-then-is_count_out-2
returns-then-is_count_out-2 c = grind (arith, some_of_three)

pub returns-else-is_count_out-2 : goal.returns-else-is_count_out-2
returns-else-is_count_out-2 c = grind (arith, some_of_three)
