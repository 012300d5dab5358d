-- `is_count_out` meets its contract: one count or the other.
use Rattle.std.proofs.Common.{arith}
use Rattle.decide.specs.Some.{some_of}
use Rattle.decide.proofs.Some.{some_of_one}
use Rattle.drawing.specs.Refusals.{count_out}
use Rattle.patch.proofs.PatchRecord.is_count_out.Goals as goal

pub returns-then-is_count_out : goal.returns-then-is_count_out
unfolding some_of
returns-then-is_count_out c = grind arith

pub returns-else-is_count_out : goal.returns-else-is_count_out
unfolding some_of
returns-else-is_count_out c = grind (arith, some_of_one (count_out 256))
