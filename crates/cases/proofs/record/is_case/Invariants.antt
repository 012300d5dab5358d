-- `is_case` meets its contract: every byte that was passed stands in its place, and the first that does not ends the search.
use Rattle.std.proofs.Common.{ℕ, ◌<◌, get_or}
use Rattle.cases.specs.Record.{Stands}
use Rattle.cases.proofs.record.is_case.Given as goal

abbrev pub invariant-loop-i : goal.invariant-loop-i
invariant-loop-i l = (k : ℕ) → k < l.i → 0 < k → Stands (get_or l.case k 0) k
