-- `fill` meets its contract: the bytes before the place are filled, and the next one is at hand.
use Rattle.std.proofs.Common.{◌≡◌, ℕ, ◌+◌, ◌*◌, ◌%◌, ◌<◌, get_or}
use Rattle.cases.proofs.bytes.fill.Given as goal

abbrev pub invariant-loop-b : goal.invariant-loop-b
invariant-loop-b l = (l.byte ≡ (l.first + l.step * l.b-index) % 256) × ((k : ℕ) → k < l.b-index → get_or l.lent k 0 ≡ (l.first + l.step * k) % 256)
