-- `is_reversed` meets its contract: every cell that was passed is the other's, and the first that is not ends the search.
use Rattle.std.proofs.Common.{◌≡◌, ℕ, ◌+◌, ◌*◌, ◌<◌}
use Rattle.flip.specs.Listings.{SameCell}
use Rattle.both_ways.proofs.is_reversed.Given as goal

abbrev pub invariant-loop-i : goal.invariant-loop-i
invariant-loop-i l = (j : ℕ) → j < l.i → (k : ℕ) → j + k + 1 ≡ l.count → SameCell l.list (3 * j) l.back (3 * k)
