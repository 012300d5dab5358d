-- `long_between` meets its contract: no step that was passed is too long, and the first that is ends the search.
use mathlib.Core.Path.{◌≡◌}
use mathlib.Core.Bool.{false}
use Prim.Native.Nat.{ℕ, ◌-◌, ◌≤◌, ◌<◌}
use Rattle.cubic.specs.Differences.{differences_at}
use Rattle.curve.specs.Machine.{doubled_along, long_at}
use Rattle.curve.proofs.steps.long_between.Given as goal

abbrev pub invariant-loop-curve : goal.invariant-loop-curve
invariant-loop-curve l = (l.found ≡ false) × (l.i < l.curve.steps) × (l.c ≡ differences_at (doubled_along l.curve l.a) l.i) ×
    ((k : ℕ) → k < l.i → long_at l.curve l.a k ≡ false)

abbrev pub decreases-loop-curve : goal.decreases-loop-curve
decreases-loop-curve l = l.last - l.i

abbrev pub invariant-search : goal.invariant-search
invariant-search l = (l.found ≡ false) × (l.a ≤ l.to) × (l.from ≤ l.a) ×
    ((b : ℕ) → b < l.a → l.from ≤ b → (k : ℕ) → k < l.curve.steps → long_at l.curve b k ≡ false)

abbrev pub decreases-search : goal.decreases-search
decreases-search l = l.to - l.a
