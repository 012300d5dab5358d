-- `climb` meets its contract: the counts that it passes are refused, and where it stops the axis accepts.
use mathlib.Core.Path.{◌≡◌}
use mathlib.Core.Bool.{true}
use Prim.Native.Nat.{ℕ, ◌-◌, ◌≤◌, ◌<◌}
use Rattle.curve.specs.Machine.{long_along}
use Rattle.chosen.specs.Search.{with_steps}
use Rattle.chosen.proofs.search.climb.Given as goal

-- The axis alone refuses every count passed.
abbrev pub invariant-loop-n : goal.invariant-loop-n
invariant-loop-n l = (l.from ≤ l.n) × (l.n ≤ l.most) × ((m : ℕ) → m < l.n → l.from ≤ m → long_along (with_steps l.line m) 0 ≡ true)

abbrev pub decreases-loop-n : goal.decreases-loop-n
decreases-loop-n l = l.most - l.n
