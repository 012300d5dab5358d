-- `some_long` meets its contract: no value that was passed is beyond 2N, and the first that is ends the search.
use mathlib.Core.Path.{◌≡◌}
use mathlib.Core.Bool.{false}
use Prim.Native.Nat.{ℕ, ◌-◌, ◌<◌}
use lib.IntN.{ℤ}
use Rattle.cubic.specs.Differences.{Cubic, nexts}
use Rattle.cubic.specs.Axis.{long_of}
use Rattle.surface.specs.Surface.{Surface, row_of, surface_at, value_at}
use Rattle.surface.proofs.some_long.Given as goal

-- At row j of the surface s: no value of a row before it is beyond 2N.
pub record AtRow (s : Surface) (N : ℤ) (rows samples : ℕ) (rest : Surface) (j : ℕ) : Type 0 where
  pub within : j < rows
  pub rest_is : rest ≡ surface_at s j
  pub passed : (b : ℕ) → b < j → (k : ℕ) → k < samples → long_of N (value_at s k b) ≡ false

-- At sample i of a row: no value before it is beyond 2N.
pub record AtSample (rest : Surface) (N : ℤ) (samples : ℕ) (row : Cubic) (i : ℕ) : Type 0 where
  pub within : i < samples
  pub row_is : row ≡ nexts i (row_of rest)
  pub passed : (k : ℕ) → k < i → long_of N (nexts k (row_of rest)).value ≡ false

abbrev pub invariant-loop-rest : goal.invariant-loop-rest
invariant-loop-rest l = AtSample l.rest l.scale l.samples l.row l.i

abbrev pub decreases-loop-rest : goal.decreases-loop-rest
decreases-loop-rest l = l.samples - l.i

abbrev pub invariant-search : goal.invariant-search
invariant-search l = AtRow l.initial.rest l.scale l.rows l.samples l.rest l.j

abbrev pub decreases-search : goal.decreases-search
decreases-search l = l.rows - l.j
