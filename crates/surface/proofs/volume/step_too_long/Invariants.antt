-- `step_too_long` of a volume meets its contract: no difference that was passed is beyond 2N, and the first slice, or the first
-- two, with one that is end the search.
use mathlib.Core.Path.{◌≡◌}
use mathlib.Core.Bool.{false}
use Prim.Native.Nat.{ℕ, ◌-◌, ◌≤◌, ◌<◌}
use lib.IntN.{ℤ}
use Rattle.surface.specs.Volume.{Volume, volume_at, long_in_slice, long_to_next}
use Rattle.surface.proofs.volume.step_too_long.Given as goal

-- At slice k of the volume v: no difference in a slice before it, or from one before it to the next, is beyond 2N.
pub record AtSlice (v : Volume) (N : ℤ) (n m l : ℕ) (rest : Volume) (k : ℕ) : Type 0 where
  pub within : k ≤ l
  pub rest_is : rest ≡ volume_at v k
  pub passed : (b : ℕ) → b < k → long_in_slice v N n m b ≡ false
  pub passed_on : (b : ℕ) → b < k → long_to_next v N n m b ≡ false

abbrev pub invariant-search : goal.invariant-search
invariant-search l = AtSlice l.initial.rest l.scale l.n l.m l.l l.rest l.k

abbrev pub decreases-search : goal.decreases-search
decreases-search l = l.l - l.k
