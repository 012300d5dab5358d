-- A bound on the magnitude of an integer.
use Rattle.std.specs.Prelude.{ℕ, ◌≤◌, ℤ, nat_abs}

-- |z| ≤ M
pub record Within (M : ℕ) (z : ℤ) : Type 0 where
  pub size : nat_abs z ≤ M
