-- Within half a cell as two inequalities, and what follows for a coordinate, whichever way a half goes: it is the whole
-- number that the value is, where the value is one, and it passes no whole number that the value does not pass.
use mathlib.Core.Path.{◌≡◌}
use mathlib.Core.Logic.Iff
use mathlib.Core.Logic.{◌↔◌}
use Prim.Native.Nat.{ℕ, ◌+◌, ◌*◌, ◌≤◌, ◌<◌}
use native.Mathlib.Nat.{le_refl, mul-le-mul_left}
use native.Mathlib.Omega.{arith}
use lib.Dec.{T}
use Rattle.decide.proofs.Truth.{both, at_most}
use Rattle.rounding.specs.Nearest.{within_half}

-- The doubled value and the doubled coordinate differ by at most the scale.
pub within_half_lem : (s c v : ℕ) → T (within_half s c v) ↔ ((2 * v ≤ 2 * (s * c) + s) × (2 * (s * c) ≤ 2 * v + s))
unfolding within_half
within_half_lem s c v = simp (both, at_most) Iff.rfl

-- A coordinate within half a cell of a value is at most any whole number that the value is at most.
pub within_half_below : (s c v m : ℕ) → 0 < s → T (within_half s c v) → v ≤ s * m → c ≤ m
within_half_below s c v m hs t h =
    let w = (within_half_lem s c v).0 t in
    let no : ¬ (m < c) = λ l. omega (arith, w.1, mul-le-mul_left s l) in
    omega arith

-- The value of a whole number is within half a cell of that number alone.
pub within_half_whole : (s c p : ℕ) → 0 < s → T (within_half s c (s * p)) → c ≡ p
within_half_whole s c p hs t =
    let w = (within_half_lem s c (s * p)).0 t in
    let no : ¬ (c < p) = λ l. omega (arith, w.0, mul-le-mul_left s l) in
    omega (arith, within_half_below s c (s * p) p hs t (le_refl (s * p)))
