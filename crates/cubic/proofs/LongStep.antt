-- The long-step test on differences is the test of the definition on two neighbouring values.
use mathlib.Core.Path.{◌≡◌, ap₂}
use mathlib.Core.Bool.{◌||◌}
use Prim.Native.Nat.{ℕ, suc, ◌+◌, ◌*◌, ◌<◌}
use native.Mathlib.Omega.{arith}
use lib.IntN.{ℤ, pos, ◌-ℤ◌}
use Rattle.decide.proofs.Truth.{at_most_agrees}
use Rattle.integers.proofs.Difference.{zval}
use Rattle.neighbours.specs.Steps.{far_apart}
use Rattle.cubic.specs.Differences.{delta}
use Rattle.cubic.specs.Tracks.{Doubles}
use Rattle.cubic.specs.Axis.{long_of}

-- The test on twice the difference of two values.
pub long_values : (s v w : ℕ) → long_of (pos s) (pos (2 * w) -ℤ pos (2 * v)) ≡ far_apart s v w
unfolding long_of far_apart
long_values s v w =
    simp zval
    (ap₂ (λ p q. p || q)
    (at_most_agrees (suc (s + s + (0 + 2 * v))) (2 * w + 0 + 0) (suc (v + s)) w (omega arith) (omega arith))
    (at_most_agrees (suc (2 * w + 0 + (0 + (s + s)))) (0 + (0 + 2 * v)) (suc (w + s)) v (omega arith) (omega arith)))

-- With d1 the first difference, |d1| > 2N exactly where the neighbouring values lie more than one cell apart.
pub long_far : {n : ℕ} {f : ℕ → ℕ} {P : ℕ → ℤ} → Doubles n f P → (s : ℕ) {i : ℕ} → i < n →
    long_of (pos s) (delta 1 P i) ≡ far_apart s (f i) (f (suc i))
unfolding delta
long_far {f} d s {i} l = rw (d.agrees i (omega arith), d.agrees (suc i) l) (long_values s (f i) (f (suc i)))
