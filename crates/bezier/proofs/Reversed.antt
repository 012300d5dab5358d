-- The control values in reverse: sample n - i of them has the value of sample i.
use mathlib.Core.Path.{◌≡◌}
use mathlib.Core.List.{[], ◌∷◌}
use Prim.Native.Nat.{ℕ, ◌+◌, ◌-◌, ◌*◌, ◌≤◌}
use native.Mathlib.Omega.{arith}
use Rattle.bezier.specs.Exact.{blend, value}
use Rattle.bezier.proofs.Readings.{curve_value}

-- The weights of samples i and j, with i + j = n, are each other's in reverse.
weights_exchange : (i j a b c d : ℕ) →
    j * j * j * a + 3 * i * j * j * b + 3 * i * i * j * c + i * i * i * d ≡
    i * i * i * d + 3 * j * i * i * c + 3 * j * j * i * b + j * j * j * a
weights_exchange i j a b c d = omega arith

module _ {n i : ℕ} (h : i ≤ n) where
  blend_reversed : (a b c d : ℕ) → blend n i a b c d ≡ blend n (n - i) d c b a
  unfolding blend
  blend_reversed a b c d =
      let back : n - (n - i) ≡ i = omega arith in
      rw back (weights_exchange i (n - i) a b c d)

  pub curve_reversed : (g : ℕ → ℕ) → value (n ∷ []) g (i ∷ []) ≡ value (n ∷ []) (λ k. g (3 - k)) ((n - i) ∷ [])
  curve_reversed g =
      rw (curve_value g n i, curve_value (λ k. g (3 - k)) n (n - i)) (blend_reversed (g 0) (g 1) (g 2) (g 3))
