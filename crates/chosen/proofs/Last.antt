-- The last step on x is the first of the points in reverse: too long in the one exactly where it is in the other.
use mathlib.Core.Path.{◌≡◌, refl, sym, ◌∙◌, ap}
use mathlib.Core.List.{[], ◌∷◌}
use Prim.Native.Nat.{ℕ, suc, ◌-◌, ◌≤◌}
use native.Mathlib.Omega.{arith}
use lib.IntN.{ℤ, pos}
use Rattle.bezier.specs.Exact.{value}
use Rattle.bezier.proofs.Reversed.{curve_reversed}
use Rattle.neighbours.specs.Steps.{far_apart}
use Rattle.neighbours.proofs.Long.{far_either_way}
use Rattle.cube.specs.Cube.{x_axis}
use Rattle.drawing.specs.Object.{offset, coordinate, scale_of, exact}
use Rattle.cubic.specs.Blend.{column, twice}
use Rattle.cubic.specs.Differences.{delta}
use Rattle.cubic.specs.Axis.{long_of}
use Rattle.cubic.proofs.Exact.{curve_doubles}
use Rattle.cubic.proofs.LongStep.{long_far}
use Rattle.scan.specs.Column.{doubled_through}
use Rattle.curve.specs.declared.Curve.{Curve}
use Rattle.curve.specs.Curve.{curve_of}
use Rattle.curve.specs.Machine.{long_at}
use Rattle.curve.proofs.Along.{along_doubles}

module _ (c : Curve) (some : 1 ≤ c.steps) where
  abbrev g : ℕ → ℕ
  g = coordinate c.points x_axis

  -- Twice the exact values of the points in reverse.
  abbrev reversed : ℕ → ℤ
  reversed = doubled_through c.points c.steps 9 6 3 0

  by_column : reversed ≡ column (pos c.steps) (twice (λ k. g (3 - k))) 1 0
  unfolding coordinate offset
  by_column = refl

  -- Sample 0 of the reverse is the last, and sample 1 the one before it.
  reverse_far : (s : ℕ) →
      far_apart s (value (c.steps ∷ []) (λ k. g (3 - k)) (0 ∷ [])) (value (c.steps ∷ []) (λ k. g (3 - k)) (1 ∷ [])) ≡
      far_apart s (value (c.steps ∷ []) g ((c.steps - 1) ∷ [])) (value (c.steps ∷ []) g (suc (c.steps - 1) ∷ []))
  reverse_far s =
      let last : suc (c.steps - 1) ≡ c.steps = omega arith in
      let none : c.steps - c.steps ≡ 0 = omega arith in
      let one : c.steps - (c.steps - 1) ≡ 1 = omega arith in
      let ends = curve_reversed {n = c.steps} {i = c.steps} (omega arith) g in
      let before = curve_reversed {n = c.steps} {i = c.steps - 1} (omega arith) g in
      rw (last, ends, before, none, one) (far_either_way s _ _)

  pub last_long : long_of (pos (scale_of (curve_of c))) (delta 1 reversed 0) ≡ long_at c 0 (c.steps - 1)
  unfolding exact offset
  last_long =
      ap (λ f. long_of (pos (scale_of (curve_of c))) (delta 1 f 0)) by_column ∙
      long_far (curve_doubles c.steps (λ k. g (3 - k))) (scale_of (curve_of c)) some ∙
      reverse_far (scale_of (curve_of c)) ∙
      sym (long_far (along_doubles c x_axis) (scale_of (curve_of c)) (omega arith))
