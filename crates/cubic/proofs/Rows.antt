-- Equation 23 without a second identity. Four sequences along t have values and differences; blended along u these are
-- the value and the differences of the row, since differences commute with the blend. The sequences may themselves be
-- rows, blended along a further parameter.
use mathlib.Core.Path.{◌≡◌, ◌∙◌}
use Prim.Native.Nat.{ℕ}
use lib.IntN.{ℤ, pos}
use Rattle.cubic.specs.Blend.{samples, surface}
use Rattle.cubic.specs.Differences.{delta, IsCubic, IsBicubic}
use Rattle.cubic.proofs.Closed.{samples_cubic}
use Rattle.cubic.proofs.Linear.{delta_blend, blend_zero}

module _ (m : ℤ) (f0 f1 f2 f3 : ℕ → ℤ) where
  -- The k-th differences along t, from row to row, are a blend of those of the four sequences.
  pub row_delta : (k i j : ℕ) →
      delta k (λ a. surface m f0 f1 f2 f3 a j) i ≡
      samples m (delta k f0 i) (delta k f1 i) (delta k f2 i) (delta k f3 i) j
  unfolding samples
  row_delta k i j = delta_blend m (pos j) k f0 f1 f2 f3 i

  module _ (c0 : IsCubic f0) (c1 : IsCubic f1) (c2 : IsCubic f2) (c3 : IsCubic f3) where
    -- Each row is a cubic along t.
    row_cubic : (j : ℕ) → IsCubic (λ a. surface m f0 f1 f2 f3 a j)
    unfolding samples
    row_cubic j = record {
      fourth = λ i.
          delta_blend m (pos j) 4 f0 f1 f2 f3 i ∙
          rw (c0.fourth i, c1.fourth i, c2.fourth i, c3.fourth i) (blend_zero m (pos j));
    }

    -- And the blend itself is one along u.
    pub surface_bicubic : IsBicubic (surface m f0 f1 f2 f3)
    surface_bicubic = record { along_t = row_cubic; along_u = λ i. samples_cubic m (f0 i) (f1 i) (f2 i) (f3 i) }
