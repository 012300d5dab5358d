-- A curve and a patch as document 01 writes them are instances of the one definition over a list of step counts. All
-- hold by computation.
use mathlib.Core.Path.{◌≡◌, refl}
use mathlib.Core.List.{[], ◌∷◌}
use Prim.Native.Nat.{ℕ}
use Rattle.bezier.specs.Exact.{blend, points, value}

module _ (g : ℕ → ℕ) where
  -- A curve's value is B of its four points.
  pub curve_value : (n i : ℕ) → value (n ∷ []) g (i ∷ []) ≡ blend n i (g 0) (g 1) (g 2) (g 3)
  unfolding value points
  curve_value n i = refl

  -- A patch's value takes the same weights along t and along u, with g(i, j) at point number 4 × i + j.
  pub patch_value : (n m i j : ℕ) →
      value (n ∷ m ∷ []) g (i ∷ j ∷ []) ≡
      blend n i
      (blend m j (g 0) (g 1) (g 2) (g 3))
      (blend m j (g 4) (g 5) (g 6) (g 7))
      (blend m j (g 8) (g 9) (g 10) (g 11))
      (blend m j (g 12) (g 13) (g 14) (g 15))
  unfolding value points
  patch_value n m i j = refl
