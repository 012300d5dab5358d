-- The largest gap in words: no gap is larger, and some gap is as large.
use mathlib.Core.Path.{◌≡◌, ◌∙◌}
use mathlib.Core.Logic.{◌⊎◌, inl, inr, ⊎_elim}
use mathlib.Core.List.{List}
use Prim.Native.Nat.{ℕ, zero, suc, ◌+◌, ◌≤◌, ◌<◌, max}
use native.Mathlib.Omega.{arith}
use lib.Dec.{leb, lit<}
use Rattle.decide.proofs.Truth.{decided, at_most, not_at_most}
use Rattle.cube.specs.Cube.{Axis, x_axis, y_axis, z_axis}
use Rattle.gaps.specs.Gaps.{gap, gap_after, gap_along, largest_gap}

-- A gap leads from one coordinate up to the other.
pub gap_leads : (g h : ℕ) → (g + gap g h ≡ h) ⊎ (h + gap g h ≡ g)
unfolding gap
gap_leads g h =
    ⊎_elim (λ t. inl (omega (arith, (at_most g h).0 t))) (λ f. inr (omega (arith, not_at_most g h f))) (decided (leb g h))

-- A maximum is one of the two.
larger_one : (m n : ℕ) → (max m n ≡ m) ⊎ (max m n ≡ n)
larger_one m n =
    ⊎_elim (λ t. inr (omega (arith, (at_most m n).0 t))) (λ f. inl (omega (arith, not_at_most m n f))) (decided (leb m n))

module _ (points : List ℕ) where
  -- On an axis.
  along_most : (a : Axis) (k : ℕ) → k < 3 → gap_after points a k ≤ gap_along points a
  unfolding gap_along
  along_most a zero l = omega arith
  along_most a (suc zero) l = omega arith
  along_most a (suc (suc zero)) l = omega arith
  along_most a (suc (suc (suc k))) l = absurd (omega arith)

  along_some : (a : Axis) → (k : ℕ) × (k < 3) × (gap_along points a ≡ gap_after points a k)
  unfolding gap_along
  along_some a =
      ⊎_elim (λ e. (0, lit< tt, e))
      (λ e.
      ⊎_elim (λ f. (1, lit< tt, e ∙ f)) (λ f. (2, lit< tt, e ∙ f)) (larger_one (gap_after points a 1) (gap_after points a 2)))
      (larger_one (gap_after points a 0) _)

  axis_most : (a : Axis) → gap_along points a ≤ largest_gap points
  unfolding largest_gap
  axis_most x_axis = omega arith
  axis_most y_axis = omega arith
  axis_most z_axis = omega arith

  axis_some : (a : Axis) × (largest_gap points ≡ gap_along points a)
  unfolding largest_gap
  axis_some =
      ⊎_elim (λ e. (x_axis, e))
      (λ e.
      ⊎_elim (λ f. (y_axis, e ∙ f)) (λ f. (z_axis, e ∙ f)) (larger_one (gap_along points y_axis) (gap_along points z_axis)))
      (larger_one (gap_along points x_axis) _)

  -- On every axis.
  pub none_larger : (a : Axis) (k : ℕ) → k < 3 → gap_after points a k ≤ largest_gap points
  none_larger a k l = omega (arith, along_most a k l, axis_most a)

  pub some_as_large : (a : Axis) × (k : ℕ) × (k < 3) × (largest_gap points ≡ gap_after points a k)
  some_as_large =
      let w = axis_some in
      let u = along_some w.0 in
      (w.0, u.0, u.1, w.1 ∙ u.2)
