-- The tests of the cube in words: a side's range, and some axis.
use mathlib.Core.Logic.{◌↔◌, inl, inr, ⊎_elim}
use mathlib.Core.Bool.{Bool, ◌||◌}
use Prim.Native.Nat.{ℕ, ◌≤◌}
use native.Mathlib.Omega.{arith}
use lib.Dec.{T, ltb}
use Rattle.decide.proofs.Truth.{either, neither, less, not_less}
use Rattle.cube.specs.Cube.{Axis, x_axis, y_axis, z_axis, some_axis, side_out}

-- A side that is not out of range lies from 2 to 64.
pub side_in_lem : (S : ℕ) → (¬ T (side_out S)) ↔ ((2 ≤ S) × (S ≤ 64))
unfolding side_out
side_in_lem S = (
  λ f. let p = (neither (ltb S 2) (ltb 64 S)).0 f in (not_less S 2 p.0, not_less 64 S p.1),
  λ h. (neither (ltb S 2) (ltb 64 S)).1
      (λ t. omega (arith, (less S 2).0 t, h.0), λ t. omega (arith, (less 64 S).0 t, h.1)),
)

-- Some axis passes.
pub some_axis_lem : (p : Axis → Bool) → T (some_axis p) ↔ ((a : Axis) × T (p a))
unfolding some_axis
some_axis_lem p = (
  λ t. ⊎_elim
      (λ u. ⊎_elim (λ v. (x_axis, v)) (λ v. (y_axis, v)) ((either (p x_axis) (p y_axis)).0 u))
      (λ v. (z_axis, v))
      ((either (p x_axis || p y_axis) (p z_axis)).0 t),
  λ w. seen w.0 w.1,
)
  where
    seen : (a : Axis) → T (p a) → T (p x_axis || p y_axis || p z_axis)
    seen x_axis t = (either (p x_axis || p y_axis) (p z_axis)).1 (inl ((either (p x_axis) (p y_axis)).1 (inl t)))
    seen y_axis t = (either (p x_axis || p y_axis) (p z_axis)).1 (inl ((either (p x_axis) (p y_axis)).1 (inr t)))
    seen z_axis t = (either (p x_axis || p y_axis) (p z_axis)).1 (inr t)
