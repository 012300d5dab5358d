-- No count below the distance from the first point to the last is accepted: n steps of at most one cell each lead at most n
-- cells far.
use mathlib.Core.Path.{◌≡◌}
use mathlib.Core.Logic.{⊎_elim}
use mathlib.Core.Bool.{true}
use mathlib.Core.List.{List, [], ◌∷◌}
use Prim.Native.Nat.{ℕ, zero, suc, ◌+◌, ◌*◌, ◌≤◌, ◌<◌}
use native.Mathlib.Nat.{mul-le-mul_left}
use native.Mathlib.Omega.{arith}
use lib.Dec.{T, leb}
use Rattle.bezier.specs.Exact.{points as pointCount, no_index, no_corner, first as at_first, last as at_last}
use Rattle.bezier.proofs.Scale.{scale_positive}
use Rattle.bezier.proofs.Ends.{corner_value}
use Rattle.decide.proofs.Truth.{decided, true_of, at_most, not_at_most}
use Rattle.rounding.specs.Nearest.{AtMostOneApart}
use Rattle.neighbours.specs.Steps.{first}
use Rattle.neighbours.proofs.Long.{not_far_apart}
use Rattle.cube.specs.Cube.{Axis, x_axis, y_axis, z_axis}
use Rattle.drawing.specs.declared.Choice.{Choice}
use Rattle.drawing.specs.Object.{Object, curve, coordinate, scale_of, exact}
use Rattle.drawing.specs.Refusals.{steps_too_long}
use Rattle.drawing.proofs.Accepted.{steps_too_long_lem}
use Rattle.gaps.specs.Gaps.{gap, ends_along, ends_apart}

-- What holds over a scale holds.
unscaled : (s x y : ℕ) → 1 ≤ s → s * x ≤ s * y → x ≤ y
unscaled s x y some h =
    ⊎_elim (λ t. (at_most x y).0 t) (λ f. absurd (omega (arith, mul-le-mul_left s (not_at_most x y f), h, some)))
    (decided (leb x y))

module _ (points : List ℕ) (n mark : ℕ) (choice : Choice) where
  abbrev o : Object
  o = curve n points mark choice

  scale_some : 1 ≤ n → 1 ≤ scale_of o
  scale_some h = scale_positive (n ∷ []) (λ k l. let z : k ≡ 0 = omega arith in rw z h)

  module _ (a : Axis) (short : ¬ T (steps_too_long o)) where
    abbrev at : ℕ → ℕ
    at i = exact o a (i ∷ [])

    step : (i : ℕ) → i < n → AtMostOneApart (scale_of o) (at i) (at (suc i))
    step i h =
        not_far_apart _ _ _ (λ t. short ((steps_too_long_lem o).1
        (a, record { from = i ∷ []; to = suc i ∷ []; neighbours = first h no_index; far = t })))

    -- After i steps.
    walked : (i : ℕ) → i ≤ n → AtMostOneApart (i * scale_of o) (at 0) (at i)
    walked zero h = record { up = omega arith; down = omega arith }
    walked (suc i) h =
        let w = walked i (omega arith) in
        let s = step i (omega arith) in
        record { up = omega (arith, w.up, s.up); down = omega (arith, w.down, s.down) }

    -- The first sample is at the first point, and the last at the last.
    at_0 : at 0 ≡ scale_of o * coordinate points a 0
    unfolding exact
    at_0 = corner_value (coordinate points a) (at_first no_corner)

    at_n : at n ≡ scale_of o * coordinate points a 3
    unfolding exact pointCount
    at_n = corner_value (coordinate points a) (at_last no_corner)

    -- Over the scale.
    ends_along_lem : 1 ≤ n → ends_along points a ≤ n
    unfolding ends_along gap
    ends_along_lem h =
        let w = walked n (omega arith) in
        let s = scale_some h in
        let g : coordinate points a 3 ≤ coordinate points a 0 + n =
        unscaled (scale_of o) _ _ s (omega (arith, w.up, at_0, at_n)) in
        let l : coordinate points a 0 ≤ coordinate points a 3 + n =
        unscaled (scale_of o) _ _ s (omega (arith, w.down, at_0, at_n)) in
        omega arith

  -- On every axis.
  ends_within : 1 ≤ n → ¬ T (steps_too_long o) → ends_apart points ≤ n
  unfolding ends_apart
  ends_within h short =
      omega (arith, ends_along_lem x_axis short h, ends_along_lem y_axis short h, ends_along_lem z_axis short h)

  -- So below the distance on an axis, and below the largest, some step is too long.
  refused_below : {m : ℕ} → (¬ T (steps_too_long o) → m ≤ n) → n < m → steps_too_long o ≡ true
  refused_below far l = ⊎_elim (λ t. true_of _ t) (λ short. absurd (omega (arith, far short))) (decided (steps_too_long o))

  pub axis_refused : (a : Axis) → 1 ≤ n → n < ends_along points a → steps_too_long o ≡ true
  axis_refused a h l = refused_below (λ short. ends_along_lem a short h) l

  pub ends_refused : 1 ≤ n → n < ends_apart points → steps_too_long o ≡ true
  ends_refused h l = refused_below (ends_within h) l
