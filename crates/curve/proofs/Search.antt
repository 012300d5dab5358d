-- A long step by the number of its axis: what the search over axes and samples finds, or finds nowhere.
use mathlib.Core.Path.{◌≡◌, refl, sym}
use mathlib.Core.Logic.{⊎_elim}
use mathlib.Core.Bool.{true, false}
use mathlib.Core.List.{List, [], ◌∷◌}
use Prim.Native.Nat.{ℕ, suc, ◌+◌, ◌-◌, ◌≤◌, ◌<◌}
use native.Mathlib.Omega.{arith}
use lib.Dec.{T}
use Rattle.bezier.specs.Exact.{no_index}
use Rattle.decide.specs.Some.{some_below}
use Rattle.decide.proofs.Some.{some_below_lem}
use Rattle.decide.proofs.Truth.{decided, same_test, true_of, false_of, false_iff}
use Rattle.neighbours.specs.Steps.{far_apart, Neighbours, first, later}
use Rattle.cube.specs.Cube.{Axis}
use Rattle.drawing.specs.Object.{offset, scale_of, exact}
use Rattle.drawing.specs.Refusals.{steps_too_long}
use Rattle.drawing.proofs.Accepted.{steps_too_long_lem}
use Rattle.cubic.proofs.LongStep.{long_far}
use Rattle.curve.specs.declared.Curve.{Curve}
use Rattle.curve.specs.Curve.{curve_of}
use Rattle.curve.specs.Machine.{long_at, long_along, long_between}
use Rattle.scan.proofs.Axes.{axis_numbered, offset_small}
use Rattle.curve.proofs.Along.{along_doubles}

module _ (c : Curve) where
  -- The step from sample i is too long by its difference exactly where the neighbours lie more than one cell apart.
  long_at_lem : (a : Axis) {i : ℕ} → i < c.steps →
      long_at c (offset a) i ≡
      far_apart (scale_of (curve_of c)) (exact (curve_of c) a (i ∷ [])) (exact (curve_of c) a (suc i ∷ []))
  long_at_lem a h = long_far (along_doubles c a) (scale_of (curve_of c)) h

  -- A long step on some axis is one of the curve.
  pub found : (a : ℕ) → a < 3 → long_along c a ≡ true → steps_too_long (curve_of c) ≡ true
  found a ha e =
      let ax = axis_numbered a ha in
      let w = (some_below_lem (long_at c a) c.steps).0 (rw e tt) in
      true_of _ ((steps_too_long_lem (curve_of c)).1 (
        ax.0,
        record {
          from = w.0 ∷ [];
          to = suc w.0 ∷ [];
          neighbours = first w.1 no_index;
          far = rw (sym (long_at_lem ax.0 w.1), ax.1) w.2;
        },
      ))

  -- Where no axis has one, there is none.
  pub nowhere : ((a : ℕ) → a < 3 → long_along c a ≡ false) → steps_too_long (curve_of c) ≡ false
  nowhere none =
      false_of _ (λ t. let w = (steps_too_long_lem (curve_of c)).0 t in
      by_neighbours w.0 w.1.neighbours w.1.far)
    where
      by_neighbours : (a : Axis) {is js : List ℕ} → Neighbours (c.steps ∷ []) is js →
          ¬ T (far_apart (scale_of (curve_of c)) (exact (curve_of c) a is) (exact (curve_of c) a js))
      by_neighbours a (first {i = i} h no_index) t =
          (false_iff _).0 (none (offset a) (offset_small a))
          ((some_below_lem (long_at c (offset a)) c.steps).1 (i, h, rw (long_at_lem a h) t))
      by_neighbours a (later h n) t = elim n [ ]

  module _ (from to : ℕ) where
    -- What the search over axes and samples finds,
    pub between_found : (a i : ℕ) → from ≤ a → a < to → i < c.steps → long_at c a i ≡ true → long_between c from to ≡ true
    between_found a i l h hi e =
        let z : from + (a - from) ≡ a = omega arith in
        true_of _ ((some_below_lem (λ k. long_along c (from + k)) (to - from)).1
        (a - from, omega arith, (some_below_lem (long_at c (from + (a - from))) c.steps).1 (i, hi, rw (z, e) tt)))

    -- or finds nowhere.
    pub between_nowhere : ((a : ℕ) → from ≤ a → a < to → (i : ℕ) → i < c.steps → long_at c a i ≡ false) →
        long_between c from to ≡ false
    between_nowhere none =
        false_of _ (λ t. let w = (some_below_lem (λ k. long_along c (from + k)) (to - from)).0 t in
        let u = (some_below_lem (long_at c (from + w.0)) c.steps).0 w.2 in
        rw (none (from + w.0) (omega arith) (omega (arith, w.1)) u.0 u.1) at u.2)

  -- All three axes.
  pub all_axes : long_between c 0 3 ≡ steps_too_long (curve_of c)
  all_axes =
      same_test _ _
      (λ t. let w = (some_below_lem (λ k. long_along c (0 + k)) 3).0 t in
      rw (found (0 + w.0) (omega (arith, w.1)) (true_of _ w.2)) tt)
      (λ t. ⊎_elim (λ u. u)
      (λ f. absurd ((false_iff _).0 (nowhere (λ a h. false_of _ (λ u. f (by_number a h u)))) t))
      (decided (long_between c 0 3)))
    where
      by_number : (a : ℕ) → a < 3 → T (long_along c a) → T (long_between c 0 3)
      by_number a h u =
          let z : 0 + a ≡ a = omega arith in
          (some_below_lem (λ k. long_along c (0 + k)) 3).1 (a, h, rw z u)

  -- One axis.
  pub one_axis : long_between c 0 1 ≡ long_along c 0
  unfolding some_below
  one_axis = refl
