-- Where the test of a curve quits no step is too long.
use mathlib.Core.Path.{◌≡◌}
use mathlib.Core.Logic.{◌↔◌, ⊎_elim}
use mathlib.Core.Bool.{false}
use mathlib.Core.List.{List, [], ◌∷◌}
use Prim.Native.Nat.{ℕ, suc, ◌+◌, ◌*◌, ◌≤◌, ◌<◌}
use native.Mathlib.Omega.{arith}
use lib.Dec.{T, lit<}
use Rattle.integers.proofs.Difference.{zval}
use Rattle.integers.specs.Magnitude.{Within}
use Rattle.bezier.specs.Exact.{scale, no_index}
use Rattle.decide.proofs.Truth.{at_most, false_of}
use Rattle.neighbours.specs.Steps.{far_apart, Neighbours, first, later}
use Rattle.neighbours.proofs.Long.{far_apart_lem}
use Rattle.cube.specs.Cube.{Axis}
use Rattle.drawing.specs.declared.Choice.{Choice}
use Rattle.drawing.specs.Object.{Object, curve, coordinate, scale_of, exact}
use Rattle.drawing.specs.Refusals.{steps_too_long}
use Rattle.drawing.proofs.Accepted.{steps_too_long_lem}
use Rattle.gaps.specs.Gaps.{gap_after, largest_gap, quits}
use Rattle.gaps.specs.Weights.{◌to◌}
use Rattle.gaps.proofs.Weights.{step_within}
use Rattle.gaps.proofs.Largest.{none_larger}

-- The test in words.
pub quits_where : (points : List ℕ) (n : ℕ) → T (quits points n) ↔ (3 * largest_gap points ≤ n)
unfolding quits
quits_where points n = at_most (3 * largest_gap points) n

-- Values that differ by at most the scale are not far apart.
near : (s v w : ℕ) → Within s (v to w) → ¬ T (far_apart s v w)
near s v w b t = ⊎_elim (λ l. omega (arith, (apart b).0, l)) (λ l. omega (arith, (apart b).1, l)) ((far_apart_lem s v w).0 t)
  where
    apart : Within s (v to w) → (w ≤ v + s) × (v ≤ w + s)
    apart = simp zval (λ h. (omega arith, omega arith))

module _ (points : List ℕ) (n : ℕ) (mark : ℕ) (choice : Choice) (q : T (quits points n)) where
  abbrev o : Object
  o = curve n points mark choice

  -- No step is more than one cell long.
  step_short : (a : Axis) {i : ℕ} → i < n → ¬ T (far_apart (scale_of o) (exact o a (i ∷ [])) (exact o a (suc i ∷ [])))
  unfolding exact scale gap_after
  step_short a {i} h =
      let gaps = none_larger points a in
      let b = step_within (coordinate points a) (largest_gap points) h ((quits_where points n).0 q)
      (gaps 0 (lit< tt)) (gaps 1 (lit< tt)) (gaps 2 (lit< tt)) in
      let one : n * n * n * 1 ≡ n * n * n = omega arith in
      near _ _ _ (rw one b)

  pub quits_short : steps_too_long o ≡ false
  quits_short = false_of _ (λ t. let w = (steps_too_long_lem o).0 t in by_neighbours w.0 w.1.neighbours w.1.far)
    where
      by_neighbours : (a : Axis) {is js : List ℕ} → Neighbours (n ∷ []) is js →
          ¬ T (far_apart (scale_of o) (exact o a is) (exact o a js))
      by_neighbours a (first h no_index) t = step_short a h t
      by_neighbours a (later h m) t = elim m [ ]
