-- The cells of a drawable object: each is within half a cell of its sample on every axis and inside the cube; a corner's
-- cell is its control point; the cells of neighbours are next to each other.
use mathlib.Core.Path.{◌≡◌}
use mathlib.Core.Logic.{⊎_elim}
use mathlib.Core.List.{List}
use Prim.Native.Nat.{ℕ, ◌+◌, ◌*◌, ◌-◌, ◌≤◌, ◌<◌}
use native.Mathlib.Omega.{arith}
use lib.Dec.{T, ltb}
use lib.ListN.{length, get_or, get_or-eq_default}
use Rattle.bezier.specs.Exact.{points, Sample, Corner}
use Rattle.bezier.proofs.Scale.{scale_positive}
use Rattle.bezier.proofs.Ends.{corner_value}
use Rattle.bezier.proofs.Mean.{value_below}
use Rattle.decide.proofs.Truth.{decided, less, not_less}
use Rattle.rounding.specs.Nearest.{Owns, within_half, AtMostOneApart, NextTo}
use Rattle.rounding.proofs.Half.{within_half_below}
use Rattle.rounding.proofs.Nearest.{nearest_owns, nearest_within_half, nearest_whole, nearest_next_to}
use Rattle.neighbours.specs.Steps.{Neighbours}
use Rattle.neighbours.proofs.Long.{not_far_apart}
use Rattle.cube.specs.Cube.{Axis, Inside}
use Rattle.drawing.specs.Object.{Object, scale_of, coordinate, offset, exact, cell_of}
use Rattle.drawing.specs.Refusals.{Drawable}

module _ {S : ℕ} {o : Object} (d : Drawable S o) where
  -- The scale of a drawable object is not 0.
  pub scale_of_positive : 0 < scale_of o
  scale_of_positive = scale_positive o.counts d.count_least

  -- Every coordinate of a point is below the side.
  pub point_below : (a : Axis) (k : ℕ) → coordinate o.points a k < S
  unfolding coordinate
  point_below a k =
      let j : ℕ = 3 * k + offset a in
      ⊎_elim (λ t. d.coordinate_below j ((less j (length o.points)).0 t))
      (λ f. let e : get_or o.points j 0 ≡ 0 = get_or-eq_default o.points 0 (not_less j (length o.points) f) in
      omega (arith, e, d.side_least))
      (decided (ltb j (length o.points)))

  -- A cell within half a cell of a sample on an axis is inside the cube on that axis.
  pub near_inside : (a : Axis) {is : List ℕ} {c : ℕ} → Sample o.counts is → T (within_half (scale_of o) c (exact o a is)) → c < S
  unfolding exact
  near_inside a {is} {c} b t =
      let top : exact o a is ≤ scale_of o * (S - 1) =
      value_below (coordinate o.points a) (S - 1) b (λ k h. omega (arith, point_below a k)) in
      omega (arith, within_half_below (scale_of o) c (exact o a is) (S - 1) scale_of_positive t top, d.side_least)

  -- A sample's cell owns its exact value, on every axis.
  pub cell_owns : (is : List ℕ) (a : Axis) → Owns (scale_of o) (cell_of o is a) (exact o a is)
  unfolding cell_of
  cell_owns is a = nearest_owns scale_of_positive (exact o a is)

  -- A sample's cell is within half a cell of its exact value, on every axis.
  pub cell_within : (is : List ℕ) (a : Axis) → T (within_half (scale_of o) (cell_of o is a) (exact o a is))
  unfolding cell_of
  cell_within is a = nearest_within_half scale_of_positive (exact o a is)

  -- A sample's cell is a cell of the cube.
  pub cell_inside : {is : List ℕ} → Sample o.counts is → Inside S (cell_of o is)
  cell_inside {is} b a = near_inside a b (cell_within is a)

  -- A corner's cell is its control point: the first cell of a curve is point 0, the last point 3.
  pub corner_cell : {is : List ℕ} {p : ℕ} → Corner o.counts is p → (a : Axis) → cell_of o is a ≡ coordinate o.points a p
  unfolding cell_of exact
  corner_cell {p} c a =
      rw (corner_value (coordinate o.points a) c) (nearest_whole scale_of_positive (coordinate o.points a p))

  -- Neighbouring samples are at most one cell apart.
  pub neighbours_near : {is js : List ℕ} → Neighbours o.counts is js → (a : Axis) →
      AtMostOneApart (scale_of o) (exact o a is) (exact o a js)
  neighbours_near {is} {js} n a =
      not_far_apart (scale_of o) (exact o a is) (exact o a js)
      (λ t. d.steps_short a (record { from = is; to = js; neighbours = n; far = t }))

  -- Document 02, A.4: the cells of any two neighbouring samples, along whichever parameter and everywhere, differ by at
  -- most one on each axis.
  pub cells_next_to : {is js : List ℕ} → Neighbours o.counts is js → (a : Axis) → NextTo (cell_of o is a) (cell_of o js a)
  unfolding cell_of
  cells_next_to n a = nearest_next_to scale_of_positive (neighbours_near n a)
