-- A curve and its flip have the same samples, from the last to the first.
use mathlib.Core.Path.{◌≡◌, refl, sym, ◌∙◌, ap, subst}
use mathlib.Core.Logic.{◌⊎◌, inr}
use mathlib.Core.List.{List, [], ◌∷◌}
use Prim.Native.Nat.{ℕ, zero, suc, ◌-◌, ◌≤◌, ◌<◌}
use native.Mathlib.Omega.{arith}
use lib.ListN.{length, get_or}
use Rattle.bezier.specs.Exact.{points as pointCount, Sample, no_index, index}
use Rattle.bezier.proofs.Mean.{value_same}
use Rattle.bezier.proofs.Reversed.{curve_reversed}
use Rattle.decide.specs.Some.{some_below}
use Rattle.neighbours.specs.Steps.{Neighbours, first, later}
use Rattle.cube.specs.Cube.{Axis}
use Rattle.drawing.specs.declared.Choice.{Choice}
use Rattle.drawing.specs.Object.{curve, coordinate, exact, cell_of}
use Rattle.drawing.specs.Refusals.{coordinate_out}
use Rattle.flip.specs.Flip.{reversed_numbers, reversed}
use Rattle.flip.proofs.Points.{point_at, Involution, unpaired, involution, points_twice, same_found}
use Rattle.flip.proofs.Samples.{Among, same_cell, Reordered}

-- In the place of k stands 3 - k.
reversed_number : (k : ℕ) → k < 4 → get_or reversed_numbers k 0 ≡ 3 - k
reversed_number zero h = refl
reversed_number (suc zero) h = refl
reversed_number (suc (suc zero)) h = refl
reversed_number (suc (suc (suc zero))) h = refl
reversed_number (suc (suc (suc (suc k)))) h = absurd (omega arith)

reversed_involution : Involution reversed_numbers
unfolding some_below unpaired
reversed_involution = involution reversed_numbers refl

-- Twice gives back the points.
pub reversed_twice : (points : List ℕ) → length points ≡ 12 → reversed (reversed points) ≡ points
unfolding reversed
reversed_twice points h = points_twice points reversed_numbers reversed_involution h

-- Point k of the flip is point 3 - k.
pub point_reversed : (points : List ℕ) (k : ℕ) → k < 4 → (a : Axis) → coordinate (reversed points) a k ≡ coordinate points a (3 - k)
unfolding reversed
point_reversed points k h a = point_at points reversed_numbers k h a ∙ ap (coordinate points a) (reversed_number k h)

-- Sample n - i for sample i.
abbrev backwards : (n : ℕ) → List ℕ → List ℕ
backwards n [] = []
backwards n (i ∷ is) = (n - i) ∷ is

module _ (n : ℕ) (mark : ℕ) (choice : Choice) where
  module _ (points : List ℕ) where
    pub value_reversed : (i : ℕ) → i ≤ n → (a : Axis) →
        exact (curve n points mark choice) a (i ∷ []) ≡ exact (curve n (reversed points) mark choice) a ((n - i) ∷ [])
    unfolding exact pointCount
    value_reversed i h a =
        curve_reversed h (coordinate points a) ∙
        value_same (n ∷ []) ((n - i) ∷ []) (λ k. coordinate points a (3 - k)) (coordinate (reversed points) a)
        (λ k l. sym (point_reversed points k l a))

    sample_back : {is : List ℕ} → Sample (n ∷ []) is → Sample (n ∷ []) (backwards n is)
    sample_back (index {i = i} h no_index) = index {n = n} {i = n - i} (omega arith) no_index

    values : {is : List ℕ} → Sample (n ∷ []) is → (a : Axis) →
        exact (curve n points mark choice) a is ≡ exact (curve n (reversed points) mark choice) a (backwards n is)
    values (index {i = i} h no_index) a = value_reversed i h a

    -- Samples i and i + 1 become samples n - (i + 1) and n - i, the other way round.
    neighbours_back : {is js : List ℕ} → Neighbours (n ∷ []) is js →
        Neighbours (n ∷ []) (backwards n is) (backwards n js) ⊎ Neighbours (n ∷ []) (backwards n js) (backwards n is)
    neighbours_back (first {i = i} h no_index) =
        let e : suc (n - suc i) ≡ n - i = omega arith in
        inr (subst (λ k. Neighbours (n ∷ []) ((n - suc i) ∷ []) (k ∷ [])) e (first {n = n} {i = n - suc i} (omega arith) no_index))
    neighbours_back (later h b) = elim b [ ]

    reversed_among : Among (curve n points mark choice) (curve n (reversed points) mark choice)
    reversed_among = record {
      scales = refl;
      to = backwards n;
      sample = sample_back;
      value = values;
      neighbours = neighbours_back;
    }

    pub cell_reversed : (i : ℕ) → i ≤ n →
        cell_of (curve n points mark choice) (i ∷ []) ≡ cell_of (curve n (reversed points) mark choice) ((n - i) ∷ [])
    unfolding reversed_among
    cell_reversed i h = same_cell reversed_among (index h no_index)

  pub curve_reordered : (points : List ℕ) → length points ≡ 12 →
      Reordered (curve n points mark choice) (curve n (reversed points) mark choice)
  unfolding reversed
  curve_reordered points h = record {
    there = reversed_among points;
    back = subst (λ l. Among (curve n (reversed points) mark choice) (curve n l mark choice)) (reversed_twice points h)
        (reversed_among (reversed points));
    mark = refl;
    choice = refl;
    most = refl;
    counts = λ test. refl;
    coordinates = λ S. sym (same_found points reversed_numbers reversed_involution h (coordinate_out S));
    so_many = refl;
  }
