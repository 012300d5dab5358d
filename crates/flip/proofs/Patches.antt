-- A patch and its flip have the same samples, with the two indices exchanged. What is said of samples is said of the first two
-- parameters, whatever parameters come after them.
use mathlib.Core.Path.{◌≡◌, refl, sym, ◌∙◌, ap, subst}
use mathlib.Core.Logic.{inl, inr, ⊎_elim}
use mathlib.Core.Bool.{Bool, false, not}
use mathlib.Core.List.{List, [], ◌∷◌}
use Prim.Native.Nat.{ℕ, ◌+◌, ◌*◌, ◌≤◌, ◌<◌}
use native.Mathlib.Omega.{arith}
use lib.Dec.{T, not_T, eqb}
use lib.ListN.{length, get_or}
use Rattle.bezier.specs.Exact.{scale, points as pointCount, Sample, no_index, index}
use Rattle.bezier.proofs.Exchanged.{Exchanged, value_exchanged}
use Rattle.decide.specs.Some.{some_below, some_of}
use Rattle.decide.proofs.Truth.{decided, either, equal, false_iff, same_test}
use Rattle.decide.proofs.Some.{some_below_lem}
use Rattle.neighbours.specs.Steps.{Neighbours, first, later}
use Rattle.cube.specs.Cube.{Axis}
use Rattle.drawing.specs.declared.Choice.{Choice}
use Rattle.drawing.specs.Object.{patch, coordinate, exact, cell_of}
use Rattle.drawing.specs.Refusals.{coordinate_out, sample_count}
use Rattle.flip.specs.Flip.{transposed_numbers, exchanged}
use Rattle.flip.proofs.Points.{point_at, Involution, unpaired, involution, points_twice, same_found}
use Rattle.flip.proofs.Samples.{Among, same_cell, Reordered}

-- The first two indices exchanged.
abbrev swap : List ℕ → List ℕ
swap [] = []
swap (i ∷ []) = i ∷ []
swap (i ∷ j ∷ is) = j ∷ i ∷ is

module _ {n m : ℕ} {ns : List ℕ} where
  sample_swapped : {is : List ℕ} → Sample (n ∷ m ∷ ns) is → Sample (m ∷ n ∷ ns) (swap is)
  sample_swapped (index h (index g s)) = index g (index h s)

  -- Neighbours along t become neighbours along u, and neighbours along u neighbours along t.
  neighbours_swapped : {is js : List ℕ} → Neighbours (n ∷ m ∷ ns) is js → Neighbours (m ∷ n ∷ ns) (swap is) (swap js)
  neighbours_swapped (first h (index g s)) = later g (first h s)
  neighbours_swapped (later h (first g s)) = first g (index h s)
  neighbours_swapped (later h (later g b)) = later g (later h b)

module _ (n m : ℕ) (ns : List ℕ) where
  scale_swapped : scale (n ∷ m ∷ ns) ≡ scale (m ∷ n ∷ ns)
  unfolding scale
  scale_swapped = omega arith

  count_swapped : sample_count (n ∷ m ∷ ns) ≡ sample_count (m ∷ n ∷ ns)
  unfolding sample_count
  count_swapped = omega arith

-- A test finds one of the counts, whichever comes first.
found_swapped : (p : ℕ → Bool) (n m : ℕ) (ns : List ℕ) → T (some_of p (n ∷ m ∷ ns)) → T (some_of p (m ∷ n ∷ ns))
unfolding some_of
found_swapped p n m ns t =
    ⊎_elim
    (λ a. (either (p m) _).1 (inr ((either (p n) _).1 (inl a))))
    (λ b. ⊎_elim
    (λ a. (either (p m) _).1 (inl a))
    (λ c. (either (p m) _).1 (inr ((either (p n) _).1 (inr c))))
    ((either (p m) (some_of p ns)).0 b))
    ((either (p n) _).0 t)

-- In the place of 4 × l + k stands 4 × k + l.
transposed_number : (k l : ℕ) → k < 4 → l < 4 → get_or transposed_numbers (4 * l + k) 0 ≡ 4 * k + l
unfolding some_below
transposed_number k l hk hl =
    ⊎_elim (λ t. (equal _ _).0 t)
    (λ f. absurd ((false_iff _).0 none ((some_below_lem row 4).1
    (k, hk, (some_below_lem (other k) 4).1 (l, hl, not_T (eqb (get_or transposed_numbers (4 * l + k) 0) (4 * k + l)) f)))))
    (decided (eqb (get_or transposed_numbers (4 * l + k) 0) (4 * k + l)))
  where
    other : ℕ → ℕ → Bool
    other k l = not (eqb (get_or transposed_numbers (4 * l + k) 0) (4 * k + l))

    row : ℕ → Bool
    row k = some_below 4 (other k)

    none : some_below 4 row ≡ false
    none = refl

transposed_involution : Involution transposed_numbers
unfolding some_below unpaired
transposed_involution = involution transposed_numbers refl

-- Twice gives back the points.
pub exchanged_twice : (points : List ℕ) → length points ≡ 48 → exchanged (exchanged points) ≡ points
unfolding exchanged
exchanged_twice points h = points_twice points transposed_numbers transposed_involution h

-- The control values of the flip.
points_exchanged : (points : List ℕ) (a : Axis) → Exchanged (pointCount []) (coordinate points a) (coordinate (exchanged points) a)
unfolding exchanged pointCount
points_exchanged points a k l hk hl p hp =
    let there : k * (4 * 1) + (l * 1 + p) ≡ 4 * k + l = omega arith in
    let back : l * (4 * 1) + (k * 1 + p) ≡ 4 * l + k = omega arith in
    rw (there, back)
    (sym (point_at points transposed_numbers (4 * l + k) (omega arith) a ∙ ap (coordinate points a) (transposed_number k l hk hl)))

module _ (mark : ℕ) (choice : Choice) where
  module _ (n m : ℕ) (points : List ℕ) where
    pub patch_value_exchanged : (i j : ℕ) (a : Axis) →
        exact (patch n m points mark choice) a (i ∷ j ∷ []) ≡ exact (patch m n (exchanged points) mark choice) a (j ∷ i ∷ [])
    unfolding exact
    patch_value_exchanged i j a =
        value_exchanged n m [] (coordinate points a) (coordinate (exchanged points) a) (points_exchanged points a) i j []

    values : {is : List ℕ} → Sample (n ∷ m ∷ []) is → (a : Axis) →
        exact (patch n m points mark choice) a is ≡ exact (patch m n (exchanged points) mark choice) a (swap is)
    values (index {i = i} h (index {i = j} g no_index)) a = patch_value_exchanged i j a

    exchanged_among : Among (patch n m points mark choice) (patch m n (exchanged points) mark choice)
    exchanged_among = record {
      scales = scale_swapped n m [];
      to = swap;
      sample = sample_swapped;
      value = values;
      neighbours = λ b. inl (neighbours_swapped b);
    }

    pub cell_exchanged : (i j : ℕ) → i ≤ n → j ≤ m →
        cell_of (patch n m points mark choice) (i ∷ j ∷ []) ≡ cell_of (patch m n (exchanged points) mark choice) (j ∷ i ∷ [])
    unfolding exchanged_among
    cell_exchanged i j h g = same_cell exchanged_among (index h (index g no_index))

  pub patch_reordered : (n m : ℕ) (points : List ℕ) → length points ≡ 48 →
      Reordered (patch n m points mark choice) (patch m n (exchanged points) mark choice)
  unfolding exchanged
  patch_reordered n m points h = record {
    there = exchanged_among n m points;
    back = subst (λ l. Among (patch m n (exchanged points) mark choice) (patch n m l mark choice)) (exchanged_twice points h)
        (exchanged_among m n (exchanged points));
    mark = refl;
    choice = refl;
    most = refl;
    counts = λ test. same_test _ _ (found_swapped test n m []) (found_swapped test m n []);
    coordinates = λ S. sym (same_found points transposed_numbers transposed_involution h (coordinate_out S));
    so_many = count_swapped n m [];
  }
