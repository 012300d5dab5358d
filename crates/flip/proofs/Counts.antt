-- A curve and its flip have the same gaps, so the step test quits for both or for neither; and the box chooses the same count
-- for both.
use mathlib.Core.Path.{◌≡◌, sym, ◌∙◌, subst}
use mathlib.Core.List.{List}
use Prim.Native.Nat.{ℕ}
use native.Mathlib.Omega.{arith}
use lib.ListN.{length}
use Rattle.decide.specs.Some.{some_of}
use Rattle.cube.specs.Cube.{Axis, x_axis, y_axis, z_axis}
use Rattle.drawing.specs.declared.Choice.{Choice}
use Rattle.drawing.specs.declared.Choice.TheVariants.{Over}
use Rattle.drawing.specs.Object.{curve, coordinate}
use Rattle.drawing.specs.Refusals.{coordinate_out}
use Rattle.gaps.specs.Gaps.{gap, gap_after, gap_along, largest_gap, quits}
use Rattle.scan.proofs.Alike.{Alike}
use Rattle.chosen.specs.Chosen.{refuses_count, chosen, chosen_order, count_verdict, chosen_curve, chosen_drawing}
use Rattle.chosen.proofs.Least.{from_1, is_accepted, none_smaller, smallest_is}
use Rattle.flip.specs.Flip.{reversed}
use Rattle.flip.proofs.Samples.{Reordered, same_long, judged_alike}
use Rattle.flip.proofs.Curves.{point_reversed, curve_reordered}

-- The gap is the same from either end.
gap_either_way : (g h : ℕ) → gap g h ≡ gap h g
unfolding gap
gap_either_way g h = omega arith

module _ (points : List ℕ) where
  same_gap_along : (a : Axis) → gap_along (reversed points) a ≡ gap_along points a
  unfolding gap_along gap_after
  same_gap_along a =
      let g : ℕ → ℕ = coordinate points a in
      rw (
        point_reversed points 0 (omega arith) a,
        point_reversed points 1 (omega arith) a,
        point_reversed points 2 (omega arith) a,
        point_reversed points 3 (omega arith) a,
      )
      (omega (arith, gap_either_way (g 3) (g 2), gap_either_way (g 2) (g 1), gap_either_way (g 1) (g 0)))

  same_gap : largest_gap (reversed points) ≡ largest_gap points
  unfolding largest_gap
  same_gap = rw (same_gap_along x_axis, same_gap_along y_axis, same_gap_along z_axis)

  pub same_quit : (n : ℕ) → quits (reversed points) n ≡ quits points n
  unfolding quits
  same_quit n = rw same_gap

module _ (points : List ℕ) (h : length points ≡ 12) where
  -- The curve rule refuses the same counts,
  same_refused : (n : ℕ) → refuses_count points n ≡ refuses_count (reversed points) n
  unfolding refuses_count
  same_refused n = same_long (curve_reordered n 0 Over points h)

  -- so that the smallest accepted one is the same.
  pub same_chosen : chosen (reversed points) ≡ chosen points
  same_chosen =
      sym (smallest_is (reversed points) (chosen points) (from_1 points)
      (sym (same_refused (chosen points)) ∙ is_accepted points)
      (λ n l b. sym (same_refused n) ∙ none_smaller points n l b))

  chosen_reordered : (mark : ℕ) (choice : Choice) →
      Reordered (chosen_curve points mark choice) (chosen_curve (reversed points) mark choice)
  chosen_reordered mark choice =
      subst (λ n. Reordered (chosen_curve points mark choice) (curve n (reversed points) mark choice)) (sym same_chosen)
      (curve_reordered (chosen points) mark choice points h)

  same_coordinates : (S : ℕ) → some_of (coordinate_out S) points ≡ some_of (coordinate_out S) (reversed points)
  same_coordinates S = (curve_reordered 0 0 Over points h).coordinates S

  -- The two calls have the same refusals.
  pub same_count_verdict : (S : ℕ) → count_verdict S points ≡ count_verdict S (reversed points)
  unfolding count_verdict chosen_order
  same_count_verdict S = rw (same_coordinates S)

  same_chosen_verdict : (S : ℕ) (mark : ℕ) (choice : Choice) (gridLength : ℕ) →
      (chosen_drawing S points mark choice).verdict gridLength ≡ (chosen_drawing S (reversed points) mark choice).verdict gridLength
  unfolding chosen_order
  same_chosen_verdict S mark choice gridLength = rw (same_coordinates S)

  -- And do the same.
  pub chosen_alike : (S mark : ℕ) (choice : Choice) →
      Alike (chosen_drawing S points mark choice) (chosen_drawing S (reversed points) mark choice)
  chosen_alike S mark choice = judged_alike S (chosen_reordered mark choice) _ _ (same_chosen_verdict S mark choice)
