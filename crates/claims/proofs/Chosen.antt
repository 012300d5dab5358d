-- Document 02, A.6 holds. Then some counts, computed.
use mathlib.Core.Path.{◌≡◌, refl, sym, ◌∙◌}
use mathlib.Core.Logic.{inl, inr, ⊎_elim}
use mathlib.Core.Bool.{true, false}
use mathlib.Core.List.{List, [], ◌∷◌}
use Prim.Native.Nat.{ℕ, suc, ◌≤◌, ◌<◌}
use native.Mathlib.Omega.{arith}
use lib.Dec.{ltb}
use Rattle.bezier.specs.Exact.{blend, scale, points as pointCount, value}
use Rattle.decide.specs.Some.{some_below, some_of}
use Rattle.decide.specs.Refusal.{accepted, refused, first_that}
use Rattle.decide.proofs.Truth.{decided, less, not_less, false_of}
use Rattle.decide.proofs.FirstThat.{accepted_none}
use Rattle.neighbours.specs.Steps.{far_apart, some_sample, too_long}
use Rattle.cube.specs.Cube.{Axis, some_axis, side_out}
use Rattle.drawing.specs.declared.Choice.{Choice}
use Rattle.drawing.specs.Object.{curve, offset, coordinate, exact}
use Rattle.drawing.specs.Refusals.{count_out, coordinate_out, steps_too_long, order, draw_verdict, check_verdict}
use Rattle.drawing.proofs.Accepted.{count_in as one-count-in, check_accepted}
use Rattle.gaps.specs.Gaps.{gap, gap_after, gap_along, largest_gap, ends_along}
use Rattle.gaps.proofs.Largest.{none_larger, gap_leads}
use Rattle.gaps.proofs.Ends as ends
use Rattle.chosen.specs.Chosen.{refuses_count, first_accepted, chosen, chosen_order, count_verdict, chosen_curve, chosen_drawing}
use Rattle.chosen.proofs.Least as least
use Rattle.chosen.proofs.Orders as orders
use Rattle.claims.specs.Known.{along_x}
use Rattle.claims.specs.Chosen.{Smallest, AtASide, Claim}

module _ (points : List ℕ) where
  -- Where no gap is more than 0, all points agree.
  agree : largest_gap points ≡ 0 → (a : Axis) (k : ℕ) → k < 3 → coordinate points a k ≡ coordinate points a (suc k)
  unfolding gap_after
  agree z a k h =
      let l = none_larger points a k h in
      ⊎_elim (λ e. omega (arith, e, l)) (λ e. omega (arith, e, l))
      (gap_leads (coordinate points a k) (coordinate points a (suc k)))

  smallest : Smallest points
  smallest = record {
    from_1 = least.from_1 points;
    is_accepted = λ mark choice. sym (least.by_curve points (chosen points) mark choice) ∙ least.is_accepted points;
    no_smaller = λ n mark choice l h. sym (least.by_curve points n mark choice) ∙ least.none_smaller points n l h;
    at_most =
        let most = least.at_most_enough points in
        let some = least.from_1 points in
        ⊎_elim (λ t. inl (omega (arith, most, (less 0 (largest_gap points)).0 t)))
        (λ f. let none : largest_gap points ≡ 0 = omega (arith, not_less 0 (largest_gap points) f) in
        inr (agree none, omega (arith, most, some)))
        (decided (ltb 0 (largest_gap points)));
  }

  module _ (S : ℕ) (e : first_that (chosen_order S points false false) ≡ accepted) where
    most : chosen points ≤ 189
    most = least.at_most_189 points (orders.below_64 S points false false e)

    -- What the tests before the step test say.
    side_in_lem : side_out S ≡ false
    unfolding chosen_order
    side_in_lem = ((accepted_none (chosen_order S points false false)).0 e).0

    coordinates_in : some_of (coordinate_out S) points ≡ false
    unfolding chosen_order
    coordinates_in = ((accepted_none (chosen_order S points false false)).0 e).1.1.1.0

    count_in : (n : ℕ) → 1 ≤ n → n ≤ chosen points → some_of (count_out 512) (n ∷ []) ≡ false
    unfolding some_of
    count_in n l h = rw (false_of (count_out 512 n) ((one-count-in 512 n).1 (l, omega (arith, h, most))))

    -- A count below the chosen one.
    smaller : (n mark : ℕ) (choice : Choice) → 1 ≤ n → n < chosen points →
        check_verdict S (curve n points mark choice) ≡ refused 15
    unfolding check_verdict order first_that
    smaller n mark choice l h =
        rw (side_in_lem, count_in n l (omega arith), coordinates_in, smallest.no_smaller n mark choice l h)

    -- The two orders.
    same : (mark : ℕ) (choice : Choice) (gridLength : ℕ) →
        (chosen_drawing S points mark choice).verdict gridLength ≡ draw_verdict S gridLength (chosen_curve points mark choice)
    unfolding chosen_order draw_verdict order first_that
    same mark choice gridLength =
        rw (side_in_lem, count_in (chosen points) (least.from_1 points) (omega arith), coordinates_in, smallest.is_accepted mark choice)

    at_a_side : AtASide S points
    at_a_side = record {
      at_most_189 = most;
      neither_13_nor_15 = λ mark choice.
          (check_accepted S (chosen_curve points mark choice)).1 (orders.drawable S points false false e mark choice);
      smaller_15 = smaller;
      same_number = same;
    }

pub claim : Claim
unfolding count_verdict ends_along
claim = record {
  smallest = smallest;
  at_a_side = λ S points e. at_a_side points S e;
  accepted_as_drawn = orders.accepted_as_drawn;
  drawn_as_drawn = orders.drawn_as_drawn;
  below_the_ends = λ points a n mark choice l h. ends.axis_refused points n mark choice a l h;
}

-- On x: 0 0 0 6 has 17; where all points agree it is 1; and so it is for 0 0 3 0, whose two samples agree, though 6 is refused again.
pub computed :
    (chosen (along_x (0 ∷ 0 ∷ 0 ∷ 6 ∷ [])) ≡ 17) ×
    (chosen (5 ∷ 5 ∷ 5 ∷ 5 ∷ 5 ∷ 5 ∷ 5 ∷ 5 ∷ 5 ∷ 5 ∷ 5 ∷ 5 ∷ []) ≡ 1) ×
    (chosen (along_x (0 ∷ 0 ∷ 3 ∷ 0 ∷ [])) ≡ 1) ×
    (refuses_count (along_x (0 ∷ 0 ∷ 3 ∷ 0 ∷ [])) 6 ≡ true)
unfolding blend scale pointCount value some_below far_apart some_sample too_long some_axis offset coordinate exact steps_too_long
    gap gap_after gap_along largest_gap refuses_count first_accepted chosen
computed = (refl, refl, refl, refl)
