-- Document 02, A.6: the step count that the box chooses, and the draw call with it.
use Rattle.std.specs.Prelude.{◌≡◌, ◌↔◌, ◌⊎◌, true, false, List, ℕ, suc, ◌*◌, ◌≤◌, ◌<◌}
use Rattle.decide.specs.Refusal.{accepted, refused}
use Rattle.cube.specs.Cube.{Axis}
use Rattle.drawing.specs.declared.Choice.{Choice}
use Rattle.drawing.specs.Object.{curve, coordinate}
use Rattle.drawing.specs.Refusals.{steps_too_long, draw_verdict, check_verdict}
use Rattle.drawing.specs.Drawing.{drawn_by, drawn}
use Rattle.gaps.specs.Gaps.{gap, largest_gap}
use Rattle.chosen.specs.Chosen.{chosen, count_verdict, chosen_curve, chosen_drawing}

-- The chosen count of four points: the curve rule accepts it and no smaller one from 1 on. It is at most three times the
-- largest gap, or 1 if all points agree.
pub record Smallest (points : List ℕ) : Type 0 where
  pub from_1 : 1 ≤ chosen points
  pub is_accepted : (mark : ℕ) (choice : Choice) → steps_too_long (curve (chosen points) points mark choice) ≡ false
  pub no_smaller : (n mark : ℕ) (choice : Choice) → 1 ≤ n → n < chosen points →
      steps_too_long (curve n points mark choice) ≡ true
  pub at_most : (chosen points ≤ 3 * largest_gap points) ⊎
      (((a : Axis) (k : ℕ) → k < 3 → coordinate points a k ≡ coordinate points a (suc k)) × (chosen points ≡ 1))

-- With a side and coordinates that neither 11 nor 14 refuses: the count is at most 189; the curve with it can be drawn, so that
-- neither 13 nor 15 applies; with a smaller count it is refused with 15; and the draw call is answered the number, if any,
-- that the drawing with the chosen count is answered.
pub record AtASide (S : ℕ) (points : List ℕ) : Type 0 where
  pub at_most_189 : chosen points ≤ 189
  pub neither_13_nor_15 : (mark : ℕ) (choice : Choice) → check_verdict S (chosen_curve points mark choice) ≡ accepted
  pub smaller_15 : (n mark : ℕ) (choice : Choice) → 1 ≤ n → n < chosen points →
      check_verdict S (curve n points mark choice) ≡ refused 15
  pub same_number : (mark : ℕ) (choice : Choice) (gridLength : ℕ) →
      (chosen_drawing S points mark choice).verdict gridLength ≡ draw_verdict S gridLength (chosen_curve points mark choice)

pub record Claim : Type 0 where
  pub smallest : (points : List ℕ) → Smallest points
  pub at_a_side : (S : ℕ) (points : List ℕ) → count_verdict S points ≡ accepted → AtASide S points
  -- With any side and any record the draw call is accepted exactly where the drawing with the chosen count is, and leaves the
  -- same grid.
  pub accepted_as_drawn : (S : ℕ) (points : List ℕ) (mark : ℕ) (choice : Choice) (gridLength : ℕ) →
      ((chosen_drawing S points mark choice).verdict gridLength ≡ accepted) ↔
      (draw_verdict S gridLength (chosen_curve points mark choice) ≡ accepted)
  pub drawn_as_drawn : (S : ℕ) (points : List ℕ) (mark : ℕ) (choice : Choice) (grid : List ℕ) →
      drawn_by (chosen_drawing S points mark choice) grid ≡ drawn S (chosen_curve points mark choice) grid
  -- What the search skips: no count below the distance from the first to the last point on some axis can be accepted.
  pub below_the_ends : (points : List ℕ) (a : Axis) (n mark : ℕ) (choice : Choice) → 1 ≤ n →
      n < gap (coordinate points a 0) (coordinate points a 3) → steps_too_long (curve n points mark choice) ≡ true
