-- Document 02, A.5: where the long-step test of a curve quits, and that no step is too long there.
use Rattle.std.specs.Prelude.{◌≡◌, ◌↔◌, ◌⊎◌, false, List, ℕ, ◌+◌, ◌*◌, ◌≤◌, ◌<◌, T}
use Rattle.cube.specs.Cube.{Axis}
use Rattle.drawing.specs.declared.Choice.{Choice}
use Rattle.drawing.specs.Object.{curve, coordinate}
use Rattle.drawing.specs.Refusals.{steps_too_long}
use Rattle.gaps.specs.Gaps.{gap, gap_after, largest_gap, quits}
use Rattle.gaps.specs.Weights.{SumOfGaps}

pub record Claim : Type 0 where
  -- A gap leads from one coordinate up to the other.
  pub gap_leads : (g h : ℕ) → (g + gap g h ≡ h) ⊎ (h + gap g h ≡ g)
  -- The largest gap: of the three between consecutive points, on every axis, none is larger, and one is as large.
  pub none_larger : (points : List ℕ) (a : Axis) (k : ℕ) → k < 3 → gap_after points a k ≤ largest_gap points
  pub one_as_large : (points : List ℕ) → (a : Axis) × (k : ℕ) × (k < 3) × (largest_gap points ≡ gap_after points a k)
  -- The test quits exactly where three times the largest gap is at most n.
  pub quits_where : (points : List ℕ) (n : ℕ) → T (quits points n) ↔ (3 * largest_gap points ≤ n)
  -- A step is a sum of the gaps, with weights that are not negative and add up to 3 × n × n, over n × n × n.
  pub sum_of_gaps : (points : List ℕ) (a : Axis) (n i : ℕ) → i < n → SumOfGaps n i (coordinate points a)
  -- Where the test quits no step is too long, of every curve and for every n.
  pub no_step_too_long : (points : List ℕ) (n mark : ℕ) (choice : Choice) → T (quits points n) →
      steps_too_long (curve n points mark choice) ≡ false
