-- Document 02, A.7: a flip is harmless. The two calls compared get the same side, and grids of the same bytes or lists of the
-- same length. Accepted and refused calls alike.
use Rattle.std.specs.Prelude.{◌≡◌, List, [], ◌∷◌, ◌++◌, ℕ, ◌-◌, ◌≤◌, T, length, Result}
use Rattle.decide.specs.declared.Refusal.{Refusal}
use Rattle.decide.specs.Refusal.{outcome}
use Rattle.decide.specs.Verdict.{verdict_of, outcome_of}
use Rattle.cube.specs.Cube.{Axis}
use Rattle.drawing.specs.Object.{exact, cell_of}
use Rattle.drawing.specs.Refusals.{check_verdict}
use Rattle.drawing.specs.Drawing.{Drawing, drawing_of, listing_of}
use Rattle.gaps.specs.Gaps.{quits}
use Rattle.scan.specs.declared.answer.Drawn.{Drawn}
use Rattle.scan.specs.Answer.{Draws, Lists}
use Rattle.curve.specs.declared.Curve.{Curve}
use Rattle.curve.specs.declared.steps.StepTest.{StepTest}
use Rattle.curve.specs.Curve.{curve_of, check_answer_of}
use Rattle.chosen.specs.Chosen.{chosen, count_verdict, chosen_drawing}
use Rattle.patch.specs.declared.Patch.{Patch}
use Rattle.patch.specs.Patch.{patch_of}
use Rattle.strip.specs.Strip.{strip_drawing}
use Rattle.flip.specs.Flip.{reversed, flipped_curve, flipped_patch}
use Rattle.flip.specs.Listings.{Agree, KeepsRest}
use Rattle.claims.specs.Known.{along_x, along_curve, cells, holds}

-- Two drawings, of whatever kind, do the same: calls that get grids of the same bytes have the same answer, new cells included,
-- and leave the same grid.
pub record DrawTheSame (d e : Drawing) : Type 0 where
  pub answer : {grid one other : List ℕ} {r s : Result Drawn Refusal} → Draws d grid one r → Draws e grid other s → r ≡ s
  pub grid : {grid one other : List ℕ} {r s : Result Drawn Refusal} → Draws d grid one r → Draws e grid other s → one ≡ other

-- What the listings of two curves leave in two lists of the same length: the same refusal, or as many samples and the same cells
-- in reverse order; and both lists keep their rest.
pub record ListInReverse (list back listNow backNow : List ℕ) (r s : Result ℕ Refusal) : Type 0 where
  pub agree : Agree listNow backNow r s
  pub list_rest : KeepsRest list listNow r
  pub back_rest : KeepsRest back backNow s

-- A curve and its flip.
pub record CurveFlip (S : ℕ) (c : Curve) : Type 0 where
  -- Sample n - i of the flip has the exact value of sample i, and so its cell.
  pub values : (i : ℕ) → i ≤ c.steps → (a : Axis) →
      exact (curve_of (flipped_curve c)) a ((c.steps - i) ∷ []) ≡ exact (curve_of c) a (i ∷ [])
  pub cells : (i : ℕ) → i ≤ c.steps → cell_of (curve_of (flipped_curve c)) ((c.steps - i) ∷ []) ≡ cell_of (curve_of c) (i ∷ [])
  -- The listings.
  pub listings : {list back listNow backNow : List ℕ} {r s : Result ℕ Refusal} → length list ≡ length back →
      Lists (listing_of S (curve_of c)) list listNow r → Lists (listing_of S (curve_of (flipped_curve c))) back backNow s →
      ListInReverse list back listNow backNow r s
  -- The drawings, over or under, and those on the strip (A.9).
  pub drawings : DrawTheSame (drawing_of S (curve_of c)) (drawing_of S (curve_of (flipped_curve c)))
  pub strip_drawings : DrawTheSame (strip_drawing S (curve_of c)) (strip_drawing S (curve_of (flipped_curve c)))
  -- The checks, with whether the step test quit (A.5).
  pub checks : {r s : Result StepTest Refusal} →
      check_answer_of r ≡ outcome (check_verdict S (curve_of c)) (quits c.points c.steps) →
      check_answer_of s ≡
      outcome (check_verdict S (curve_of (flipped_curve c))) (quits (flipped_curve c).points (flipped_curve c).steps) →
      r ≡ s
  -- The chosen count and the drawing with it (A.6).
  pub chosen_counts : chosen (flipped_curve c).points ≡ chosen c.points
  pub choices : {r s : Result ℕ Refusal} →
      outcome_of r ≡ outcome (count_verdict S c.points) (chosen c.points) →
      outcome_of s ≡ outcome (count_verdict S (flipped_curve c).points) (chosen (flipped_curve c).points) → r ≡ s
  pub chosen_drawings :
      DrawTheSame (chosen_drawing S c.points c.mark c.choice) (chosen_drawing S (flipped_curve c).points c.mark c.choice)

-- A patch and its flip.
pub record PatchFlip (S : ℕ) (p : Patch) : Type 0 where
  -- Sample (j, i) of the flip has the exact value of sample (i, j), and so its cell.
  pub values : (i j : ℕ) → i ≤ p.n → j ≤ p.m → (a : Axis) →
      exact (patch_of (flipped_patch p)) a (j ∷ i ∷ []) ≡ exact (patch_of p) a (i ∷ j ∷ [])
  pub cells : (i j : ℕ) → i ≤ p.n → j ≤ p.m → cell_of (patch_of (flipped_patch p)) (j ∷ i ∷ []) ≡ cell_of (patch_of p) (i ∷ j ∷ [])
  pub drawings : DrawTheSame (drawing_of S (patch_of p)) (drawing_of S (patch_of (flipped_patch p)))
  pub strip_drawings : DrawTheSame (strip_drawing S (patch_of p)) (strip_drawing S (patch_of (flipped_patch p)))
  pub checks : {r s : Result (Unit {0}) Refusal} → verdict_of r ≡ check_verdict S (patch_of p) →
      verdict_of s ≡ check_verdict S (patch_of (flipped_patch p)) → r ≡ s

-- For every side and every record, whose points are twelve coordinates for a curve and forty-eight for a patch. Flipping twice
-- gives back the record.
pub record Claim : Type 0 where
  pub curve : (S : ℕ) (c : Curve) → length c.points ≡ 12 → CurveFlip S c
  pub curve_twice : (c : Curve) → length c.points ≡ 12 → flipped_curve (flipped_curve c) ≡ c
  pub patch : (S : ℕ) (p : Patch) → length p.points ≡ 48 → PatchFlip S p
  pub patch_twice : (p : Patch) → length p.points ≡ 48 → flipped_patch (flipped_patch p) ≡ p

-- A list from its last element to its first.
abbrev pub reverse : List ℕ → List ℕ
reverse [] = []
reverse (a ∷ l) = reverse l ++ a ∷ []

-- K3 and K4, which have each other's points. As document 01 lists their cells, by its walk, they are not each other's reverse;
-- under document 02's A.3, where a cell depends on its value alone, they are.
pub record K3AndK4 : Type 0 where
  pub points : reversed (along_x (0 ∷ 1 ∷ 2 ∷ 3 ∷ [])) ≡ along_x (3 ∷ 2 ∷ 1 ∷ 0 ∷ [])
  pub by_the_walk : ¬ (3 ∷ 3 ∷ 2 ∷ 2 ∷ 1 ∷ 1 ∷ 0 ∷ [] ≡ reverse (0 ∷ 0 ∷ 1 ∷ 1 ∷ 2 ∷ 2 ∷ 3 ∷ []))
  pub k3 : T (holds (along_curve 6 (0 ∷ 1 ∷ 2 ∷ 3 ∷ []) (cells (0 ∷ 0 ∷ 1 ∷ 1 ∷ 2 ∷ 2 ∷ 3 ∷ []))))
  pub k4 : T (holds (along_curve 6 (3 ∷ 2 ∷ 1 ∷ 0 ∷ []) (cells (reverse (0 ∷ 0 ∷ 1 ∷ 1 ∷ 2 ∷ 2 ∷ 3 ∷ [])))))
