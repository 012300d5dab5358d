-- Document 02, A.6: "the smallest step count that the curve rule accepts", and the draw call with it.
use Rattle.std.specs.Prelude.{Bool, false, not, cond, List, [], ◌∷◌, ℕ, zero, suc, ◌*◌, eqb}
use Rattle.decide.specs.Some.{some_of}
use Rattle.decide.specs.Refusal.{Rule, ◌when◌, Verdict, first_that}
use Rattle.cube.specs.Cube.{side_out, volume}
use Rattle.drawing.specs.declared.Choice.{Choice}
use Rattle.drawing.specs.declared.Choice.TheVariants.{Over}
use Rattle.drawing.specs.Object.{Object, curve}
use Rattle.drawing.specs.Refusals.{coordinate_out, steps_too_long}
use Rattle.drawing.specs.Drawing.{Drawing, drawing_of, judged_by}
use Rattle.gaps.specs.Gaps.{largest_gap}

module _ (points : List ℕ) where
  -- The curve rule refuses four points with n steps: some step is too long. Mark and choice do not matter to it.
  unfoldable pub refuses_count : (n : ℕ) → Bool
  refuses_count n = steps_too_long (curve n points 0 Over)

  -- The first count from n on that it accepts, in so many tries; the count after them if it refuses all.
  unfoldable pub first_accepted : (tries n : ℕ) → ℕ
  first_accepted zero n = n
  first_accepted (suc tries) n = cond (refuses_count n) (first_accepted tries (suc n)) n

  -- The chosen count: the smallest from 1 on. Three times the largest gap is accepted, so there need be no more tries, and
  -- none where all points agree.
  unfoldable pub chosen : ℕ
  chosen = first_accepted (3 * largest_gap points) 1

-- The order of the draw call, with what grid and mark have to say. 13 and 15 are not in it, as neither can occur.
unfoldable pub chosen_order : (S : ℕ) (points : List ℕ) (grid_wrong markWrong : Bool) → List Rule
chosen_order S points grid_wrong markWrong =
    11 when side_out S ∷
    21 when grid_wrong ∷
    12 when markWrong ∷
    14 when some_of (coordinate_out S) points ∷
    []

-- The count alone has neither grid nor mark: 11, then 14.
unfoldable pub count_verdict : (S : ℕ) (points : List ℕ) → Verdict
count_verdict S points = first_that (chosen_order S points false false)

-- The curve with the chosen count.
abbrev pub chosen_curve : (points : List ℕ) (mark : ℕ) (choice : Choice) → Object
chosen_curve points mark choice = curve (chosen points) points mark choice

-- The draw call with a chosen count: document 01's drawing of that curve, with the order above.
abbrev pub chosen_drawing : (S : ℕ) (points : List ℕ) (mark : ℕ) (choice : Choice) → Drawing
chosen_drawing S points mark choice =
    judged_by (λ gridLength. first_that (chosen_order S points (not (eqb gridLength (volume S))) (eqb mark 0)))
    (drawing_of S (chosen_curve points mark choice))
