-- Document 01, "Who can cause which refusal": the numbers for drawing and listing, and their order.
use Rattle.std.specs.Prelude.{Bool, false, not, ◌||◌, List, [], ◌∷◌, ℕ, suc, ◌*◌, ◌≤◌, ◌<◌, ltb, eqb, length, get_or}
use Rattle.decide.specs.Some.{some_of}
use Rattle.decide.specs.Refusal.{Rule, ◌when◌, Verdict, first_that}
use Rattle.neighbours.specs.Steps.{too_long, LongStep}
use Rattle.cube.specs.Cube.{Axis, side_out, some_axis, volume}
use Rattle.drawing.specs.Object.{Object, scale_of, exact}

-- 13: a step count outside its range.
unfoldable pub count_out : (most n : ℕ) → Bool
count_out most n = eqb n 0 || ltb most n

-- 14: a coordinate not below the side.
unfoldable pub coordinate_out : (S c : ℕ) → Bool
coordinate_out S c = not (ltb c S)

-- 15: steps too long, on some axis.
unfoldable pub steps_too_long : Object → Bool
steps_too_long o = some_axis (λ a. too_long (scale_of o) o.counts (exact o a))

-- The number of samples: n + 1, (n + 1) × (m + 1), or (n + 1) × (m + 1) × (l + 1).
unfoldable pub sample_count : List ℕ → ℕ
sample_count [] = 1
sample_count (n ∷ ns) = suc n * sample_count ns

-- The order for drawing and listing, with what grid, mark and list have to say.
unfoldable pub order : (S : ℕ) (o : Object) (grid_wrong markWrong listShort : Bool) → List Rule
order S o grid_wrong markWrong listShort =
    11 when side_out S ∷
    21 when grid_wrong ∷
    12 when markWrong ∷
    13 when some_of (count_out o.most) o.counts ∷
    22 when listShort ∷
    14 when some_of (coordinate_out S) o.points ∷
    15 when steps_too_long o ∷
    []

-- A drawing has no list. 21: the grid is not S × S × S bytes; 12: mark 0.
abbrev pub drawing_order : (S gridLength : ℕ) (o : Object) → List Rule
drawing_order S gridLength o = order S o (not (eqb gridLength (volume S))) (eqb o.mark 0) false

unfoldable pub draw_verdict : (S gridLength : ℕ) (o : Object) → Verdict
draw_verdict S gridLength o = first_that (drawing_order S gridLength o)

-- A listing has no grid and ignores the record's mark. 22: the list is shorter than 3 × (n + 1) bytes.
unfoldable pub list_verdict : (S listLength : ℕ) (o : Object) → Verdict
list_verdict S listLength o = first_that (order S o false false (ltb listLength (3 * sample_count o.counts)))

-- A check has neither grid nor list and ignores the record's mark: 11, 13, 14, 15.
unfoldable pub check_verdict : (S : ℕ) (o : Object) → Verdict
check_verdict S o = first_that (order S o false false false)

-- What an object and a side must be for none of 11, 13, 14, 15 to apply, in words.
pub record Drawable (S : ℕ) (o : Object) : Type 0 where
  pub side_least : 2 ≤ S
  pub side_most : S ≤ 64
  pub count_least : (k : ℕ) → k < length o.counts → 1 ≤ get_or o.counts k 0
  pub count_most : (k : ℕ) → k < length o.counts → get_or o.counts k 0 ≤ o.most
  pub coordinate_below : (k : ℕ) → k < length o.points → get_or o.points k 0 < S
  pub steps_short : (a : Axis) → ¬ LongStep (scale_of o) o.counts (exact o a)
