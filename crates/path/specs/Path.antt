-- Document 02, A.8: a face-to-face curve, a 6-connected path through the cells of the samples. It is made from the list of
-- these cells alone.
use Rattle.std.specs.Prelude.{◌≡◌, ℕ, suc, ◌+◌, ◌*◌, Bool, false, cond, ◌&&◌, ◌⊎◌, List, [], ◌∷◌, ◌++◌, length, ◌==◌, nat_le, nat_lt}
use Rattle.decide.specs.Refusal.{◌when◌, Verdict, first_that}
use Rattle.cube.specs.Cube.{Axis, x_axis, y_axis, z_axis, Cell}
use Rattle.drawing.specs.Object.{Object, offset}
use Rattle.drawing.specs.Refusals.{order, draw_verdict}
use Rattle.drawing.specs.Drawing.{cells, Drawing, Listing}

-- A cell after one axis has moved: there it has the coordinate of `to`, and else its own.
unfoldable pub moved : Axis → (from to : Cell) → Cell
moved a from to b = cond (offset a == offset b) (to b) (from b)

-- The cell that is written after the move, or none where the axis stays.
unfoldable pub move : Axis → (from to : Cell) → List Cell
move a from to = cond (from a == to a) [] (moved a from to ∷ [])

-- From one sample's cell to the next one's: x moves first, then y, then z.
unfoldable pub moves : (from to : Cell) → List Cell
moves from to =
    let after_x : Cell = moved x_axis from to in
    let after_y : Cell = moved y_axis after_x to in
    move x_axis from to ++ move y_axis after_x to ++ move z_axis after_y to

-- From a cell through the later ones.
unfoldable pub onward : (from : Cell) → List Cell → List Cell
onward from [] = []
onward from (to ∷ later) = moves from to ++ onward to later

-- The path: the first cell, and then the moves from each cell to the next.
unfoldable pub path : List Cell → List Cell
path [] = []
path (first ∷ later) = first ∷ onward first later

-- Two cells share a face: they differ on exactly one axis, and there by exactly one.
pub record ShareFace (c d : Cell) : Type 0 where
  pub axis : Axis
  pub by_one : (d axis ≡ suc (c axis)) ⊎ (c axis ≡ suc (d axis))
  pub elsewhere : (a : Axis) → ¬ (a ≡ axis) → c a ≡ d a

-- An exact value v over the scale s is within one and a half of the coordinate c, both doubled as in `withinHalf`.
unfoldable pub within_one_and_aHalf : (s c v : ℕ) → Bool
within_one_and_aHalf s c v = nat_le (2 * v) (2 * (s * c) + 3 * s) && nat_le (2 * (s * c)) (2 * v + 3 * s)

-- An axis moves from one cell to the next where their coordinates differ. The axis moves of a step are those of its axes.
unfoldable pub move_of : Axis → (from to : Cell) → ℕ
move_of a from to = cond (from a == to a) 0 1

unfoldable pub axis_moves : (from to : Cell) → ℕ
axis_moves from to = move_of x_axis from to + move_of y_axis from to + move_of z_axis from to

-- A sum over all steps, from each cell to the next.
unfoldable pub over_steps : (step : (from to : Cell) → ℕ) → List Cell → ℕ
over_steps step [] = 0
over_steps step (from ∷ []) = 0
over_steps step (from ∷ to ∷ later) = step from to + over_steps step (to ∷ later)

-- The number of the path's cells: what drawing and listing answer.
unfoldable pub path_length : Object → ℕ
path_length o = length (path (cells o))

-- The drawing: document 01's order.
abbrev pub path_drawing : (S : ℕ) → Object → Drawing
path_drawing S o = record {
  side = S;
  cells = path (cells o);
  mark = o.mark;
  choice = o.choice;
  answer = path_length o;
  verdict = λ gridLength. draw_verdict S gridLength o;
}

-- How often an axis moves along an object's samples, where a is the axis's number.
pub record MovesOf (o : Object) (a moves : ℕ) : Type 0 where
  pub are : (x : Axis) → offset x ≡ a → moves ≡ over_steps (move_of x) (cells o)

-- The listing's order: 11, 13, 14, 15, and then 22, a list shorter than three times the answer.
unfoldable pub path_list_verdict : (S listLength : ℕ) → Object → Verdict
path_list_verdict S listLength o =
    first_that (order S o false false false ++ 22 when nat_lt listLength (3 * path_length o) ∷ [])

abbrev pub path_listing : (S : ℕ) → Object → Listing
path_listing S o = record {
  cells = path (cells o);
  answer = path_length o;
  verdict = λ listLength. path_list_verdict S listLength o;
}
