-- Document 01, "The stroke sheet": what the sheet program prints. The listing: a heading, then x, y, z and mark of each
-- marked cell, in rising byte place, all four in 5 columns. A refused sheet: REFUSED, the number, the line.
use Rattle.std.specs.Prelude.{cond, List, [], ◌∷◌, ◌++◌, ℕ, suc, ◌+◌, ◌*◌, ◌/◌, ◌%◌, eqb, replicate}
use Rattle.cube.specs.Cube.{volume}
use Rattle.drawing.specs.Drawing.{drawn, in_turn}
use Rattle.sheet.specs.Line.{as_line}
use Rattle.sheet.specs.Sheet.{Stroke, object_of, Judged, good, bad, judge}

-- The sheet's cube: the strokes drawn in turn into an unmarked one.
unfoldable pub cube_of : (S : ℕ) → List Stroke → List ℕ
cube_of S strokes = in_turn (λ s. drawn S (object_of s)) strokes (replicate (volume S) 0)

-- The line of the cell at byte p with the given mark: none if it is unmarked.
unfoldable pub cell_line : (S p mark : ℕ) → List ℕ
cell_line S p mark = cond (eqb mark 0) [] (as_line (p % S ∷ p / S % S ∷ p / (S * S) ∷ mark ∷ []))

-- The lines of the cells from byte p on.
unfoldable pub cell_lines : (S p : ℕ) (grid : List ℕ) → List ℕ
cell_lines S p [] = []
cell_lines S p (mark ∷ grid) = cell_line S p mark ++ cell_lines S (suc p) grid

-- Twenty bytes and a line feed: X, Y, Z and MARK in 5 columns.
abbrev pub heading : List ℕ
heading = 32 ∷ 32 ∷ 32 ∷ 32 ∷ 88 ∷ 32 ∷ 32 ∷ 32 ∷ 32 ∷ 89 ∷ 32 ∷ 32 ∷ 32 ∷ 32 ∷ 90 ∷ 32 ∷ 77 ∷ 65 ∷ 82 ∷ 75 ∷ 10 ∷ []

-- The listing of a cube.
unfoldable pub listing : (S : ℕ) (grid : List ℕ) → List ℕ
listing S grid = heading ++ cell_lines S 0 grid

-- How many cells are marked.
unfoldable pub marked_cells : (grid : List ℕ) → ℕ
marked_cells [] = 0
marked_cells (mark ∷ grid) = cond (eqb mark 0) 0 1 + marked_cells grid

-- REFUSED, the number in 5 columns, the line in 5 columns.
unfoldable pub refusal_line : (number line : ℕ) → List ℕ
refusal_line n k = (82 ∷ 69 ∷ 70 ∷ 85 ∷ 83 ∷ 69 ∷ 68 ∷ []) ++ as_line (n ∷ k ∷ [])

-- What is printed for a judged sheet.
abbrev pub printed : Judged → List ℕ
printed (good S strokes) = listing S (cube_of S strokes)
printed (bad n k) = refusal_line n k

-- From the whole input to the whole output.
unfoldable pub output : (input : List ℕ) → List ℕ
output input = printed (judge input)
