-- Document 01, "The stroke sheet", with document 02's A.10: a sheet call's answer, and what the lent buffer holds
-- afterwards.
use Rattle.std.specs.Prelude.{cond, List, ◌++◌, ℕ, eqb, length, drop, replicate}
use Rattle.cube.specs.Cube.{volume}
use Rattle.drawing.specs.Drawing.{drawn}
use Rattle.drawing.specs.NewCells.{new_in_turn}
use Rattle.sheet.specs.Sheet.{Stroke, object_of, Judged, good, bad, judge}
use Rattle.sheet.specs.Printed.{cube_of}

-- 21, with line 0, before any line: the buffer is not 64000 bytes.
unfoldable pub judge_call : (input buffer : List ℕ) → Judged
judge_call input buffer = cond (eqb (length buffer) 64000) (judge input) (bad 21 0)

-- The new cells of the strokes (document 02, A.10), added up from the unmarked cube on.
unfoldable pub new_cells_of : (S : ℕ) → List Stroke → ℕ
new_cells_of S strokes = new_in_turn (λ s. drawn S (object_of s)) strokes (replicate (volume S) 0)

-- What a call answers: the side, the number of curve lines and the sum of their new cells, or the number and the line.
pub data Said : Type 0 where
  drew : (side curves new_cells : ℕ) → Said
  refused : (number line : ℕ) → Said

abbrev pub said : Judged → Said
said (good S strokes) = drew S (length strokes) (new_cells_of S strokes)
said (bad n k) = refused n k

-- What the buffer holds afterwards: the cube in its first S × S × S bytes and the rest as it was, or, refused, what it
-- held.
abbrev pub buffer_after : Judged → (buffer : List ℕ) → List ℕ
buffer_after (good S strokes) buffer = cube_of S strokes ++ drop (volume S) buffer
buffer_after (bad n k) buffer = buffer
