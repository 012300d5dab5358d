-- Document 01, "The words of demand 3": an accepted sheet counts as a list of its own. What the sheet function's contract
-- gives is such a list.
use Rattle.std.specs.Prelude.{◌≡◌, List, ℕ, length, take}
use Rattle.cube.specs.Cube.{volume}
use Rattle.sheet.specs.Sheet.{Stroke, good, judge}
use Rattle.sheet.specs.Printed.{marked_cells}
use Rattle.claims.specs.Strokes.{drawing, StrokesDrawn}

-- After an accepted sheet call the buffer's first S × S × S bytes hold the drawing of the sheet's strokes, one for each
-- curve line, and demand 3 is kept for them: every one of them is accepted and drawn. The new cells that the call answers
-- are the marked cells of these bytes.
pub record SheetDrawn (input bufferNow : List ℕ) (S curves new : ℕ) : Type 0 where
  pub strokes : List Stroke
  pub judged : judge input ≡ good S strokes
  pub count : length strokes ≡ curves
  pub holds : take (volume S) bufferNow ≡ drawing S strokes
  pub drawn : StrokesDrawn S strokes
  pub counted : new ≡ marked_cells (take (volume S) bufferNow)
