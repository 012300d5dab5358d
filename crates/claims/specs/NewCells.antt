-- Document 02, A.10: the new cells of a drawing, and those of a sheet.
use Rattle.std.specs.Prelude.{◌≡◌, ◌↔◌, ℕ, ◌+◌, ◌≤◌, length, get_or}
use mathlib.Core.List.{List, Memᴰ}
use Rattle.cube.specs.Cube.{Cell, volume, place}
use Rattle.drawing.specs.Object.{Object}
use Rattle.drawing.specs.Drawing.{cells, CellOfSample, Drawing, drawn_by}
use Rattle.drawing.specs.NewCells.{unmarked_cells, new_cells, Different}
use Rattle.sheet.specs.Line.{lines}
use Rattle.sheet.specs.Sheet.{Stroke}
use Rattle.sheet.specs.Printed.{cube_of, listing, marked_cells}
use Rattle.sheet.specs.Call.{new_cells_of}
use Rattle.totals.specs.Totals.{count}
use Rattle.claims.specs.Demand3.{Call, drawing_by, Accepted}

-- An accepted drawing, of whatever kind, leaves at most as many unmarked cells as there were, and the difference is the number of
-- different cells among its own that were unmarked.
pub record TurnsToMarked (d : Drawing) (grid : List ℕ) : Type 0 where
  pub at_most : unmarked_cells (drawn_by d grid) ≤ unmarked_cells grid
  pub new : List Cell
  pub are_different : Different new
  pub are_these : (c : Cell) → Memᴰ c new ↔ (Memᴰ c d.cells × (get_or grid (place d.side c) 0 ≡ 0))
  pub so_many : new_cells grid (drawn_by d grid) ≡ length new

-- Over the strokes of a sheet, from its cleared cube, the counts add up to the marked cells of the cube; these are the
-- lines of its listing without the heading, and all cells but those that the totals count for mark 0.
pub record AddUpToMarked (S : ℕ) (strokes : List Stroke) : Type 0 where
  pub marked : new_cells_of S strokes ≡ marked_cells (cube_of S strokes)
  pub listed : new_cells_of S strokes + 1 ≡ length (lines (listing S (cube_of S strokes)))
  pub totalled : new_cells_of S strokes + count (cube_of S strokes) 0 ≡ volume S

pub record Claim : Type 0 where
  pub drawing : (call : Call) (grid : List ℕ) → Accepted (length grid) call → TurnsToMarked (drawing_by call) grid
  -- The cells of a drawing: those of its samples; of a face-to-face curve, the path through them.
  pub cells_of_samples : (o : Object) (c : Cell) → Memᴰ c (cells o) ↔ CellOfSample o c
  pub sheet : (S : ℕ) (strokes : List Stroke) → AddUpToMarked S strokes
