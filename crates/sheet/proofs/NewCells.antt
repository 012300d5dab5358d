-- The new cells of a sheet's strokes add up to the marked cells of its cube: what they turn to marked and what they leave
-- unmarked is the whole cube, which was unmarked.
use mathlib.Core.Path.{◌≡◌, refl, ◌∙◌}
use mathlib.Core.Bool.{Bool, true, false, cond}
use mathlib.Core.List.{List, [], ◌∷◌}
use Prim.Native.Nat.{ℕ, ◌+◌, ◌≤◌}
use native.Mathlib.Omega.{arith}
use lib.Dec.{eqb}
use lib.ListN.{length, replicate, length-replicate}
use Rattle.cube.specs.Cube.{volume}
use Rattle.drawing.specs.Drawing.{drawing_of, drawn, in_turn}
use Rattle.drawing.specs.NewCells.{unmarked_cells}
use Rattle.drawing.proofs.Drawn.{drawing_fits, length_drawn}
use Rattle.drawing.proofs.NewCells.{unmarked_cleared, drawn_at_most, turns_new}
use Rattle.sheet.specs.Sheet.{Stroke, object_of}
use Rattle.sheet.specs.Printed.{cube_of, marked_cells}
use Rattle.sheet.specs.Call.{new_cells_of}

-- Marked and unmarked cells are all cells.
pub marked_or_not : (grid : List ℕ) → marked_cells grid + unmarked_cells grid ≡ length grid
unfolding marked_cells unmarked_cells
marked_or_not [] = refl
marked_or_not (mark ∷ grid) = omega (arith, marked_or_not grid, one (eqb mark 0))
  where
    one : (b : Bool) → cond b 0 1 + cond b 1 0 ≡ 1
    one true = refl
    one false = refl

-- A cube keeps its length.
length_turn : (S : ℕ) (strokes : List Stroke) (grid : List ℕ) →
    length (in_turn (λ s. drawn S (object_of s)) strokes grid) ≡ length grid
unfolding in_turn
length_turn S [] grid = refl
length_turn S (s ∷ ss) grid = length_turn S ss (drawn S (object_of s) grid) ∙ length_drawn (drawing_of S (object_of s)) grid

module _ (S : ℕ) (strokes : List Stroke) where
  pub length_cube : length (cube_of S strokes) ≡ volume S
  unfolding cube_of
  length_cube = length_turn S strokes (replicate (volume S) 0) ∙ length-replicate (volume S) 0

  -- New and unmarked cells are all cells.
  pub new_or_unmarked : new_cells_of S strokes + unmarked_cells (cube_of S strokes) ≡ volume S
  unfolding new_cells_of cube_of
  new_or_unmarked =
      turns_new (λ s. drawn S (object_of s))
      (λ s grid. drawn_at_most (drawing_of S (object_of s)) grid (drawing_fits S (object_of s) (length grid))) strokes
      (replicate (volume S) 0) ∙
      unmarked_cleared (volume S)

  pub new_marked : new_cells_of S strokes ≡ marked_cells (cube_of S strokes)
  new_marked = omega (arith, new_or_unmarked, marked_or_not (cube_of S strokes), length_cube)

  -- A sheet's new cells are cells of its cube.
  pub new_at_most : new_cells_of S strokes ≤ volume S
  new_at_most = omega (arith, new_or_unmarked)
