-- Document 02, A.11: strokes that go over, and strokes that go under.
use Rattle.std.specs.Prelude.{◌≡◌, ◌↔◌, ℕ, length, get_or}
use mathlib.Core.List.{List, map, Memᴰ}
use Rattle.cube.specs.Cube.{Cell, Inside, place}
use Rattle.drawing.specs.declared.Choice.{Choice}
use Rattle.drawing.specs.declared.Choice.TheVariants.{Over, Under}
use Rattle.drawing.specs.Object.{Object, going}
use Rattle.drawing.specs.Refusals.{check_verdict}
use Rattle.drawing.specs.Drawing.{marked, Drawing, drawn_by, listing_of}
use Rattle.drawing.specs.NewCells.{new_cells}
use Rattle.path.specs.Path.{path_listing}
use Rattle.sheet.specs.Sheet.{Stroke, object_of}
use Rattle.claims.specs.Demand3.{Call, draw_curve, draw_patch, draw_solid, draw_chosen, draw_path, draw_strip_curve, draw_strip_patch}
use Rattle.claims.specs.Demand3.{drawing_by, Accepted}

-- What an accepted drawing, of whatever kind, does to the cells of its cube. Under, a cell that was marked holds what it held;
-- one of the drawing's cells that was unmarked holds the mark. Over, each of the drawing's cells holds the mark. Either way no
-- other cell changes, and the drawing's cells in any order, some of them more often than others, leave the same grid.
pub record OverOrUnder (d : Drawing) (grid : List ℕ) : Type 0 where
  pub under_keeps : d.choice ≡ Under → (c : Cell) → Inside d.side c → ¬ (get_or grid (place d.side c) 0 ≡ 0) →
      get_or (drawn_by d grid) (place d.side c) 0 ≡ get_or grid (place d.side c) 0
  pub under_fills : d.choice ≡ Under → (c : Cell) → Memᴰ c d.cells → get_or grid (place d.side c) 0 ≡ 0 →
      get_or (drawn_by d grid) (place d.side c) 0 ≡ d.mark
  pub over_marks : d.choice ≡ Over → (c : Cell) → Memᴰ c d.cells →
      get_or (drawn_by d grid) (place d.side c) 0 ≡ d.mark
  pub others_stay : (c : Cell) → Inside d.side c → ¬ Memᴰ c d.cells →
      get_or (drawn_by d grid) (place d.side c) 0 ≡ get_or grid (place d.side c) 0
  pub in_any_order : (cells : List Cell) → ((c : Cell) → Memᴰ c cells ↔ Memᴰ c d.cells) →
      marked d.choice d.mark (map (place d.side) cells) grid ≡ drawn_by d grid

-- The same call with a choice of its own.
abbrev pub going_by : Choice → Call → Call
going_by choice (draw_curve side n points mark _) = draw_curve side n points mark choice
going_by choice (draw_patch side n m points mark _) = draw_patch side n m points mark choice
going_by choice (draw_solid side n m l points mark _) = draw_solid side n m l points mark choice
going_by choice (draw_chosen side points mark _) = draw_chosen side points mark choice
going_by choice (draw_path side n points mark _) = draw_path side n points mark choice
going_by choice (draw_strip_curve side n points mark _) = draw_strip_curve side n points mark choice
going_by choice (draw_strip_patch side n m points mark _) = draw_strip_patch side n m points mark choice

-- What goes by no choice in a call that draws: its refusals, and how many cells are new, whether it is accepted or refused.
pub record ByNoChoice (call : Call) (choice : Choice) : Type 0 where
  pub drawing_refusals : (gridLength : ℕ) →
      (drawing_by (going_by choice call)).verdict gridLength ≡ (drawing_by call).verdict gridLength
  pub as_many_new : (grid : List ℕ) →
      new_cells grid (drawn_by (drawing_by (going_by choice call)) grid) ≡ new_cells grid (drawn_by (drawing_by call) grid)

-- A check and both listings ignore the choice: the same refusals, and of a listing the same cells and the same answer.
pub record IgnoresChoice (S : ℕ) (o : Object) (choice : Choice) : Type 0 where
  pub check : check_verdict S (going choice o) ≡ check_verdict S o
  pub listing : listing_of S (going choice o) ≡ listing_of S o
  pub path_listing : path_listing S (going choice o) ≡ path_listing S o

pub record Claim : Type 0 where
  pub drawing : (call : Call) (grid : List ℕ) → Accepted (length grid) call → OverOrUnder (drawing_by call) grid
  pub by_no_choice : (call : Call) (choice : Choice) → ByNoChoice call choice
  pub ignores_choice : (S : ℕ) (o : Object) (choice : Choice) → IgnoresChoice S o choice
  pub sheets_mean_over : (s : Stroke) → (object_of s).choice ≡ Over
