-- Document 01, "The words of demand 3": an accepted sheet counts as a list of its own, the curve draws of its lines,
-- in turn, into an unmarked cube.
use Rattle.std.specs.Prelude.{◌≡◌, ◌⊎◌, List, [], ◌∷◌, ◌++◌, map, ℕ, get_or, replicate}
use Rattle.cube.specs.Cube.{Cell, Inside, place, volume}
use Rattle.drawing.specs.declared.Choice.TheVariants.{Over}
use Rattle.sheet.specs.Sheet.{Stroke, object_of}
use Rattle.claims.specs.Demand3.{Call, draw_curve, run, Accepted, MarkOfNearObject, JustDrawn}

-- A cube with no mark.
abbrev pub unmarked : (S : ℕ) → List ℕ
unmarked S = replicate (volume S) 0

-- A stroke's call: sheets always mean over.
abbrev pub call_of : (S : ℕ) → Stroke → Call
call_of S s = draw_curve S s.steps s.points s.mark Over

-- The cube after the strokes.
abbrev pub drawing : (S : ℕ) → List Stroke → List ℕ
drawing S strokes = run (map (call_of S) strokes) (unmarked S)

-- Demand 3 for strokes: in the end each cell is unmarked or holds the mark of a stroke near it; every stroke is
-- accepted, and just after it its samples have their cells as demand 3 says of an object that goes over.
pub record StrokesDrawn (S : ℕ) (strokes : List Stroke) : Type 0 where
  pub each_cell : (c : Cell) → Inside S c →
      (get_or (drawing S strokes) (place S c) 0 ≡ 0) ⊎
      MarkOfNearObject (volume S) (map (call_of S) strokes) c (get_or (drawing S strokes) (place S c) 0)
  pub each_stroke : (before after : List Stroke) (s : Stroke) → strokes ≡ before ++ s ∷ after →
      Accepted (volume S) (call_of S s) × JustDrawn S (object_of s) (drawing S before) (drawing S (before ++ s ∷ []))
