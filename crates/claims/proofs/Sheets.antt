-- The contract of the sheet function says of an accepted call that the buffer's cube is the drawing of its strokes.
use mathlib.Core.Path.{◌≡◌, sym, ◌∙◌, ap}
use mathlib.Core.List.{List}
use Prim.Native.Nat.{ℕ}
use Rattle.std.specs.Prelude.{Result}
use Rattle.sheet.specs.Printed.{marked_cells}
use Rattle.sheet.specs.Call.{drew}
use Rattle.sheet_cube.specs.declared.LineRefusal.{LineRefusal}
use Rattle.sheet_cube.specs.declared.Sheet.{Sheet}
use Rattle.sheet_cube.specs.Answer.{said_of, DrawsSheet}
use Rattle.sheet_cube.proofs.Called.{called_accepted}
use Rattle.claims.specs.Sheets.{SheetDrawn}
use Rattle.claims.proofs.Strokes.{strokes_good, strokes_drawn, sheet_cube}
use Rattle.claims.proofs.NewCells.{claim}

pub sheet_drawn : {input buffer bufferNow : List ℕ} {r : Result Sheet LineRefusal} {S n new : ℕ} →
    DrawsSheet input buffer bufferNow r → said_of r ≡ drew S n new → SheetDrawn input bufferNow S n new
sheet_drawn {input} {S = S} d e =
    let a = called_accepted d e in
    record {
      strokes = a.strokes;
      judged = a.judged;
      count = a.count;
      holds = a.cube ∙ sheet_cube S a.strokes;
      drawn = strokes_drawn S a.strokes (strokes_good input a.judged);
      counted =
          sym a.sum ∙ (claim.sheet S a.strokes).marked ∙ ap marked_cells (sym a.cube);
    }
