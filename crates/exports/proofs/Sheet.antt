-- What a sheet call's contract says of signed answers.
use mathlib.Core.Path.{◌≡◌, sym, ◌∙◌, ap}
use mathlib.Core.List.{List}
use Prim.Native.Nat.{ℕ}
use lib.IntN.{ℤ}
use Rattle.sheet.specs.Call.{Said}
use Rattle.std.specs.Prelude.{Result}
use Rattle.sheet_cube.specs.declared.Sheet.{Sheet}
use Rattle.sheet_cube.specs.declared.LineRefusal.{LineRefusal}
use Rattle.sheet_cube.specs.Answer.{said_of, DrawsSheet}
use Rattle.exports.specs.Sheet.{answer_of, detail_of, sum_after, SheetBytes}

pub sheet_call : {input buffer bufferNow : List ℕ} {a : Result Sheet LineRefusal} {s : Said} {r : ℤ} {detail new newNow : ℕ} →
    DrawsSheet input buffer bufferNow a → said_of a ≡ s → r ≡ answer_of s → detail ≡ detail_of s → newNow ≡ sum_after s new →
    SheetBytes input buffer bufferNow detail new newNow r
sheet_call {new = new} d e f g h =
    let said = sym e ∙ d.answer in
    record {
      answer = f ∙ ap answer_of said;
      detail = g ∙ ap detail_of said;
      new_cells = h ∙ ap (λ s. sum_after s new) said;
      leaves = d.leaves;
    }
