-- `gidzkhalu_draw_sheet` meets its contract: it hands on what the call answers.
use Rattle.std.proofs.Common.{rules}
use mathlib.Core.Path.{refl, ap}
use Rattle.sheet_cube.specs.Answer.{said_of}
use Rattle.exports.proofs.Small.{reads}
use Rattle.exports.proofs.Sheet.{sheet_call}
use Rattle.exports.proofs.sheets.gidzkhalu_draw_sheet.Goals as goal

pub returns-in-Ok : goal.returns-in-Ok
returns-in-Ok c =
    sheet_call c.draw_sheet.ensures (ap said_of c.in-Ok.is) (search rules)
    refl refl

pub returns-in-Err : goal.returns-in-Err
returns-in-Err c =
    sheet_call c.draw_sheet.ensures (ap said_of c.in-Err.is) (reads c.refused.ensures)
    refl refl
