-- `total_sheet` meets its contract: a drawn sheet's cube lies within the buffer, and the text has room for its totals.
use Rattle.std.proofs.Common.{◌∙◌, arith}
use Rattle.sheet_program.proofs.Drawn.{drawn, taken}
use Rattle.sheet_program.proofs.Totalled.{totalled, line_told}
use Rattle.sheet_program.proofs.total_sheet.Goals as goal

pub cells-cells-requires : goal.cells-cells-requires
cells-cells-requires c = (drawn c.draw_or_refuse.ensures c.in-Ok.is).side_most

pub shared_ref_as_front-cube : goal.shared_ref_as_front-cube
shared_ref_as_front-cube c = rw c.cells-cells.ensures (drawn c.draw_or_refuse.ensures c.in-Ok.is).small

pub invariant_of-cube : goal.invariant_of-cube
invariant_of-cube c =
    let d = drawn c.draw_or_refuse.ensures c.in-Ok.is in record {
      side_in = (d.side_least, omega (arith, d.side_most));
      whole = taken d c.cells-cells.ensures ∙ c.cells-cells.ensures;
    }

pub returns-in-Ok : goal.returns-in-Ok
returns-in-Ok c = totalled c.draw_or_refuse.ensures c.in-Ok.is (rw c.cells-cells.ensures at c.put_totals.ensures)

pub returns-in-Err : goal.returns-in-Err
returns-in-Err c = line_told c.draw_or_refuse.ensures c.in-Err.is
