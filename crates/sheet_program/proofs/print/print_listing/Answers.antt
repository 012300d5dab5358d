-- `print_listing` meets its contract: a drawn sheet's cube lies within the buffer, and a refused one's line within the
-- text.
use Rattle.std.proofs.Common.{◌∙◌, sym, arith}
use Rattle.sheet_program.proofs.Drawn.{drawn, taken}
use Rattle.sheet_program.proofs.print.print_listing.Goals as goal

pub cells-cells-requires : goal.cells-cells-requires
cells-cells-requires c = (drawn c.draw_or_refuse.ensures c.in-Ok.is).side_most

pub slice_bounds-buffer-end : goal.slice_bounds-buffer-end
slice_bounds-buffer-end c = rw c.cells-cells.ensures (drawn c.draw_or_refuse.ensures c.in-Ok.is).within

pub slice_bounds-cube-end : goal.slice_bounds-cube-end
slice_bounds-cube-end c = sym (taken (drawn c.draw_or_refuse.ensures c.in-Ok.is) c.cells-cells.ensures)

pub invariant_of-cube : goal.invariant_of-cube
invariant_of-cube c =
    let d = drawn c.draw_or_refuse.ensures c.in-Ok.is in record {
      side_in = (d.side_least, omega (arith, d.side_most));
      whole = taken d c.cells-cells.ensures ∙ c.cells-cells.ensures;
    }

pub print_planes-requires-clause-side_bound : goal.print_planes-requires-clause-side_bound
print_planes-requires-clause-side_bound c = (drawn c.draw_or_refuse.ensures c.in-Ok.is).side_most
