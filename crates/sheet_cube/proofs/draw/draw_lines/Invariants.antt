-- `draw_lines` meets its contract: what is left to draw, drawn into the cube so far, gives the sheet's cube, and its new
-- cells with those counted so far the sheet's sum.
use Rattle.std.proofs.Common.{◌≡◌, ◌≤◌, length}
use Rattle.std.specs.Slice.Iter.{chunks_exact_rest, chunks_exact_size}
use Rattle.sheet_cube.proofs.Drawing.{DrawnSoFar, rest}
use Rattle.sheet_cube.proofs.draw.draw_lines.Given as goal

abbrev pub invariant-loop-line : goal.invariant-loop-line
invariant-loop-line l =
    DrawnSoFar l.input l.size.side (length l.yielded) l.cube l.new_cells × (length l.yielded ≤ l.size.curves) ×
    (chunks_exact_rest l.line-iterator ≡ rest l.input (length l.yielded)) × (chunks_exact_size l.line-iterator ≡ 71)
