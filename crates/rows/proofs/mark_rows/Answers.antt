-- `mark_rows` meets its contract: after j rows more the grid has the marks of the rows 0 to j, and has lost as many unmarked
-- cells as are counted.
use mathlib.Core.Path.{◌≡◌}
use Prim.Native.Nat.{zero, suc, zero-le}
use native.Mathlib.Numerals.{add-one}
use native.Mathlib.Omega.{arith}
use mir.Facts.{to_z-of_z}
use Rattle.drawing.proofs.NewCells.{unmarked_at_most}
use Rattle.rows.specs.Lines.{lines_after}
use Rattle.rows.proofs.mark_rows.Invariants.{first, next}
use Rattle.rows.proofs.mark_rows.Goals as goal

pub mark_row-new_cells-requires-clause-on_grid : goal.mark_row-new_cells-requires-clause-on_grid
unfolding lines_after
mark_row-new_cells-requires-clause-on_grid c =
    rw (c.row_walker.ensures, to_z-of_z c.ranges.scale) (c.requires.rows_on_grid.row zero zero-le)

pub loop-init : goal.loop-init
loop-init c =
    let e = c.mark_row-new_cells.ensures in
    first c.row_walker.ensures e.grid_after_2 e.grid_after

pub next_lines-lines-requires : goal.next_lines-lines-requires
next_lines-lines-requires c =
    rw (c.loop.invariant.lines_are, to_z-of_z c.ranges.scale) (c.requires.rows_on_grid.next c.loop.counter c.loop-test.true)

pub mark_row-new_cells-requires-in-loop-clause-on_grid : goal.mark_row-new_cells-requires-in-loop-clause-on_grid
unfolding lines_after
mark_row-new_cells-requires-in-loop-clause-on_grid c =
    let i = c.loop.invariant in
    rw (c.row_walker-in-loop.ensures, c.next_lines-lines.ensures, i.lines_are, i.size, to_z-of_z c.ranges.scale)
    (c.requires.rows_on_grid.row (suc c.loop.counter) c.loop-test.true)

-- New cells are cells of the grid at the start.
pub overflow_add-new_cells : goal.overflow_add-new_cells
overflow_add-new_cells c =
    let e = c.mark_row-new_cells-in-loop.ensures in
    record { fits = omega (arith, e.grid_after, c.loop.invariant.fewer, unmarked_at_most c.args.grid.now, c.requires.n_bound.1) }

pub loop-preserved : goal.loop-preserved
loop-preserved c =
    let e = c.mark_row-new_cells-in-loop.ensures in
    rw add-one
    (next _ c.loop.invariant c.loop-test.true c.next_lines-lines.ensures c.row_walker-in-loop.ensures
    e.grid_after_2 e.grid_after)

pub returns : goal.returns
returns c =
    let i = c.loop.invariant in
    let e : c.loop.counter ≡ c.args.m = omega (arith, i.within) in
    record { grid_after = i.fewer; grid_after_2 = rw (e, to_z-of_z c.ranges.scale) at i.marks }
