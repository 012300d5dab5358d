-- `put_row` meets its contract: after i turns the lines of the first i cells are written.
use native.Mathlib.Numerals.{add-one}
use native.Mathlib.Omega.{arith}
use lib.Seq.{take_all}
use Rattle.sheet_listing.specs.Row.{row_lines}
use Rattle.sheet_text.proofs.Puts.{puts_none}
use Rattle.sheet_listing.proofs.cells.put_row.Invariants.{marked, unmarked}
use Rattle.sheet_listing.proofs.cells.put_row.Goals as goal
use Rattle.sheet_listing.proofs.cells.put_row.Goals.{then-mark-ne0, else-mark-ne0}

pub loop-i-init : goal.loop-i-init
unfolding row_lines
loop-i-init c = record { puts = puts_none _; most = omega arith }

pub overflow_add-bytes : goal.overflow_add-bytes
overflow_add-bytes c = omega (arith, c.loop-i.invariant.most)

pub slice_bounds-put_cell-end : goal.slice_bounds-put_cell-end
slice_bounds-put_cell-end c = omega (arith, c.loop-i.invariant.most, c.loop-i.auto.text)

pub loop-i-preserved : goal.loop-i-preserved
loop-i-preserved c =
    let l = c.loop-i.invariant in
    let t = c.loop-i-test.true in
    rw add-one
    (elim c.if-mark-ne0.branch [
      | then-mark-ne0 w ↦ rw (w.text-is, w.bytes-is) (marked l t (omega arith) w.if-mark-ne0.true w.put_cell.ensures)
      | else-mark-ne0 w ↦ rw (w.text-is, w.bytes-is) (unmarked l t w.if-mark-ne0.false)
    ])

pub returns : goal.returns
returns c = rw (take_all c.loop-i.i c.args.marks.now c.loop-i-test.false) at c.loop-i.invariant.puts
