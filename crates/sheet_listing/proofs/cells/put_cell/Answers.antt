-- `put_cell` meets its contract: four numbers and a line feed, one after another.
use native.Mathlib.Omega.{arith}
use Rattle.sheet_text.proofs.Line.{line_first, number_next, feed_next}
use Rattle.sheet_text.proofs.Puts.{puts_whole}
use Rattle.sheet_listing.proofs.cells.put_cell.Goals as goal

pub returns : goal.returns
returns c =
    puts_whole
    (feed_next (omega arith)
    (number_next (omega arith) (rw c.from-4.ensures at c.put_columns-4.ensures)
    (number_next (omega arith) (rw c.from-3.ensures at c.put_columns-3.ensures)
    (number_next (omega arith) (rw c.from-2.ensures at c.put_columns-2.ensures)
    (number_next (omega arith) (rw c.from.ensures at c.put_columns.ensures) line_first)))))
    c.requires
