-- `put_line` meets its contract: the columns are written one number after another.
use native.Mathlib.Omega.{arith}
use Rattle.sheet_text.proofs.Line.{line_first, number_next, feed_next}
use Rattle.sheet_text.proofs.Puts.{puts_whole}
use Rattle.cube_totals.proofs.put_line.Goals as goal

pub returns : goal.returns
returns c =
    puts_whole
    (feed_next (omega arith)
    (number_next (omega arith) c.put_columns-5.ensures
    (number_next (omega arith) c.put_columns-4.ensures
    (number_next (omega arith) c.put_columns-3.ensures
    (number_next (omega arith) c.put_columns-2.ensures
    (number_next (omega arith) c.put_columns.ensures line_first))))))
    c.requires.line_len
