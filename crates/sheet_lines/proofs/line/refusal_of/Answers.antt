-- `refusal_of` meets its contract: the tests are those of the definition, on what is read.
use Rattle.sheet_lines.proofs.Fits.{refusal_read}
use Rattle.sheet_lines.proofs.line.refusal_of.Goals as goal

pub returns-then-bad : goal.returns-then-bad
returns-then-bad c =
    rw c.if-bad.true at (
    refusal_read _ c.some_bad-bad.ensures c.number_at.ensures c.unwrap_or.ensures c.is_mark_out-mark_out.ensures
    c.number_at-2.ensures c.unwrap_or-2.ensures c.is_count_out-count_out.ensures)

pub returns-then-mark_out : goal.returns-then-mark_out
returns-then-mark_out c =
    rw (c.if-bad.false, c.if-mark_out.true) at (
    refusal_read _ c.some_bad-bad.ensures c.number_at.ensures c.unwrap_or.ensures c.is_mark_out-mark_out.ensures
    c.number_at-2.ensures c.unwrap_or-2.ensures c.is_count_out-count_out.ensures)

pub returns-then-count_out : goal.returns-then-count_out
returns-then-count_out c =
    rw (c.if-bad.false, c.if-mark_out.false, c.if-count_out.true) at (
    refusal_read _ c.some_bad-bad.ensures c.number_at.ensures c.unwrap_or.ensures c.is_mark_out-mark_out.ensures
    c.number_at-2.ensures c.unwrap_or-2.ensures c.is_count_out-count_out.ensures)

pub returns-else-count_out : goal.returns-else-count_out
returns-else-count_out c =
    rw (c.if-bad.false, c.if-mark_out.false, c.if-count_out.false) at (
    refusal_read _ c.some_bad-bad.ensures c.number_at.ensures c.unwrap_or.ensures c.is_mark_out-mark_out.ensures
    c.number_at-2.ensures c.unwrap_or-2.ensures c.is_count_out-count_out.ensures)
