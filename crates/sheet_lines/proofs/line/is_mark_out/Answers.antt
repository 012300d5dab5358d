-- `is_mark_out` meets its contract: the two tests are those of the definition.
use borrow.Author.Tests.{eq-eqb, ne_eqb}
use Rattle.sheet.specs.Sheet.{mark_out}
use Rattle.sheet_lines.proofs.line.is_mark_out.Goals as goal

pub returns-then-mark-eq0 : goal.returns-then-mark-eq0
unfolding mark_out
returns-then-mark-eq0 c = simp (eq-eqb c.args.mark 0 c.if-mark-eq0.true)

pub returns-else-mark-eq0 : goal.returns-else-mark-eq0
unfolding mark_out
returns-else-mark-eq0 c = simp (ne_eqb c.args.mark 0 c.if-mark-eq0.false)
