-- `column` meets its contract: the test is that of the definition.
use borrow.Author.Tests.{eq-eqb, ne_eqb}
use Rattle.sheet_text.specs.Column.{column_of}
use Rattle.sheet_text.proofs.text.column.Goals as goal

pub returns-then-v-eq0 : goal.returns-then-v-eq0
unfolding column_of
returns-then-v-eq0 c = simp (eq-eqb _ _ c.if-v-eq0.true)

pub returns-else-v-eq0 : goal.returns-else-v-eq0
unfolding column_of
returns-else-v-eq0 c = simp (ne_eqb _ _ c.if-v-eq0.false) c.digit.ensures
