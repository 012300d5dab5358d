-- `before_search` meets its contract: the tests before the step test, with no count and no list.
use mathlib.Core.Path.{sym, ◌∙◌}
use Rattle.chosen.proofs.Orders.{before_steps_lem}
use Rattle.chosen.proofs.before_search.Goals as goal

pub returns : goal.returns
returns c = c.before_steps.ensures ∙ sym (before_steps_lem _ _ _ _)
