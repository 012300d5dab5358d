-- `test_steps` meets its contract: where the test quits no step is too long; where it does not, the walk decides.
use mathlib.Core.Path.{sym, ◌∙◌}
use Rattle.gaps.proofs.Quits.{quits_short}
use Rattle.scan.proofs.Orders.{long_refused, short_accepted}
use Rattle.curve.specs.Curve.{curve_of}
use Rattle.curve.proofs.steps.test_steps.Goals as goal

pub returns-then-does_quit-clause-refused : goal.returns-then-does_quit-clause-refused
returns-then-does_quit-clause-refused c =
    sym (short_accepted (curve_of c.args.curve) (quits_short _ _ _ _ (rw (sym c.does_quit.ensures ∙ c.if-does_quit.true) tt)))

pub returns-then-step_too_long-clause-refused : goal.returns-then-step_too_long-clause-refused
returns-then-step_too_long-clause-refused c =
    sym (long_refused (curve_of c.args.curve) (sym c.step_too_long.ensures ∙ c.if-step_too_long.true))

pub returns-clause-refused : goal.returns-clause-refused
returns-clause-refused c = sym (short_accepted (curve_of c.args.curve) (sym c.step_too_long.ensures ∙ c.if-step_too_long.false))
