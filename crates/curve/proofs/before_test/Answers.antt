-- `before_test` meets its contract: the tests of all that comes before the step test, with that of the step count.
use Rattle.curve.proofs.before_test.Goals as goal

pub returns : goal.returns
returns c = rw (← c.is_count_out-count_out.ensures) c.before_steps.ensures
