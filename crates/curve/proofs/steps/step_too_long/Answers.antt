-- `step_too_long` meets its contract: all three axes are searched.
use mathlib.Core.Path.{◌∙◌}
use lib.Dec.{lit≤}
use Rattle.curve.proofs.Search.{all_axes}
use Rattle.curve.proofs.steps.step_too_long.Goals as goal

pub long_between-requires : goal.long_between-requires
long_between-requires c = record {
  in_limits = c.requires;
  from_le_to = (lit≤ tt, lit≤ tt);
}

pub returns : goal.returns
returns c = c.long_between.ensures ∙ all_axes _
