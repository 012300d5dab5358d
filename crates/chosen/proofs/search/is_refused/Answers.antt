-- `is_refused` meets its contract: a last step that is too long is a step that is, and else the walk decides.
use mathlib.Core.Path.{sym, ◌∙◌}
use Prim.Native.Nat.{◌-◌}
use native.Mathlib.Omega.{arith}
use lib.Dec.{lit≤}
use Rattle.decide.proofs.Truth.{true_of}
use Rattle.decide.proofs.Some.{some_below_lem}
use Rattle.curve.proofs.Search.{one_axis}
use Rattle.chosen.proofs.search.is_refused.Goals as goal

pub long_between-requires : goal.long_between-requires
long_between-requires c = record {
  in_limits = c.requires;
  from_le_to = (lit≤ tt, lit≤ tt);
}

pub returns-then-is_last_long : goal.returns-then-is_last_long
returns-then-is_last_long c =
    c.if-is_last_long.true ∙
    sym (true_of _ ((some_below_lem _ _).1
    (c.args.curve.steps - 1, omega (arith, c.requires.count_least), rw (sym c.is_last_long.ensures ∙ c.if-is_last_long.true) tt)))

pub returns-else-is_last_long : goal.returns-else-is_last_long
returns-else-is_last_long c = c.long_between.ensures ∙ one_axis c.args.curve
