-- `draw_strip_curve` meets its contract: what the strip takes the main path draws, and what it does not take is refused.
use Rattle.std.proofs.Common.{rules}
use Rattle.scan.proofs.Orders.{draws_refused}
use Rattle.scan.proofs.Alike.{as_the_other}
use Rattle.curve.specs.Curve.{curve_of}
use Rattle.strip.specs.Strip.{strip_drawing}
use Rattle.strip.proofs.Orders.{taken_alike}
use Rattle.strip.proofs.draw_strip_curve.Goals as goal

pub returns-in_err-judge_curve : goal.returns-in_err-judge_curve
returns-in_err-judge_curve c =
    let a = c.args in
    draws_refused (strip_drawing a.side (curve_of a.curve)) a.grid.now
    (c.in_err-judge_curve.ensures.each a.curve.points a.curve.choice) (search rules)

pub returns : goal.returns
returns c =
    let a = c.args in
    as_the_other _ _ (taken_alike a.side (curve_of a.curve) (c.in_ok-judge_curve.ensures.each a.curve.points a.curve.choice))
    c.draw_curve.ensures
