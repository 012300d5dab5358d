-- `draw_strip_patch` meets its contract: what the strip takes the main path draws, and what it does not take is refused.
use Rattle.std.proofs.Common.{rules}
use Rattle.scan.proofs.Orders.{draws_refused}
use Rattle.scan.proofs.Alike.{as_the_other}
use Rattle.patch.specs.Patch.{patch_of}
use Rattle.strip.specs.Strip.{strip_drawing}
use Rattle.strip.proofs.Orders.{taken_alike}
use Rattle.strip.proofs.draw_strip_patch.Goals as goal

pub returns-in_err-judge_patch : goal.returns-in_err-judge_patch
returns-in_err-judge_patch c =
    let a = c.args in
    draws_refused (strip_drawing a.side (patch_of a.patch)) a.grid.now
    (c.in_err-judge_patch.ensures.each a.patch.points a.patch.choice) (search rules)

pub returns : goal.returns
returns c =
    let a = c.args in
    as_the_other _ _ (taken_alike a.side (patch_of a.patch) (c.in_ok-judge_patch.ensures.each a.patch.points a.patch.choice))
    c.draw_patch.ensures
