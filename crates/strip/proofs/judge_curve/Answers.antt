-- `judge_curve` meets its contract: it judges by the counts, the mark and the most of such an object.
use mathlib.Core.Path.{refl}
use Rattle.drawing.specs.Object.{curve}
use Rattle.strip.proofs.judge_curve.Goals as goal

pub returns : goal.returns
returns c =
    let a = c.args in record { each = λ points choice. c.judge.ensures.is (curve a.n points a.mark choice) refl refl refl }
