-- `judge_patch` meets its contract: it judges by the counts, the mark and the most of such an object.
use mathlib.Core.Path.{refl}
use Rattle.drawing.specs.Object.{patch}
use Rattle.strip.proofs.judge_patch.Goals as goal

pub returns : goal.returns
returns c =
    let a = c.args in record { each = λ points choice. c.judge.ensures.is (patch a.n a.m points a.mark choice) refl refl refl }
