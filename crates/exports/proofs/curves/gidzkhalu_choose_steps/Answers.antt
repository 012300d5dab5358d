-- `gidzkhalu_choose_steps` meets its contract: the record's length is judged, then the call.
use Rattle.std.proofs.Common.{rules}
use mathlib.Core.Path.{◌≡◌, ◌∙◌, ap}
use mathlib.Core.List.{List}
use Prim.Native.Nat.{ℕ}
use lib.ListN.{length}
use Rattle.decide.specs.Refusal.{outcome}
use Rattle.chosen.specs.Chosen.{chosen, count_verdict}
use Rattle.exports.proofs.Small.{reads}
use Rattle.exports.proofs.Calls.{wrong_answer, right_answer}
use Rattle.exports.proofs.curves.gidzkhalu_choose_steps.Goals as goal

pub returns-in_default : goal.returns-in_default
returns-in_default c =
    wrong_answer 12 c.args.points.now (count_verdict c.args.side c.args.points.now) (chosen c.args.points.now) (search rules)
    (reads c.refused.ensures)

pub returns : goal.returns
returns c =
    let same : ◌≡◌ {A = List ℕ} c.in-Ok.points c.args.points.now = search rules in
    right_answer 12 c.args.points.now (count_verdict c.args.side c.args.points.now) (chosen c.args.points.now) (search rules)
    (c.choose_steps.ensures ∙ ap (λ p. outcome (count_verdict c.args.side p) (chosen p)) same)
    (reads c.signed.ensures)
