-- `gidzkhalu_check_curve` meets its contract: the record's length is judged, then the call.
use Rattle.std.proofs.Common.{rules}
use mathlib.Core.Path.{◌≡◌, refl, ◌∙◌, ap}
use mathlib.Core.List.{List}
use Prim.Native.Nat.{ℕ}
use lib.IntN.{ℤ}
use lib.ListN.{length, get_or}
use Rattle.std.specs.Prelude.{Result, Ok, Err}
use Rattle.drawing.specs.declared.Choice.TheVariants.{Over}
use Rattle.drawing.specs.Object.{Object, curve}
use Rattle.decide.specs.declared.Refusal.{Refusal}
use Rattle.decide.specs.Refusal.{outcome}
use Rattle.decide.proofs.FirstThat.{telling_outcome}
use Rattle.drawing.specs.Refusals.{check_verdict}
use Rattle.gaps.specs.Gaps.{quits}
use Rattle.curve.specs.declared.Curve.{Curve}
use Rattle.curve.specs.declared.steps.StepTest.{StepTest}
use Rattle.curve.specs.declared.steps.StepTest.TheVariants.{Walked, Quit}
use Rattle.curve.specs.Curve.{curve_of, check_answer_of}
use Rattle.exports.specs.Signed.{signed_of}
use Rattle.exports.specs.Records.{quit_number, quit_of, ChecksBytes}
use Rattle.exports.proofs.Small.{reads}
use Rattle.exports.proofs.Calls.{wrong_check, right_check}
use Rattle.exports.proofs.curves.gidzkhalu_check_curve.Goals as goal

-- What a check tells of a curve.
abbrev told : Object → ℕ
told o = quit_number (quits o.points (get_or o.counts 0 0))

-- By the check's own answer.
checked : (side : ℕ) (points : List ℕ) (c : Curve) (a : Result StepTest Refusal) {r : ℤ} → length points ≡ 12 → c.points ≡ points →
    c.mark ≡ 0 → c.choice ≡ Over → check_answer_of a ≡ outcome (check_verdict side (curve_of c)) (quits c.points c.steps) →
    r ≡ signed_of (quit_of (check_answer_of a)) → ChecksBytes 12 side (curve c.steps points 0 Over) (told (curve c.steps points 0 Over)) r
checked side points c a h p m o says e =
    right_check 12 side (curve c.steps points 0 Over) told (curve_of c) h (rw (p, m, o) refl)
    (ap quit_of says ∙ telling_outcome quit_number (check_verdict side (curve_of c)) (quits c.points c.steps)) e

pub returns-in_default : goal.returns-in_default
returns-in_default c =
    wrong_check 12 c.args.side (curve c.args.steps c.args.points.now 0 Over) told (search rules) (reads c.refused.ensures)

pub returns-in-Ok-Walked : goal.returns-in-Ok-Walked
returns-in-Ok-Walked c =
    checked c.args.side c.args.points.now (record { mark = 0; choice = Over; steps = c.args.steps; points = c.in-Ok.points }) (Ok Walked)
    (search rules) (search rules) refl refl (rw c.in-Ok-Walked.field-0-is at c.in-Ok-Walked.ensures) refl

pub returns-in-Ok-Quit : goal.returns-in-Ok-Quit
returns-in-Ok-Quit c =
    checked c.args.side c.args.points.now (record { mark = 0; choice = Over; steps = c.args.steps; points = c.in-Ok.points }) (Ok Quit)
    (search rules) (search rules) refl refl (rw c.in-Ok-Quit.field-0-is at c.in-Ok-Quit.ensures) refl

pub returns-in-Err : goal.returns-in-Err
returns-in-Err c =
    checked c.args.side c.args.points.now (record { mark = 0; choice = Over; steps = c.args.steps; points = c.in-Ok.points })
    (Err c.in-Err.refusal) (search rules) (search rules) refl refl c.in-Err.ensures (reads c.refused-in-Err.ensures)
