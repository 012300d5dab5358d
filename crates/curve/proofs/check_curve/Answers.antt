-- `check_curve` meets its contract: the order with nothing to say of grid, mark and list, and what the test tells.
use Rattle.std.proofs.Common.{rules, ◌≡◌, refl, sym, ◌∙◌, ap, ap₂, false, Result, Ok, Err}
use Rattle.decide.specs.declared.Refusal.{Refusal}
use Rattle.decide.specs.Refusal.{outcome}
use Rattle.decide.specs.Verdict.{verdict_of}
use Rattle.drawing.specs.Refusals.{check_verdict}
use Rattle.gaps.specs.Gaps.{quits}
use Rattle.curve.specs.declared.steps.StepTest.{StepTest}
use Rattle.curve.specs.Curve.{tells_quit, check_answer_of}
use Rattle.curve.proofs.Judged.{before_refused, in_limits, test_decides}
use Rattle.curve.proofs.check_curve.Goals as goal

pub returns-in_err-before_test : goal.returns-in_err-before_test
unfolding check_verdict
returns-in_err-before_test c =
    let same : c.from_residual.result ≡ Err c.in_err-before_test.field-0.0 = search rules in
    rw same
    (sym (ap (λ v. outcome v (quits c.args.curve.points c.args.curve.steps))
    (before_refused c.args.side c.args.curve false false false c.in_err-before_test.ensures)))

pub test_steps-requires : goal.test_steps-requires
test_steps-requires c =
    in_limits c.args.side c.args.curve false false false c.in_ok-before_test.ensures (search rules)

-- An answer by its verdict and by whether it tells that the test quit.
in_two : (r : Result StepTest Refusal) → check_answer_of r ≡ outcome (verdict_of r) (tells_quit r)
in_two (Ok told) = refl
in_two (Err e) = refl

pub returns : goal.returns
unfolding check_verdict
returns c =
    in_two c.test_steps.result ∙
    ap₂ outcome
    (sym (test_decides c.args.side c.args.curve false false false c.in_ok-before_test.ensures c.test_steps.ensures.refused))
    c.test_steps.ensures.quit
