-- `list_curve` meets its contract: the verdict is that of the listing order, and an accepted curve is listed.
use Rattle.std.proofs.Common.{rules, arith, ◌≡◌, ◌∙◌, ap, Bool, false, ltb, ℕ, suc, ◌+◌, ◌*◌, length}
use Rattle.decide.specs.Refusal.{gives, first_that}
use Rattle.drawing.specs.Refusals.{order, list_verdict, sample_count}
use Rattle.drawing.specs.Drawing.{listing_of}
use Rattle.scan.proofs.Orders.{lists_refused}
use Rattle.curve.specs.declared.Curve.{Curve}
use Rattle.curve.specs.Curve.{curve_of}
use Rattle.curve.proofs.Judged.{before_refused, in_limits, test_decides}
use Rattle.curve.proofs.list_curve.Goals as goal

-- The list has less than three bytes for each sample.
abbrev short : (len : ℕ) → Curve → Bool
short len c = ltb len (3 * (c.steps + 1))

-- The verdict is that of the listing order.
judged : (S len : ℕ) (c : Curve) → list_verdict S len (curve_of c) ≡ first_that (order S (curve_of c) false false (short len c))
unfolding list_verdict sample_count
judged S len c =
    let count : suc c.steps * 1 ≡ c.steps + 1 = omega arith in
    rw count

pub returns-in_err-before_test : goal.returns-in_err-before_test
returns-in_err-before_test c =
    lists_refused (listing_of c.args.side (curve_of c.args.curve)) c.args.list.now
    (judged c.args.side (length c.args.list.now) c.args.curve ∙
    before_refused c.args.side c.args.curve false false (short (length c.args.list.now) c.args.curve) c.in_err-before_test.ensures)
    (search rules)

pub test_steps-requires : goal.test_steps-requires
test_steps-requires c =
    in_limits c.args.side c.args.curve false false (short (length c.args.list.now) c.args.curve) c.in_ok-before_test.ensures
    (search rules)

pub returns-in_err-test_steps : goal.returns-in_err-test_steps
returns-in_err-test_steps c =
    lists_refused (listing_of c.args.side (curve_of c.args.curve)) c.args.list.now
    (judged c.args.side (length c.args.list.now) c.args.curve ∙
    test_decides c.args.side c.args.curve false false (short (length c.args.list.now) c.args.curve) c.in_ok-before_test.ensures
    c.in_err-test_steps.ensures.refused)
    (search rules)

pub list_samples-requires : goal.list_samples-requires
list_samples-requires c =
    judged c.args.side (length c.args.list.now) c.args.curve ∙
    test_decides c.args.side c.args.curve false false (short (length c.args.list.now) c.args.curve) c.in_ok-before_test.ensures
    c.in_ok-test_steps.ensures.refused

pub overflow_add-result : goal.overflow_add-result
overflow_add-result c =
    let l = in_limits c.args.side c.args.curve false false (short (length c.args.list.now) c.args.curve)
    c.in_ok-before_test.ensures (search rules) in
    record { fits = omega (arith, l.count_most) }

pub returns : goal.returns
unfolding sample_count
returns c =
    let e = judged c.args.side (length c.args.list.now) c.args.curve ∙
    test_decides c.args.side c.args.curve false false (short (length c.args.list.now) c.args.curve) c.in_ok-before_test.ensures
    c.in_ok-test_steps.ensures.refused in
    record {
      answer = rw e (ap gives (omega arith));
      leaves = c.list_samples.ensures;
    }
