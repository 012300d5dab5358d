-- `judge` meets its contract: what comes before the step test, and then the step test, which is asked within its limits.
use Rattle.std.proofs.Common.{rules, ◌≡◌, ◌∙◌, false, Result, Err}
use Rattle.decide.specs.Verdict.{verdict_of}
use Rattle.scan.proofs.Orders.{refused_before, past_tests, refused_long, accepted_short}
use Rattle.rows.proofs.Limits.{limits}
use Rattle.rows.proofs.record.judge.Goals as goal

pub step_too_long-requires : goal.step_too_long-requires
step_too_long-requires g c =
    let a = c.args in
    let o = g.R.Record.object a.record.now in
    limits o c.is_count_out-count_out.ensures
    (past_tests a.side o a.grid_wrong a.mark_wrong false c.is_count_out-count_out.ensures
    (rw c.points-points.ensures at c.in_ok-before_steps.ensures))

pub returns-in_err-before_steps : goal.returns-in_err-before_steps
returns-in_err-before_steps g c =
    let a = c.args in
    let same : c.from_residual.result ≡ Err c.in_err-before_steps.field-0.0 = search rules in
    rw same
    (refused_before a.side (g.R.Record.object a.record.now) a.grid_wrong a.mark_wrong false c.is_count_out-count_out.ensures
    (rw c.points-points.ensures at c.in_err-before_steps.ensures))

pub returns-then-step_too_long : goal.returns-then-step_too_long
returns-then-step_too_long g c =
    let a = c.args in
    refused_long a.side (g.R.Record.object a.record.now) a.grid_wrong a.mark_wrong false c.is_count_out-count_out.ensures
    (rw c.points-points.ensures at c.in_ok-before_steps.ensures) c.step_too_long.ensures c.if-step_too_long.true

pub returns : goal.returns
returns g c =
    let a = c.args in
    accepted_short a.side (g.R.Record.object a.record.now) a.grid_wrong a.mark_wrong false c.is_count_out-count_out.ensures
    (rw c.points-points.ensures at c.in_ok-before_steps.ensures) c.step_too_long.ensures c.if-step_too_long.false
