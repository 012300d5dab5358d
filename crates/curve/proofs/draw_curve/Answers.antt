-- `draw_curve` meets its contract: the verdict is that of the drawing order, and an accepted curve is drawn.
use Rattle.std.proofs.Common.{rules, arith, ◌∙◌, Bool, false, not, eqb, length}
use Rattle.drawing.specs.Refusals.{sample_count}
use Rattle.drawing.specs.Drawing.{drawing_of}
use Rattle.scan.proofs.Orders.{draw_judged, draws_refused, draws_accepted}
use Rattle.curve.specs.declared.Curve.{Curve}
use Rattle.curve.specs.Curve.{curve_of}
use Rattle.curve.proofs.Judged.{before_refused, in_limits, test_decides}
use Rattle.curve.proofs.draw_curve.Goals as goal

-- The mark is 0.
abbrev unmarked : Curve → Bool
unmarked c = eqb c.mark 0

pub returns-in_err-before_test : goal.returns-in_err-before_test
returns-in_err-before_test c =
    draws_refused (drawing_of c.args.side (curve_of c.args.curve)) c.args.grid.now
    (draw_judged c.args.side (curve_of c.args.curve) (length c.args.grid.now) c.is_volume-cube.ensures ∙
    before_refused c.args.side c.args.curve (not c.is_volume-cube.result) (unmarked c.args.curve) false c.in_err-before_test.ensures)
    (search rules)

pub test_steps-requires : goal.test_steps-requires
test_steps-requires c =
    in_limits c.args.side c.args.curve (not c.is_volume-cube.result) (unmarked c.args.curve) false c.in_ok-before_test.ensures
    (search rules)

pub returns-in_err-test_steps : goal.returns-in_err-test_steps
returns-in_err-test_steps c =
    draws_refused (drawing_of c.args.side (curve_of c.args.curve)) c.args.grid.now
    (draw_judged c.args.side (curve_of c.args.curve) (length c.args.grid.now) c.is_volume-cube.ensures ∙
    test_decides c.args.side c.args.curve (not c.is_volume-cube.result) (unmarked c.args.curve) false c.in_ok-before_test.ensures
    c.in_err-test_steps.ensures.refused)
    (search rules)

pub mark_samples-new_cells-requires : goal.mark_samples-new_cells-requires
mark_samples-new_cells-requires c =
    draw_judged c.args.side (curve_of c.args.curve) (length c.args.grid.now) c.is_volume-cube.ensures ∙
    test_decides c.args.side c.args.curve (not c.is_volume-cube.result) (unmarked c.args.curve) false c.in_ok-before_test.ensures
    c.in_ok-test_steps.ensures.refused

pub overflow_add-answer : goal.overflow_add-answer
overflow_add-answer c =
    let l = in_limits c.args.side c.args.curve (not c.is_volume-cube.result) (unmarked c.args.curve) false
    c.in_ok-before_test.ensures (search rules) in
    record { fits = omega (arith, l.count_most) }

pub returns : goal.returns
unfolding sample_count
returns c =
    let e = draw_judged c.args.side (curve_of c.args.curve) (length c.args.grid.now) c.is_volume-cube.ensures ∙
    test_decides c.args.side c.args.curve (not c.is_volume-cube.result) (unmarked c.args.curve) false c.in_ok-before_test.ensures
    c.in_ok-test_steps.ensures.refused in
    draws_accepted (drawing_of c.args.side (curve_of c.args.curve)) c.args.grid.now e _
    c.mark_samples-new_cells.ensures.grid_after_2 (omega arith) c.mark_samples-new_cells.ensures.grid_after
