-- `gidzkhalu_draw_strip_curve` meets its contract: what the strip takes is the main path's call. Where it refuses, the record's
-- length is judged first, and then the choice.
use mathlib.Core.Path.{sym, subst}
use native.Mathlib.Omega.{arith}
use lib.ListN.{length}
use Rattle.decide.specs.Verdict.{verdict_of}
use Rattle.drawing.specs.Object.{curve}
use Rattle.strip.specs.Strip.{Judges}
use Rattle.strip.proofs.Orders.{taken_alike}
use Rattle.exports.specs.Records.{choice_of, DrawsBytes}
use Rattle.exports.proofs.Small.{reads}
use Rattle.exports.proofs.Calls.{wrong_record, wrong_number, own_number, as_another, no_choice_at, choice_at_most}
use Rattle.exports.proofs.Taken.{handed_on, curve_count}
use Rattle.exports.proofs.strips.gidzkhalu_draw_strip_curve.Goals as goal

pub returns-then-points-ne12 : goal.returns-then-points-ne12
returns-then-points-ne12 c = wrong_record 12 _ _ _ _ c.if-points-ne12.true (reads c.refused.ensures)

pub returns-in-Ok : goal.returns-in-Ok
returns-in-Ok c =
    let a = c.args in
    let o = curve a.steps a.points.now a.mark (choice_of a.choice) in
    let judged : Judges a.side (length a.grid.now) o (verdict_of c.judge_curve.result) =
    c.judge_curve.ensures.each a.points.now (choice_of a.choice) in
    let main = c.gidzkhalu_draw_curve.ensures in
    subst (DrawsBytes 12 _ _ _ _ _ _ _)
    (sym (handed_on 12 a.side (length a.grid.now) a.choice o (curve_count a.points.now a.mark _ a.steps) main.call.answer))
    (as_another 12 _ _ _ _ _
    (taken_alike a.side o (subst (λ v. Judges a.side (length a.grid.now) o (verdict_of v)) c.in-Ok.is judged))
    main)

pub returns-in_default : goal.returns-in_default
returns-in_default c =
    wrong_number 12 _ _ _ _ (omega (arith, c.if-points-ne12.false)) (no_choice_at _ c.in_default.ensures)
    (reads c.refused-in_default.ensures)

pub returns-in-Ok-try_from : goal.returns-in-Ok-try_from
returns-in-Ok-try_from c =
    let a = c.args in
    let o = curve a.steps a.points.now a.mark (choice_of a.choice) in
    let judged : Judges a.side (length a.grid.now) o (verdict_of c.judge_curve.result) =
    c.judge_curve.ensures.each a.points.now (choice_of a.choice) in
    own_number 12 _ _ _ _ (omega (arith, c.if-points-ne12.false)) (choice_at_most _ c.in-Ok-try_from.ensures)
    (subst (λ v. Judges a.side (length a.grid.now) o (verdict_of v)) c.in-Err.is judged)
    (reads c.refused-in-Err.ensures)
