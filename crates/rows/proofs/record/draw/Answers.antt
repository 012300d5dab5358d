-- `draw` meets its contract: the verdict is that of the drawing order, and an accepted record is drawn.
use Rattle.std.proofs.Common.{rules, ◌≡◌, sym, ◌∙◌, Bool, not, false, eqb, length, List, ℕ, Result}
use Rattle.decide.specs.declared.Refusal.{Refusal}
use Rattle.decide.specs.Refusal.{Verdict, first_that}
use Rattle.decide.specs.Verdict.{verdict_of}
use Rattle.cube.specs.Cube.{volume}
use Rattle.drawing.specs.Object.{Object}
use Rattle.drawing.specs.Refusals.{order, draw_verdict}
use Rattle.drawing.specs.Drawing.{drawing_of}
use Rattle.scan.proofs.Orders.{draw_judged, draws_refused, draws_accepted}
use Rattle.rows.proofs.record.draw.Goals as goal

-- The verdict is that of the drawing order.
judged : (S : ℕ) (o : Object) (len : ℕ) {mark : ℕ} {cube : Bool} {v : Verdict} → mark ≡ o.mark → cube ≡ eqb len (volume S) →
    v ≡ first_that (order S o (not cube) (eqb mark 0) false) → draw_verdict S len o ≡ v
judged S o len m e told = draw_judged S o len e ∙ sym (rw m at told)

pub mark_samples-requires : goal.mark_samples-requires
mark_samples-requires g c =
    judged c.args.side (g.R.Record.object c.args.record.now) (length c.args.grid.now) c.mark.ensures c.is_volume-cube.ensures
    c.in_ok-judge.ensures

pub returns-in_err-judge : goal.returns-in_err-judge
returns-in_err-judge g c =
    draws_refused (drawing_of c.args.side (g.R.Record.object c.args.record.now)) c.args.grid.now
    (judged c.args.side (g.R.Record.object c.args.record.now) (length c.args.grid.now) c.mark.ensures c.is_volume-cube.ensures
    c.in_err-judge.ensures)
    (search rules)

pub returns : goal.returns
returns g c =
    let drawn = c.mark_samples.ensures in
    draws_accepted (drawing_of c.args.side (g.R.Record.object c.args.record.now)) c.args.grid.now
    (judged c.args.side (g.R.Record.object c.args.record.now) (length c.args.grid.now) c.mark.ensures c.is_volume-cube.ensures
    c.in_ok-judge.ensures) _
    drawn.grid_after_2 drawn.answer_value drawn.grid_after
