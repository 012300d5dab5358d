-- `judge_curve` meets its contract: a line that fits is judged by its curve, another by what does not fit.
use Rattle.std.proofs.Common.{◌≡◌, sym, ◌∙◌, ap, Bool, true, false, not, List, ℕ, ◌≤◌, take, Some, None, Err, rules, arith}
use Rattle.decide.specs.Refusal.{refused, first_that}
use Rattle.decide.proofs.FirstThat.{answer_refused, answer_given}
use Rattle.cube.specs.Cube.{side_out}
use Rattle.drawing.specs.Refusals.{check_verdict}
use Rattle.curve.specs.declared.Curve.{Curve}
use Rattle.curve.specs.Curve.{curve_of}
use Rattle.sheet.specs.Line.{is_wrong}
use Rattle.sheet.specs.Sheet.{curve_order}
use Rattle.sheet.proofs.Sheet.{too_many_lines}
use Rattle.sheet_lines.specs.Read.{first_line, read_line, unfit_refusal}
use Rattle.sheet_lines.proofs.Fits.{read_fits, read_curve}
use Rattle.sheet_lines.proofs.Order.{fit_judged, unfit_refused}
use Rattle.sheet_cube.proofs.Verdicts.{WholeLine, is_wrong_lem, is_whole, curve_wrong, side_there}
use Rattle.sheet_cube.proofs.judge.judge_curve.Goals as goal

pub returns-then-line-gt201 : goal.returns-then-line-gt201
returns-then-line-gt201 c = sym (too_many_lines c.args.side _ (first_line c.args.rest.now) (omega (arith, c.if-line-gt201.true)))

pub returns-then-not-is_line : goal.returns-then-not-is_line
returns-then-not-is_line c = sym (curve_wrong c.args.side _ _ (omega arith) (is_wrong_lem 14 _ c.is_line.ensures c.if-not-is_line.true))

pub slice_bounds-text-end : goal.slice_bounds-text-end
slice_bounds-text-end c = sym (is_whole 14 _ c.is_line.ensures c.if-not-is_line.false).whole

pub read_curve-requires : goal.read_curve-requires
read_curve-requires c = omega (arith, (is_whole 14 _ c.is_line.ensures c.if-not-is_line.false).whole)

pub refusal_of-requires : goal.refusal_of-requires
refusal_of-requires c = omega (arith, (is_whole 14 _ c.is_line.ensures c.if-not-is_line.false).whole)

-- Past the test of the line, what is read is read of the line.
module _ (rest : List ℕ) (S k : ℕ) (few : k ≤ 201) {b : Bool} (whole : b ≡ not (is_wrong 14 (first_line rest))) (t : b ≡ true) where
  first : WholeLine 14 rest
  first = is_whole 14 rest whole t

  -- A line that fits is judged as its curve is,
  judged : {c : Curve} → Some c ≡ read_line (take 71 rest) → check_verdict S (curve_of c) ≡ first_that (curve_order S k (first_line rest))
  judged e =
      let read = rw first.taken at e in
      ap (check_verdict S) (read_curve _ read) ∙ sym (fit_judged S _ _ few first.right (sym (read_fits _ read)))

  -- and another by what does not fit.
  unfit : None ≡ read_line (take 71 rest) → side_out S ≡ false → (n : ℕ) → n ≡ unfit_refusal (take 71 rest) →
      refused n ≡ first_that (curve_order S k (first_line rest))
  unfit e side n told =
      let read = rw first.taken at e in
      ap refused (rw first.taken at told) ∙ sym (unfit_refused S _ _ few first.right side (sym (read_fits _ read)))

pub returns-in_default : goal.returns-in_default
returns-in_default c =
    unfit _ c.args.side _ (omega arith) c.is_line.ensures c.if-not-is_line.false c.in_default.ensures (side_there c.requires.0 c.requires.1) _
    c.refusal_of.ensures

pub returns-in_err-check_curve : goal.returns-in_err-check_curve
returns-in_err-check_curve c =
    let same : c.from_residual.result ≡ Err c.in_err-check_curve.field-0.0 = search rules in
    rw same
    (sym (answer_refused _ _ c.in_err-check_curve.ensures) ∙
    judged _ _ _ (omega arith) c.is_line.ensures c.if-not-is_line.false c.in-Some.ensures)

pub returns : goal.returns
returns c =
    sym (answer_given _ _ c.in_ok-check_curve.ensures).0 ∙
    judged _ _ _ (omega arith) c.is_line.ensures c.if-not-is_line.false c.in-Some.ensures
