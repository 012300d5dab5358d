-- `read_curve` meets its contract: the coordinates before field k + 2 are bytes and stand in their places.
use Rattle.std.proofs.Common.{◌≡◌, sym, ◌∙◌, false, ℕ, ◌<◌, arith, Result, Ok, Err, OkIff, is_ok}
use Rattle.sheet_lines.proofs.Fields.{read_good, not_read}
use Rattle.sheet_lines.proofs.Fits.{mark_in, Fitting, fit_line, unfit_line}
use Rattle.sheet_lines.proofs.line.read_curve.Goals as goal

-- A number that no byte holds.
not_byte : {E : Type 0} (r : Result ℕ E) {n : ℕ} → OkIff r (n < 256) n → false ≡ is_ok r → n < 256 → ⊥
not_byte (Ok b) k e h = cc
not_byte (Err b) k e h = k h

pub returns-in_err-mark : goal.returns-in_err-mark
returns-in_err-mark c =
    let bad = not_read _ (sym c.in_err-mark.ensures) in
    c.from_residual.ensures ∙ unfit_line _ (λ f. let good = f.mark.0 in cc)

pub returns-then-is_mark_out : goal.returns-then-is_mark_out
returns-then-is_mark_out c =
    let good = read_good _ (sym c.in_ok-mark.ensures) in
    unfit_line _ (λ f. let out = rw good.1 at c.if-is_mark_out.ensures in let inside = f.mark.1 in cc)

pub returns-in_err-steps : goal.returns-in_err-steps
returns-in_err-steps c =
    let bad = not_read _ (sym c.in_err-steps.ensures) in
    c.from_residual-in_err-steps.ensures ∙ unfit_line _ (λ f. let good = f.steps in cc)

pub returns-in_err-number_at : goal.returns-in_err-number_at
returns-in_err-number_at c =
    let bad = not_read _ (sym c.in_err-number_at.ensures) in
    c.from_residual-in_err-number_at.ensures ∙ unfit_line _ (λ f. let good = (f.bytes c.loop-k.k (omega arith)).0 in cc)

pub returns-in_err-c : goal.returns-in_err-c
returns-in_err-c c =
    let good = read_good _ (sym c.in_ok-number_at.ensures) in
    let h = c.in_err-c.ensures.variant in
    let k = c.try_from.ensures in
    c.from_residual-in_err-c.ensures ∙ unfit_line _ (λ f. let b = (f.bytes c.loop-k.k (omega arith)).1 in not_byte _ k h (omega (arith, b, good.1)))

pub overflow_cast-result : goal.overflow_cast-result
overflow_cast-result c =
    let w = (mark_in c.in_ok-mark.mark).0 (sym c.if-is_mark_out.ensures) in
    record { fits = omega arith }

pub returns : goal.returns
returns c =
    let l = c.loop-k in
    let line = c.args.line.now in
    let i = l.invariant in
    let mark = read_good _ (sym c.in_ok-mark.ensures) in
    let steps = read_good _ (sym c.in_ok-steps.ensures) in
    let f : Fitting line = record {
      mark = (mark.0, rw mark.1 at (sym c.if-is_mark_out.ensures));
      steps = steps.0;
      bytes = λ k h. let p = i k (omega arith) in let g = read_good _ p.1 in (g.0, rw g.1 at p.0);
    } in
    fit_line line l.c-items c.in_ok-steps.steps c.in_ok-mark.mark f mark.1 steps.1 c.loop-k-test.array_long
    (λ k h. (read_good _ (i k (omega arith)).1).1)
