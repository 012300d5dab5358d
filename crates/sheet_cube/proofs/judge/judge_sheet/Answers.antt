-- `judge_sheet` meets its contract: line 1 is refused, or the curve lines decide.
use Rattle.std.proofs.Common.{rules, ◌≡◌, sym, ap, Ok, Err}
use Rattle.decide.specs.declared.Refusal.{Refusal}
use Rattle.sheet_cube.specs.Lines.{found}
use Rattle.sheet_cube.proofs.Judged.{side_refused}
use Rattle.sheet_cube.proofs.judge.judge_sheet.Goals as goal

pub judge_curves-requires : goal.judge_curves-requires
judge_curves-requires c =
    let good : c.judge_side.result ≡ Ok c.in_ok-side.side = search rules in
    let side = rw good at c.judge_side.ensures in
    record { input_value = side.0; side_value = side.1 }

pub returns-in_err-side : goal.returns-in_err-side
returns-in_err-side c =
    let told : (r : Refusal) × (c.judge_side.result ≡ Err r) × (c.from_residual.result ≡ Err (record { refusal = r; line = 1 })) = search rules in
    let refused = rw told.1 at c.judge_side.ensures in
    rw told.2 (sym (ap found (side_refused _ refused)))
