-- `gidzkhalu_check_patch` meets its contract: the record's length is judged, then the call.
use Rattle.std.proofs.Common.{rules}
use mathlib.Core.Path.{◌≡◌, refl, ap}
use mathlib.Core.List.{List}
use Prim.Native.Nat.{ℕ}
use lib.ListN.{length}
use Rattle.drawing.specs.declared.Choice.TheVariants.{Over}
use Rattle.drawing.specs.Object.{patch}
use Rattle.decide.specs.Refusal.{outcome}
use Rattle.exports.proofs.Small.{reads}
use Rattle.exports.proofs.Calls.{wrong_check, right_check}
use Rattle.exports.proofs.patches.gidzkhalu_check_patch.Goals as goal

pub returns-in_default : goal.returns-in_default
returns-in_default c =
    wrong_check 48 c.args.side (patch c.args.n c.args.m c.args.points.now 0 Over) (λ _. 0) (search rules) (reads c.refused.ensures)

pub returns-in-Ok-check_patch : goal.returns-in-Ok-check_patch
returns-in-Ok-check_patch c =
    let same : ◌≡◌ {A = List ℕ} c.in-Ok.points c.args.points.now = search rules in
    right_check 48 c.args.side (patch c.args.n c.args.m c.args.points.now 0 Over) (λ _. 0) (patch c.args.n c.args.m c.in-Ok.points 0 Over)
    (search rules) (rw same refl) (ap (λ v. outcome v 0) c.in-Ok-check_patch.ensures) refl

pub returns-in-Err : goal.returns-in-Err
returns-in-Err c =
    let same : ◌≡◌ {A = List ℕ} c.in-Ok.points c.args.points.now = search rules in
    right_check 48 c.args.side (patch c.args.n c.args.m c.args.points.now 0 Over) (λ _. 0) (patch c.args.n c.args.m c.in-Ok.points 0 Over)
    (search rules) (rw same refl) (ap (λ v. outcome v 0) c.in-Err.ensures) (reads c.refused-in-Err.ensures)
