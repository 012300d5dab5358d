-- `gidzkhalu_draw_curve` meets its contract: the record's length is judged, then the choice, then the call.
use Rattle.std.proofs.Common.{rules}
use mathlib.Core.Path.{◌≡◌, refl, ap}
use mathlib.Core.List.{List}
use Prim.Native.Nat.{ℕ}
use lib.ListN.{length}
use Rattle.drawing.specs.Drawing.{drawing_of}
use Rattle.exports.proofs.Small.{reads}
use Rattle.exports.proofs.Calls.{wrong_record, wrong_number, right_drawing, no_choice_at, choice_at_most, same_choice}
use Rattle.exports.proofs.curves.gidzkhalu_draw_curve.Goals as goal

pub returns-in_default : goal.returns-in_default
returns-in_default c = wrong_record 12 _ _ _ _ (search rules) (reads c.refused.ensures)

pub returns-in_default-try_from : goal.returns-in_default-try_from
returns-in_default-try_from c =
    wrong_number 12 _ _ _ _ (search rules) (no_choice_at _ c.in_default-try_from.ensures) (reads c.refused-in_default-try_from.ensures)

pub returns : goal.returns
returns c =
    let same : ◌≡◌ {A = List ℕ} c.in-Ok.points c.args.points.now = search rules in
    right_drawing 12 _ _ _ _ _ (search rules) (choice_at_most _ c.in-Ok-try_from.ensures)
    (ap (drawing_of _) (rw (same, same_choice _ c.in-Ok-try_from.ensures) refl)) c.draw_curve.ensures (reads c.drawn.ensures.value)
    c.drawn.ensures.new_cells_after
