-- `gidzkhalu_draw_chosen` meets its contract: the record's length is judged, then the choice, then the call.
use Rattle.std.proofs.Common.{rules}
use mathlib.Core.Path.{◌≡◌, refl}
use mathlib.Core.List.{List}
use Prim.Native.Nat.{ℕ}
use lib.ListN.{length}
use Rattle.exports.specs.Records.{choice_of}
use Rattle.chosen.specs.Chosen.{chosen_drawing}
use Rattle.exports.proofs.Small.{reads}
use Rattle.exports.proofs.Calls.{wrong_record, wrong_number, right_drawing, no_choice_at, choice_at_most, same_choice}
use Rattle.exports.proofs.curves.gidzkhalu_draw_chosen.Goals as goal

pub returns-in_default : goal.returns-in_default
returns-in_default c = wrong_record 12 _ _ _ _ (search rules) (reads c.refused.ensures)

pub returns-in_default-try_from : goal.returns-in_default-try_from
returns-in_default-try_from c =
    wrong_number 12 _ _ _ _ (search rules) (no_choice_at _ c.in_default-try_from.ensures) (reads c.refused-in_default-try_from.ensures)

pub returns : goal.returns
returns c =
    let a = c.args in
    let same : ◌≡◌ {A = List ℕ} c.in-Ok.points a.points.now = search rules in
    let drawing : chosen_drawing a.side c.in-Ok.points a.mark c.in-Ok-try_from.choice ≡ chosen_drawing a.side a.points.now a.mark (choice_of a.choice) =
    rw (same, same_choice _ c.in-Ok-try_from.ensures) refl
    in
    right_drawing 12 _ _ _ _ _ (search rules) (choice_at_most _ c.in-Ok-try_from.ensures) drawing c.draw_chosen.ensures
    (reads c.drawn.ensures.value) c.drawn.ensures.new_cells_after
