-- What the choice, over or under, does not change: verdicts, listings, and the number of new cells.
use mathlib.Core.Path.{◌≡◌, refl, ap}
use mathlib.Core.List.{List, map}
use Prim.Native.Nat.{ℕ, ◌-◌}
use lib.ListN.{length}
use Rattle.decide.specs.Refusal.{accepted}
use Rattle.decide.proofs.FirstThat.{by_verdict}
use Rattle.cube.specs.Cube.{place}
use Rattle.drawing.specs.declared.Choice.{Choice}
use Rattle.drawing.specs.Object.{Object, exact, cell_of, going}
use Rattle.drawing.specs.Refusals.{steps_too_long, order, draw_verdict, list_verdict, check_verdict}
use Rattle.drawing.specs.Drawing.{cells, Drawing, drawing_of, choosing, drawn_by, listed_by, listed}
use Rattle.drawing.specs.NewCells.{unmarked_cells, new_cells}
use Rattle.drawing.proofs.Drawn.{Fits, drawn_accepted, drawn_refused}
use Rattle.drawing.proofs.NewCells.{unmarked_either_way}

module _ (c : Choice) (S : ℕ) (o : Object) where
  pub draw_verdict_going : (gridLength : ℕ) → draw_verdict S gridLength (going c o) ≡ draw_verdict S gridLength o
  unfolding draw_verdict order steps_too_long exact
  draw_verdict_going gridLength = refl

  pub check_verdict_going : check_verdict S (going c o) ≡ check_verdict S o
  unfolding check_verdict order steps_too_long exact
  check_verdict_going = refl

  pub list_verdict_going : (listLength : ℕ) → list_verdict S listLength (going c o) ≡ list_verdict S listLength o
  unfolding list_verdict order steps_too_long exact
  list_verdict_going listLength = refl

  pub listed_going : (list : List ℕ) → listed S (going c o) list ≡ listed S o list
  unfolding listed_by list_verdict order steps_too_long cells cell_of exact
  listed_going list = refl

  -- A drawing of the object with the choice is its drawing with the choice.
  pub drawing_going : drawing_of S (going c o) ≡ choosing c (drawing_of S o)
  unfolding draw_verdict order steps_too_long cells cell_of exact
  drawing_going = refl

-- Over and under turn as many cells from unmarked to marked, whatever the kind of drawing.
module _ (c : Choice) (d : Drawing) (grid : List ℕ) (fits : d.verdict (length grid) ≡ accepted → Fits d (length grid)) where
  unmarked_left : unmarked_cells (drawn_by (choosing c d) grid) ≡ unmarked_cells (drawn_by d grid)
  unmarked_left =
      by_verdict (d.verdict (length grid)) _
      (λ e. rw (drawn_accepted (choosing c d) grid e, drawn_accepted d grid e)
      (unmarked_either_way d.mark (fits e).mark (map (place d.side) d.cells) grid c d.choice))
      (λ k e. rw (drawn_refused (choosing c d) grid e, drawn_refused d grid e))

  pub as_many_new : new_cells grid (drawn_by (choosing c d) grid) ≡ new_cells grid (drawn_by d grid)
  unfolding new_cells
  as_many_new = ap (λ k. unmarked_cells grid - k) unmarked_left
