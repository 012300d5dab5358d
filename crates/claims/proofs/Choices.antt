-- Document 02, A.11 holds: laws of drawings of every kind, over or under.
use mathlib.Core.Path.{◌≡◌, refl, ◌∙◌, ap, fun_ext}
use mathlib.Core.Logic.{⊎_elim}
use mathlib.Core.List.Memᴰ
use mathlib.Core.List.{List, Memᴰ}
use Prim.Native.Nat.{ℕ, ◌<◌}
use lib.ListN.{length, get_or}
use Rattle.decide.specs.Refusal.{accepted}
use Rattle.cube.specs.Cube.{Cell, Inside, place}
use Rattle.cube.proofs.Places.{place_below, place_injective}
use Rattle.drawing.specs.declared.Choice.{Choice}
use Rattle.drawing.specs.Object.{Object, going, exact, cell_of}
use Rattle.drawing.specs.Refusals.{steps_too_long, order, draw_verdict, list_verdict}
use Rattle.drawing.specs.Drawing.{written, cells, Drawing, choosing, drawn_by, listing_of}
use Rattle.drawing.specs.NewCells.{new_cells}
use Rattle.drawing.proofs.Marked as marks
use Rattle.drawing.proofs.Drawn.{PlaceOf, Fits, drawn_holds, drawn_there, drawn_in_any_order}
use Rattle.drawing.proofs.Choices as choices
use Rattle.path.specs.Path.{path_length, path_list_verdict, path_listing}
use Rattle.strip.specs.Strip.{strip_order, strip_verdict}
use Rattle.claims.specs.Demand3.{Call, draw_curve, draw_patch, draw_solid, draw_chosen, draw_path, draw_strip_curve, draw_strip_patch}
use Rattle.claims.specs.Demand3.{drawing_by}
use Rattle.claims.specs.Choices.{OverOrUnder, going_by, Claim}
use Rattle.claims.proofs.Supplied.{supplied}

module _ (d : Drawing) (grid : List ℕ) (e : d.verdict (length grid) ≡ accepted) (fits : Fits d (length grid)) where
  -- What the drawing leaves in one of its cells.
  there : {c : Cell} → Memᴰ c d.cells →
      get_or (drawn_by d grid) (place d.side c) 0 ≡ written d.choice d.mark (get_or grid (place d.side c) 0)
  there m = drawn_there d grid e fits m

  -- The cell at the place of one of its cells.
  cell_of_lem : (c : Cell) → Inside d.side c → PlaceOf d.side d.cells (place d.side c) → Memᴰ c d.cells
  cell_of_lem c inside p =
      Memᴰ.cast (fun_ext (place_injective d.side c p.cell inside (fits.inside p.cell p.is_one) p.at)) p.is_one

  in_grid : (c : Cell) → Inside d.side c → place d.side c < length grid
  in_grid c inside = rw fits.cube (place_below d.side c inside)

  over_or_under : OverOrUnder d grid
  over_or_under = record {
    under_keeps = λ k c inside n.
        ⊎_elim (λ kept. kept)
        (λ w. there (cell_of_lem c inside w.1) ∙
        ap (λ h. written h d.mark (get_or grid (place d.side c) 0)) k ∙ marks.under_keeps d.mark n)
        (drawn_holds d grid (place d.side c) (in_grid c inside));
    under_fills = λ k c m z.
        there m ∙ ap (λ h. written h d.mark (get_or grid (place d.side c) 0)) k ∙ marks.under_fills d.mark z;
    over_marks = λ k c m.
        there m ∙ ap (λ h. written h d.mark (get_or grid (place d.side c) 0)) k ∙ marks.over_writes d.mark _;
    others_stay = λ c inside n.
        ⊎_elim (λ kept. kept) (λ w. absurd (n (cell_of_lem c inside w.1)))
        (drawn_holds d grid (place d.side c) (in_grid c inside));
    in_any_order = drawn_in_any_order d grid e;
  }

-- The drawing of a call with a choice of its own is its drawing with the choice.
drawing_by_lem : (choice : Choice) (call : Call) → drawing_by (going_by choice call) ≡ choosing choice (drawing_by call)
unfolding exact cell_of cells steps_too_long order draw_verdict path_length strip_order strip_verdict
drawing_by_lem choice (draw_curve side n points mark other) = refl
drawing_by_lem choice (draw_patch side n m points mark other) = refl
drawing_by_lem choice (draw_solid side n m l points mark other) = refl
drawing_by_lem choice (draw_chosen side points mark other) = refl
drawing_by_lem choice (draw_path side n points mark other) = refl
drawing_by_lem choice (draw_strip_curve side n points mark other) = refl
drawing_by_lem choice (draw_strip_patch side n m points mark other) = refl

-- Listings do not look at it.
listing_going : (S : ℕ) (o : Object) (choice : Choice) → listing_of S (going choice o) ≡ listing_of S o
unfolding exact cell_of cells steps_too_long order list_verdict
listing_going S o choice = refl

path_listing_going : (S : ℕ) (o : Object) (choice : Choice) → path_listing S (going choice o) ≡ path_listing S o
unfolding exact cell_of cells steps_too_long order path_length path_list_verdict
path_listing_going S o choice = refl

pub claim : Claim
claim = record {
  drawing = λ call grid e. over_or_under (drawing_by call) grid e ((supplied call).fits (length grid) e);
  by_no_choice = λ call choice. record {
    drawing_refusals = λ gridLength. ap (λ d. d.verdict gridLength) (drawing_by_lem choice call);
    as_many_new = λ grid.
        ap (λ d. new_cells grid (drawn_by d grid)) (drawing_by_lem choice call) ∙
        choices.as_many_new choice (drawing_by call) grid ((supplied call).fits (length grid));
  };
  ignores_choice = λ S o choice. record {
    check = choices.check_verdict_going choice S o;
    listing = listing_going S o choice;
    path_listing = path_listing_going S o choice;
  };
  sheets_mean_over = λ s. refl;
}
