-- Document 02, A.10 holds. Different places are different cells, so the places that a drawing turns to marked, each once,
-- are cells, each once; and a listing has a line for each marked cell, the totals a count of the others.
use mathlib.Core.Path.{◌≡◌, refl, sym, ◌∙◌, ap, fun_ext}
use mathlib.Core.List.Memᴰ
use mathlib.Core.List.{List, [], ◌∷◌, map, Memᴰ}
use Prim.Native.Nat.{ℕ, ◌+◌}
use lib.ListN.{length, get_or, length-map}
use Rattle.decide.specs.Refusal.{accepted}
use Rattle.cube.specs.Cube.{Cell, place, cell_at}
use Rattle.cube.proofs.Places.{cell_at_place, place_of_cell}
use Rattle.drawing.specs.Drawing.{Drawing, drawn_by}
use Rattle.drawing.specs.NewCells.{Different}
use Rattle.drawing.proofs.Drawn.{cells_are, PlaceOf, Fits}
use Rattle.drawing.proofs.NewCells.{new_of_lem, new_places, drawn_at_most}
use Rattle.sheet.specs.Sheet.{Stroke}
use Rattle.sheet.specs.Printed.{cube_of}
use Rattle.sheet.specs.Call.{new_cells_of}
use Rattle.sheet.proofs.Lines.{listing_lines}
use Rattle.sheet.proofs.NewCells.{new_marked, new_or_unmarked}
use Rattle.totals.proofs.Marks.{count_unmarked}
use Rattle.claims.specs.Demand3.{drawing_by}
use Rattle.claims.specs.NewCells.{TurnsToMarked, AddUpToMarked, Claim}
use Rattle.claims.proofs.Supplied.{supplied}

-- What is different stays so under a map that can be undone.
different_map : {A B : Type 0} (f : A → B) (g : B → A) → ((a : A) → g (f a) ≡ a) → (l : List A) → Different l → Different (map f l)
different_map f g back [] d = tt
different_map f g back (a ∷ l) d = (
  λ m. let w = Memᴰ.of_map f l m in d.0 (Memᴰ.cast (sym (back a) ∙ ap g (sym w.2) ∙ back w.0) w.1),
  different_map f g back l d.1,
)

module _ (d : Drawing) (grid : List ℕ) (e : d.verdict (length grid) ≡ accepted) (fits : Fits d (length grid)) where
  -- One of the drawing's cells is the one that stands at its place.
  cell_there : {c : Cell} → Memᴰ c d.cells → cell_at d.side (place d.side c) ≡ c
  cell_there {c} m = fun_ext (cell_at_place d.side c (fits.inside c m))

  turns_to_marked : TurnsToMarked d grid
  turns_to_marked =
      let S : ℕ = d.side in
      let n = new_places d grid e fits in
      record {
        at_most = drawn_at_most d grid (λ _. fits);
        new = map (cell_at S) n.places;
        are_different = different_map (cell_at S) (place S) (place_of_cell S) n.places n.different;
        are_these = λ c. (
          λ m. let w = Memᴰ.of_map (cell_at S) n.places m in
              let p = (n.are w.0).0 w.1 in (
                Memᴰ.cast (sym w.2 ∙ ap (cell_at S) p.0.at ∙ cell_there p.0.is_one) p.0.is_one,
                ap (λ q. get_or grid q 0) (ap (place S) (sym w.2) ∙ place_of_cell S w.0) ∙ p.1,
              ),
          λ u. let p : PlaceOf S d.cells (place S c) = record { cell = c; is_one = u.0; at = refl } in
              Memᴰ.cast (sym (cell_there u.0)) (Memᴰ.map (cell_at S) ((n.are (place S c)).1 (p, u.1))),
        );
        so_many = sym (new_of_lem grid (drawn_by d grid) n.count) ∙ sym (length-map n.places (cell_at S));
      }

add_up_to_marked : (S : ℕ) (strokes : List Stroke) → AddUpToMarked S strokes
add_up_to_marked S strokes = record {
  marked = new_marked S strokes;
  listed = ap (◌+ 1) (new_marked S strokes) ∙ sym (listing_lines S (cube_of S strokes));
  totalled = ap (new_cells_of S strokes +◌) (count_unmarked (cube_of S strokes)) ∙ new_or_unmarked S strokes;
}

pub claim : Claim
claim = record {
  drawing = λ call grid e. turns_to_marked (drawing_by call) grid e ((supplied call).fits (length grid) e);
  cells_of_samples = cells_are;
  sheet = add_up_to_marked;
}
