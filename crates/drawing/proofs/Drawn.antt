-- One drawing, of whatever kind, in words: a refused one leaves the grid; an accepted one leaves its length, comes to each of its
-- cells, in whatever order, and leaves every other byte.
use mathlib.Core.Path.{◌≡◌, sym, ◌∙◌, ap}
use mathlib.Core.Logic.{◌↔◌, ◌⊎◌, inl, inr, ⊎_elim}
use mathlib.Core.List.Memᴰ
use mathlib.Core.List.{List, map, Memᴰ}
use Prim.Native.Nat.{ℕ, ◌≤◌, ◌<◌}
use lib.ListN.{length, get_or}
use Rattle.decide.specs.Refusal.{accepted, refused}
use Rattle.decide.proofs.FirstThat.{by_verdict}
use Rattle.cube.specs.Cube.{Cell, Inside, place, volume}
use Rattle.drawing.specs.Object.{Object, cell_of}
use Rattle.drawing.specs.Refusals.{draw_verdict}
use Rattle.drawing.specs.Drawing.{samples, written, marked, cells, CellOfSample, Drawing, drawing_of, drawn_by}
use Rattle.cube.proofs.Places.{place_below}
use Rattle.drawing.proofs.Samples.{sample_listed, listed_sample}
use Rattle.drawing.proofs.Accepted.{draw_accepted}
use Rattle.drawing.proofs.Marked.{held_or_mark, length_marked, marked_holds, marked_there, marked_same}
use Rattle.drawing.proofs.Cells.{cell_inside}

-- The cells of an object are those of its samples.
pub cells_are : (o : Object) (c : Cell) → Memᴰ c (cells o) ↔ CellOfSample o c
unfolding cells
cells_are o c = (
  λ m. let s = Memᴰ.of_map (cell_of o) (samples o.counts) m in
      record { sample = s.0; is_sample = listed_sample o.counts s.0 s.1; is_its_cell = sym s.2 },
  λ s. Memᴰ.cast s.is_its_cell (Memᴰ.map (cell_of o) (sample_listed s.is_sample)),
)

-- Byte q is the place of one of the cells.
pub record PlaceOf (S : ℕ) (cs : List Cell) (q : ℕ) : Type 0 where
  pub cell : Cell
  pub is_one : Memᴰ cell cs
  pub at : q ≡ place S cell

module _ (S : ℕ) (cs : List Cell) where
  -- The places of the cells in turn are these.
  pub of_cell : {q : ℕ} → Memᴰ q (map (place S) cs) → PlaceOf S cs q
  of_cell m = let c = Memᴰ.of_map (place S) cs m in record { cell = c.0; is_one = c.1; at = sym c.2 }

  pub place_listed : {q : ℕ} → PlaceOf S cs q → Memᴰ q (map (place S) cs)
  place_listed p = Memᴰ.cast p.at (Memᴰ.map (place S) p.is_one)

-- The mark is not 0, the grid is the cube, and the cells lie in it.
pub record Fits (d : Drawing) (gridLength : ℕ) : Type 0 where
  pub cube : gridLength ≡ volume d.side
  pub mark : 1 ≤ d.mark
  pub inside : (c : Cell) → Memᴰ c d.cells → Inside d.side c

-- An accepted drawing of document 01 fits.
pub drawing_fits : (S : ℕ) (o : Object) (len : ℕ) → draw_verdict S len o ≡ accepted → Fits (drawing_of S o) len
drawing_fits S o len e =
    let w = (draw_accepted S o len).0 e in
    record {
      cube = w.1;
      mark = w.2;
      inside = λ c m. let s = (cells_are o c).0 m in rw s.is_its_cell (cell_inside w.0 s.is_sample);
    }

module _ (d : Drawing) (grid : List ℕ) where
  abbrev S : ℕ
  S = d.side

  -- A refused drawing leaves the grid.
  pub drawn_refused : {k : ℕ} → d.verdict (length grid) ≡ refused k → drawn_by d grid ≡ grid
  unfolding drawn_by
  drawn_refused e = rw e

  -- An accepted one leaves the marks.
  pub drawn_accepted : d.verdict (length grid) ≡ accepted →
      drawn_by d grid ≡ marked d.choice d.mark (map (place S) d.cells) grid
  unfolding drawn_by
  drawn_accepted e = rw e

  -- The grid keeps its length.
  pub length_drawn : length (drawn_by d grid) ≡ length grid
  length_drawn =
      by_verdict (d.verdict (length grid)) _
      (λ e. rw (drawn_accepted e) (length_marked d.choice d.mark (map (place S) d.cells) grid))
      (λ k e. ap length (drawn_refused e))

  -- Each byte holds what it held, or the drawing is accepted and the byte is the place of one of its cells and holds the
  -- mark.
  pub drawn_holds : (q : ℕ) → q < length grid →
      (get_or (drawn_by d grid) q 0 ≡ get_or grid q 0) ⊎
      ((d.verdict (length grid) ≡ accepted) × PlaceOf S d.cells q × (get_or (drawn_by d grid) q 0 ≡ d.mark))
  drawn_holds q h =
      by_verdict (d.verdict (length grid)) _
      (λ e. rw (drawn_accepted e)
      (⊎_elim (λ kept. inl kept)
      (λ w. ⊎_elim (λ same. inl (w.1 ∙ same)) (λ m. inr (e, of_cell S d.cells w.0, w.1 ∙ m))
      (held_or_mark d.choice d.mark (get_or grid q 0)))
      (marked_holds d.choice d.mark (map (place S) d.cells) grid q h)))
      (λ k e. inl (ap (λ l. get_or l q 0) (drawn_refused e)))

  -- The place of a cell of an accepted drawing is a byte of the grid,
  pub cell_below : Fits d (length grid) → {c : Cell} → Memᴰ c d.cells → place S c < length grid
  cell_below f {c} m = rw f.cube (place_below S c (f.inside c m))

  -- and holds what the drawing leaves in a cell that it comes to.
  pub drawn_there : d.verdict (length grid) ≡ accepted → Fits d (length grid) → {c : Cell} → Memᴰ c d.cells →
      get_or (drawn_by d grid) (place S c) 0 ≡ written d.choice d.mark (get_or grid (place S c) 0)
  drawn_there e f m =
      rw (drawn_accepted e) (marked_there d.choice d.mark grid (cell_below f m) (Memᴰ.map (place S) m))

  -- Marks in the same cells, in whatever order, leave what the drawing leaves.
  pub drawn_in_any_order : d.verdict (length grid) ≡ accepted → (cs : List Cell) →
      ((c : Cell) → Memᴰ c cs ↔ Memᴰ c d.cells) → marked d.choice d.mark (map (place S) cs) grid ≡ drawn_by d grid
  drawn_in_any_order e cs same =
      marked_same d.choice d.mark (map (place S) cs) (map (place S) d.cells) grid
      (λ q. (moved cs d.cells (λ c. (same c).0), moved d.cells cs (λ c. (same c).1))) ∙
      sym (drawn_accepted e)
    where
      moved : (bs ds : List Cell) → ((c : Cell) → Memᴰ c bs → Memᴰ c ds) →
          {q : ℕ} → Memᴰ q (map (place S) bs) → Memᴰ q (map (place S) ds)
      moved bs ds to l =
          let p = of_cell S bs l in
          place_listed S ds (record { cell = p.cell; is_one = to p.cell p.is_one; at = p.at })
