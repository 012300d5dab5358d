-- Document 01, "Exact samples and the walk", its last paragraph, with document 02's A.11: what grid and list hold after a
-- call. A refused call leaves both as they were.
use Rattle.std.specs.Prelude.{◌≡◌, cond, List, [], ◌∷◌, ◌++◌, map, ℕ, zero, suc, eqb, length, get_or, drop, set}
use Rattle.bezier.specs.Exact.{Sample}
use Rattle.decide.specs.Refusal.{Verdict, leaves}
use Rattle.cube.specs.Cube.{x_axis, y_axis, z_axis, Cell, place}
use Rattle.drawing.specs.declared.Choice.{Choice}
use Rattle.drawing.specs.declared.Choice.TheVariants.{Over, Under}
use Rattle.drawing.specs.Object.{Object, cell_of}
use Rattle.drawing.specs.Refusals.{draw_verdict, list_verdict, sample_count}

-- Indices 0 to i of the first parameter, the later indices fixed: a row.
unfoldable pub row : (i : ℕ) (is : List ℕ) → List (List ℕ)
row zero is = (zero ∷ is) ∷ []
row (suc i) is = row i is ++ (suc i ∷ is) ∷ []

-- A row for each sample of the later parameters.
unfoldable pub rows : (n : ℕ) (later : List (List ℕ)) → List (List ℕ)
rows n [] = []
rows n (is ∷ later) = row n is ++ rows n later

-- Every sample, row by row.
unfoldable pub samples : (counts : List ℕ) → List (List ℕ)
samples [] = [] ∷ []
samples (n ∷ ns) = rows n (samples ns)

-- What a cell holds once a drawing has come to it. Over: the mark. Under, which writes only cells that are unmarked at that
-- moment: the mark if it held 0, and else what it held.
unfoldable pub written : Choice → (mark held : ℕ) → ℕ
written Over mark held = mark
written Under mark held = cond (eqb held 0) mark held

-- The grid after a drawing has come to each of the places in turn.
unfoldable pub marked : Choice → (mark : ℕ) (places : List ℕ) (grid : List ℕ) → List ℕ
marked c m [] grid = grid
marked c m (p ∷ ps) grid = marked c m ps (set grid p (written c m (get_or grid p 0)))

-- The cells' bytes, x y z for each in turn.
unfoldable pub bytes : List Cell → List ℕ
bytes [] = []
bytes (c ∷ cs) = c x_axis ∷ c y_axis ∷ c z_axis ∷ bytes cs

-- The cells of all samples.
unfoldable pub cells : Object → List Cell
cells o = map (cell_of o) (samples o.counts)

-- A cell is that of one of the object's samples; `cells` lists exactly these.
pub record CellOfSample (o : Object) (c : Cell) : Type 0 where
  pub sample : List ℕ
  pub is_sample : Sample o.counts sample
  pub is_its_cell : c ≡ cell_of o sample

-- A drawing of whatever kind: the side of its cube, the cells that it comes to in turn, the mark that it writes there, over or
-- under, the number that it answers, and the verdict of its own order by the grid's length.
pub record Drawing : Type 0 where
  pub side : ℕ
  pub cells : List Cell
  pub mark : ℕ
  pub choice : Choice
  pub answer : ℕ
  pub verdict : (gridLength : ℕ) → Verdict

-- Document 01's, of a curve, a patch or a solid: it comes to every sample's cell, and answers the number of samples.
abbrev pub drawing_of : (S : ℕ) → Object → Drawing
drawing_of S o = record {
  side = S;
  cells = cells o;
  mark = o.mark;
  choice = o.choice;
  answer = sample_count o.counts;
  verdict = λ gridLength. draw_verdict S gridLength o;
}

-- The same drawing with a choice of its own.
abbrev pub choosing : Choice → Drawing → Drawing
choosing c d =
    record { side = d.side; cells = d.cells; mark = d.mark; choice = c; answer = d.answer; verdict = d.verdict }

-- The same drawing with an order of its own.
abbrev pub judged_by : (verdict : (gridLength : ℕ) → Verdict) → Drawing → Drawing
judged_by verdict d = record {
  side = d.side;
  cells = d.cells;
  mark = d.mark;
  choice = d.choice;
  answer = d.answer;
  verdict = verdict;
}

-- The grid after a drawing: an accepted one writes the mark, over or under, in each of its cells, nothing else.
unfoldable pub drawn_by : Drawing → (grid : List ℕ) → List ℕ
drawn_by d grid =
    leaves (d.verdict (length grid)) (marked d.choice d.mark (map (place d.side) d.cells) grid) grid

-- The same of document 01's.
abbrev pub drawn : (S : ℕ) (o : Object) (grid : List ℕ) → List ℕ
drawn S o = drawn_by (drawing_of S o)

-- Each call gets the grid as the last one left it.
unfoldable pub in_turn : {C : Type 0} (draw : C → List ℕ → List ℕ) → List C → List ℕ → List ℕ
in_turn draw [] grid = grid
in_turn draw (call ∷ calls) grid = in_turn draw calls (draw call grid)

-- A listing of whatever kind: the cells that it writes in turn, the number that it answers, and the verdict of its own order by
-- the list's length.
pub record Listing : Type 0 where
  pub cells : List Cell
  pub answer : ℕ
  pub verdict : (listLength : ℕ) → Verdict

-- Document 01's: the cell of each sample.
abbrev pub listing_of : (S : ℕ) → Object → Listing
listing_of S o = record {
  cells = cells o;
  answer = sample_count o.counts;
  verdict = λ listLength. list_verdict S listLength o;
}

-- The list after a listing: an accepted one writes three bytes, x y z, for each cell in turn from the front, and leaves the
-- rest.
unfoldable pub listed_by : Listing → (list : List ℕ) → List ℕ
listed_by l list = leaves (l.verdict (length list)) (bytes l.cells ++ drop (length (bytes l.cells)) list) list

-- The same of document 01's.
abbrev pub listed : (S : ℕ) (o : Object) (list : List ℕ) → List ℕ
listed S o = listed_by (listing_of S o)
