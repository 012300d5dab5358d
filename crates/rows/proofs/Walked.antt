-- The walk through rows: those of a patch, or of a slice of a solid. The walk along u through t = 0 stands in the cell of each
-- row's first sample, with its remainder, and that is all that a row needs of it: coordinate and remainder are the sample's
-- value. The cubics beside it hold the row's differences along t. What is said here is said of any samples σ i j of an object,
-- i along the rows and j from row to row, and so of rows along t as of rows along u.
use mathlib.Core.Path.{◌≡◌, refl, sym, ◌∙◌, ap, ap₂}
use mathlib.Core.List.{List, ◌∷◌, ◌++◌, map, map-append}
use Prim.Native.Nat.{ℕ, zero, suc, ◌*◌, ◌≤◌, ◌<◌, ◌^◌, zero-le}
use native.Mathlib.Nat.{le_refl}
use native.Mathlib.Omega.{arith}
use lib.IntN.{ℤ, pos}
use Rattle.bezier.specs.Exact.{Sample, Corner}
use Rattle.neighbours.specs.Steps.{Neighbours}
use Rattle.cube.specs.Cube.{Axis, x_axis, y_axis, z_axis, volume, place}
use Rattle.drawing.specs.Object.{Object, coordinate, scale_of, exact, cell_of}
use Rattle.drawing.specs.Refusals.{Drawable}
use Rattle.drawing.specs.Drawing.{row, rows}
use Rattle.drawing.proofs.Samples.{rows_first, rows_more}
use Rattle.cubic.specs.Differences.{delta, differences_at, next_of, IsBicubic}
use Rattle.cubic.specs.Tracks.{Doubles}
use Rattle.cubic.proofs.Tracks.{row_tracks}
use Rattle.surface.specs.Surface.{Surface, surface_of, next_surface, no_cubic, along_t, Bounded}
use Rattle.surface.proofs.Follows.{surface_next, surface_room, sample_room}
use Rattle.scan.specs.Walker.{Strides, Walker, axis_of, stride_of, grid_strides, place_of}
use Rattle.scan.proofs.Samples.{Walk, At, at_next, at_steps, grid_walk, corner_tracks, row_on_grid, row_places}
use Rattle.rows.specs.declared.Line.{Line}
use Rattle.rows.specs.Lines.{Lines, start_line, line_of, LinesRoom, next_lines, row_line, row_walker, lines_after}
use Rattle.rows.specs.Lines.{row_of_walkers, rows_of_walkers, RowsOnGrid}

-- The rows 0 to m of n + 1 samples: P doubles the exact values and has room at every sample.
pub record Rows (S : ℕ) (o : Object) (n m : ℕ) (σ : (i j : ℕ) → List ℕ) (P : Axis → (i j : ℕ) → ℤ) : Type 0 where
  pub drawable : Drawable S o
  pub scale_small : scale_of o ≤ 2 ^ 60
  pub sample : (i j : ℕ) → i ≤ n → j ≤ m → Sample o.counts (σ i j)
  pub in_row : (i j : ℕ) → i < n → j ≤ m → Neighbours o.counts (σ i j) (σ (suc i) j)
  pub to_next : (j : ℕ) → j < m → Neighbours o.counts (σ 0 j) (σ 0 (suc j))
  pub bicubic : (a : Axis) → IsBicubic (P a)
  pub doubles : (a : Axis) (i j : ℕ) → i ≤ n → j ≤ m → P a i j ≡ pos (2 * exact o a (σ i j))
  pub bounded : (a : Axis) → Bounded n m (P a)

-- The walk along u, on three axes.
abbrev pub along_u : Lines → Walker
along_u l = record { x = l.x.walk; y = l.y.walk; z = l.z.walk }

along_u_on : (l : Lines) (a : Axis) → axis_of (along_u l) a ≡ (line_of l a).walk
along_u_on l x_axis = refl
along_u_on l y_axis = refl
along_u_on l z_axis = refl

row_on : (l : Lines) (a : Axis) → axis_of (row_walker l) a ≡ row_line (line_of l a)
row_on l x_axis = refl
row_on l y_axis = refl
row_on l z_axis = refl

-- The first differences along t that a line holds, as a surface.
abbrev pub steps_of_lem : Line → Surface
steps_of_lem l = record { value = l.d1; d1 = l.d2; d2 = l.d3; d3 = no_cubic }

-- What the lines hold at row j: the walk stands at its first sample, and the first differences along t are the row's.
pub record OnRow (o : Object) (h : Strides) (σ : (i j : ℕ) → List ℕ) (P : Axis → (i j : ℕ) → ℤ) (j : ℕ) (l : Lines) : Type 0 where
  pub walk : At o h (σ 0) (λ a. P a 0) j (along_u l)
  pub steps : (a : Axis) → steps_of_lem (line_of l a) ≡ along_t (surface_of (P a) j)

-- The next row's first differences on each axis.
next_steps : (N : ℤ) (h : Strides) (l : Lines) (a : Axis) →
    steps_of_lem (line_of (next_lines N h l) a) ≡ next_surface (steps_of_lem (line_of l a))
unfolding next_of
next_steps N h l x_axis = refl
next_steps N h l y_axis = refl
next_steps N h l z_axis = refl

-- Those of a surface's next row are the next of its own.
next_along : (s : Surface) → next_surface (along_t s) ≡ along_t (next_surface s)
unfolding next_of
next_along s = refl

-- Row 0 starts in the cell of point 0.
module _ {S : ℕ} {o : Object} (d : Drawable S o) {m : ℕ} {h : Strides} (σ : (i j : ℕ) → List ℕ) (P : Axis → (i j : ℕ) → ℤ) {l : Lines} where
  pub start_on_row : Corner o.counts (σ 0 0) 0 → ((a : Axis) → Doubles m (λ j. exact o a (σ 0 j)) (P a 0)) →
      ((a : Axis) → line_of l a ≡ start_line (stride_of h a) (pos (coordinate o.points a 0)) (surface_of (P a) 0)) →
      OnRow o h σ P 0 l
  unfolding surface_of delta
  start_on_row corner doubles is = record {
    walk = record { on = λ a. rw (along_u_on l a, is a) (corner_tracks (σ 0) d a corner (doubles a)) };
    steps = λ a. ap steps_of_lem (is a);
  }

-- The row starts at its first sample.
pub row_starts : {o : Object} {h : Strides} {σ : (i j : ℕ) → List ℕ} {P : Axis → (i j : ℕ) → ℤ} {j : ℕ} {l : Lines} →
    OnRow o h σ P j l → At o h (λ i. σ i j) (λ a i. P a i j) 0 (row_walker l)
unfolding surface_of differences_at
row_starts {P = P} {j} {l} r = record {
  on = λ a.
      let s = r.steps a in
      rw (row_on l a)
      (row_tracks (line_of l a).d1 (line_of l a).d2 (line_of l a).d3 (P a) j (rw (along_u_on l a) at (r.walk.on a))
      (ap (λ s. s.value.value) s) (ap (λ s. s.d1.value) s) (ap (λ s. s.d2.value) s));
}

module _ {S : ℕ} {o : Object} {n m : ℕ} {σ : (i j : ℕ) → List ℕ} {P : Axis → (i j : ℕ) → ℤ} (r : Rows S o n m σ P) where
  abbrev N : ℤ
  N = pos (scale_of o)

  abbrev h : Strides
  h = grid_strides S

  -- The walk along u, and a row.
  u_doubles : (a : Axis) → Doubles m (λ j. exact o a (σ 0 j)) (P a 0)
  u_doubles a = record { cubic = (r.bicubic a).along_u 0; agrees = λ j hj. r.doubles a 0 j zero-le hj }

  u_walk : Walk S o h m (σ 0) (λ a. P a 0)
  unfolding surface_of delta
  u_walk =
      grid_walk r.drawable r.scale_small (λ j hj. r.sample 0 j zero-le hj) r.to_next u_doubles
      (λ a j hj. (surface_room (r.bounded a) hj).value)

  t_walk : {j : ℕ} → j ≤ m → Walk S o h n (λ i. σ i j) (λ a i. P a i j)
  t_walk {j} hj =
      grid_walk r.drawable r.scale_small (λ i hi. r.sample i j hi hj) (λ i hi. r.in_row i j hi hj)
      (λ a. record { cubic = (r.bicubic a).along_t j; agrees = λ i hi. r.doubles a i j hi hj })
      (λ a i hi. sample_room (r.bounded a) hi hj)

  -- Row 0.
  pub rows_start : {l : Lines} → Corner o.counts (σ 0 0) 0 →
      ((a : Axis) → line_of l a ≡ start_line (stride_of h a) (pos (coordinate o.points a 0)) (surface_of (P a) 0)) →
      OnRow o h σ P 0 l
  rows_start corner is = start_on_row r.drawable σ P corner u_doubles is

  module _ {j : ℕ} {l : Lines} (s : OnRow o h σ P j l) where
    -- There is room for the next row.
    pub next_room : j < m → LinesRoom N h l
    next_room hj = record {
      on = λ a. let room = surface_room (r.bounded a) {j = j} (omega arith) in record {
        walk = rw (← along_u_on l a) ((at_steps u_walk (omega arith) s.walk).on a);
        d1 = rw (ap (λ s. s.value) (s.steps a)) room.d1;
        d2 = rw (ap (λ s. s.d1) (s.steps a)) room.d2;
        d3 = rw (ap (λ s. s.d2) (s.steps a)) room.d3;
      };
    }

    -- The next row.
    pub next_on_row : j < m → OnRow o h σ P (suc j) (next_lines N h l)
    next_on_row hj = record {
      walk = at_next u_walk hj s.walk;
      steps = λ a.
          next_steps N h l a ∙ ap next_surface (s.steps a) ∙ next_along (surface_of (P a) j) ∙
          ap along_t (surface_next (r.bicubic a) j);
    }

-- Rows along t, each sample with the same later indices.
module _ {S : ℕ} {o : Object} {n m : ℕ} {later : List ℕ} {P : Axis → (i j : ℕ) → ℤ} (r : Rows S o n m (λ i j. i ∷ j ∷ later) P) {l : Lines}
    (s : OnRow o (grid_strides S) (λ i j. i ∷ j ∷ later) P 0 l) where
  -- After j rows the lines are at row j.
  after_rows : (j : ℕ) → j ≤ m → OnRow o (h r) (λ i j. i ∷ j ∷ later) P j (lines_after (N r) (h r) l j)
  unfolding lines_after
  after_rows zero hj = s
  after_rows (suc j) hj = next_on_row r (after_rows j (omega arith)) hj

  -- There is room for all rows, and their places are bytes of the grid.
  pub rows_on_grid : RowsOnGrid n m (pos (scale_of o)) (grid_strides S) l (volume S)
  rows_on_grid = record {
    row = λ j hj. row_on_grid (t_walk r hj) (row_starts (after_rows j hj));
    next = λ j hj. next_room r (after_rows j (omega arith)) hj;
  }

  abbrev cell_place : List ℕ → ℕ
  cell_place s = place S (cell_of o s)

  places_of_row : (j : ℕ) → j ≤ m → map place_of (row_of_walkers n (N r) (h r) l j) ≡ map cell_place (row n (j ∷ later))
  places_of_row j hj = row_places (t_walk r hj) (row_starts (after_rows j hj))

  -- And these are the places of their samples' cells.
  places_up_to : (j : ℕ) → j ≤ m → map place_of (rows_of_walkers n j (N r) (h r) l) ≡ map cell_place (rows n (row j later))
  unfolding rows_of_walkers
  places_up_to zero hj = places_of_row zero hj ∙ ap (map cell_place) (sym (rows_first n later))
  places_up_to (suc j) hj =
      map-append place_of (rows_of_walkers n j (N r) (h r) l) (row_of_walkers n (N r) (h r) l (suc j)) ∙
      ap₂ (λ a b. a ++ b) (places_up_to j (omega arith)) (places_of_row (suc j) hj) ∙
      sym (ap (map cell_place) (rows_more n j later) ∙ map-append cell_place (rows n (row j later)) (row n (suc j ∷ later)))

  pub rows_places :
      map place_of (rows_of_walkers n m (pos (scale_of o)) (grid_strides S) l) ≡
      map (λ s. place S (cell_of o s)) (rows n (row m later))
  rows_places = places_up_to m (le_refl m)
