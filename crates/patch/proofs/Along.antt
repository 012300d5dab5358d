-- A patch along one axis: within the limits the machine may start and go on, its values are twice the exact ones, and its rows
-- are walked.
use mathlib.Core.Path.{◌≡◌, refl, sym, ◌∙◌, ap}
use mathlib.Core.List.{List, [], ◌∷◌, map, map-map}
use Prim.Native.Nat.{ℕ, ◌+◌, ◌*◌, ◌≤◌, ◌<◌, ◌^◌, zero-le}
use native.Mathlib.Nat.{le_trans, mul-le-mul}
use native.Mathlib.Omega.{arith}
use lib.Dec.{lit≤, lit<}
use lib.IntN.{ℤ, pos}
use lib.ListN.{length}
use Rattle.integers.proofs.Magnitude.{within_pos}
use Rattle.bezier.specs.Exact.{scale, no_index, index, no_corner, first}
use Rattle.decide.specs.Refusal.{accepted}
use Rattle.neighbours.specs.Steps.{later, first as step, too_long}
use Rattle.cube.specs.Cube.{Axis, x_axis, y_axis, z_axis, volume, place}
use Rattle.drawing.specs.Object.{offset, coordinate, scale_of, exact, cell_of}
use Rattle.drawing.specs.Refusals.{Drawable, draw_verdict}
use Rattle.drawing.specs.Drawing.{rows, samples, marked, cells, drawn_by, drawn}
use Rattle.drawing.proofs.Samples.{one_row}
use Rattle.cubic.specs.Blend.{twice}
use Rattle.cubic.specs.Differences.{IsBicubic}
use Rattle.cubic.proofs.Exact.{patch_bicubic, patch_doubled}
use Rattle.cubic.proofs.Fits.{read}
use Rattle.cubic.proofs.Levels.{patch_within}
use Rattle.surface.specs.Surface.{surface_of, StepsSearchable, Bounded}
use Rattle.surface.proofs.Long.{surface_finds, steps_searchable}
use Rattle.scan.specs.Walker.{Strides, stride_of, grid_strides, place_of}
use Rattle.scan.proofs.Axes.{offset_small}
use Rattle.scan.proofs.Natural.{natural_held, cube_grows}
use Rattle.rows.specs.Lines.{Lines, line_of, start_line, rows_of_walkers, RowsOnGrid}
use Rattle.rows.specs.Face.{doubled_face}
use Rattle.rows.proofs.Face.{face_bytes}
use Rattle.rows.proofs.Walked.{Rows, OnRow, rows_start, rows_on_grid, rows_places}
use Rattle.patch.specs.declared.Patch.{Patch}
use Rattle.patch.specs.Patch.{patch_of}
use Rattle.patch.specs.Machine.{InLimits, numbered, doubled_along, long_along, start_lines}

-- What can be drawn is within the limits.
pub drawable_in_limits : {S : ℕ} (p : Patch) → length p.points ≡ 48 → Drawable S (patch_of p) → InLimits p
drawable_in_limits p forty_eight d = record {
  n_least = d.count_least 0 (lit< tt);
  n_most = d.count_most 0 (lit< tt);
  m_least = d.count_least 1 (lit< tt);
  m_most = d.count_most 1 (lit< tt);
  forty_eight = forty_eight;
  coordinates = λ b h. omega (arith, d.coordinate_below b h, d.side_most);
}

-- The scale is n × n × n × m × m × m.
pub patch_scale : (p : Patch) → scale_of (patch_of p) ≡ p.n * p.n * p.n * (p.m * p.m * p.m)
unfolding scale
patch_scale p = omega arith

-- The columns of a patch are three bytes apart, and the points of a column twelve.
pub face_is : (p : Patch) (a : ℕ) → doubled_face p.points p.n p.m 12 3 a ≡ doubled_along p a
face_is p a = face_bytes p.points p.n p.m 4 1 a 0 refl refl (omega arith)

along_bicubic : (p : Patch) (a : ℕ) → IsBicubic (doubled_along p a)
along_bicubic p a = patch_bicubic p.n p.m (twice (numbered p a))

module _ {p : Patch} (l : InLimits p) where
  pub scale_small : scale_of (patch_of p) ≤ 2 ^ 60
  scale_small =
      rw (patch_scale p) (le_trans (mul-le-mul (cube_grows l.n_most) (cube_grows l.m_most)) (lit≤ tt))

  -- What is read back of an answer that is the scale.
  pub scale_read : {r : ℤ} → r ≡ pos (scale_of (patch_of p)) → read r ≡ pos (scale_of (patch_of p))
  scale_read e = (natural_held e scale_small (lit< tt)).same

  module _ {a : ℕ} (h : a < 3) where
    along_bounded : Bounded p.n p.m (doubled_along p a)
    along_bounded = record {
      within =
          patch_within (numbered p a) l.n_most l.m_most
          (λ k hk. l.coordinates (3 * k + a) (rw l.forty_eight (omega arith)));
    }

    -- The step test may be asked.
    pub searchable : StepsSearchable (surface_of (doubled_along p a) 0) (pos (scale_of (patch_of p))) p.n p.m
    searchable =
        steps_searchable (along_bicubic p a) along_bounded (within_pos scale_small)
        l.n_least l.m_least l.n_most l.m_most

module _ (p : Patch) (a : Axis) where
  -- The machine follows twice the exact values.
  doubles : (i j : ℕ) → i ≤ p.n → j ≤ p.m → doubled_along p (offset a) i j ≡ pos (2 * exact (patch_of p) a (i ∷ j ∷ []))
  unfolding exact coordinate
  doubles i j hi hj = patch_doubled (numbered p (offset a)) hi hj

  -- The search finds a long step exactly where there is one.
  pub search_finds : long_along p (offset a) ≡ too_long (scale_of (patch_of p)) (p.n ∷ p.m ∷ []) (exact (patch_of p) a)
  search_finds =
      surface_finds (along_bicubic p (offset a)) (scale_of (patch_of p)) p.n p.m (exact (patch_of p) a) doubles

-- The rows of an accepted patch.
module _ {S : ℕ} (p : Patch) (l : InLimits p) (d : Drawable S (patch_of p)) where
  patch_rows : Rows S (patch_of p) p.n p.m (λ i j. i ∷ j ∷ []) (λ a. doubled_along p (offset a))
  patch_rows = record {
    drawable = d;
    scale_small = scale_small l;
    sample = λ i j hi hj. index hi (index hj no_index);
    in_row = λ i j hi hj. step hi (index hj no_index);
    to_next = λ j hj. later {n = p.n} zero-le (step hj no_index);
    bicubic = λ a. along_bicubic p (offset a);
    doubles = doubles p;
    bounded = λ a. along_bounded l (offset_small a);
  }

  start_on : (h : Strides) (a : Axis) →
      line_of (start_lines p h) a ≡
      start_line (stride_of h a) (pos (coordinate p.points a 0)) (surface_of (doubled_along p (offset a)) 0)
  unfolding coordinate offset
  start_on h x_axis = refl
  start_on h y_axis = refl
  start_on h z_axis = refl

  on_row : OnRow (patch_of p) (grid_strides S) (λ i j. i ∷ j ∷ []) (λ a. doubled_along p (offset a)) 0 (start_lines p (grid_strides S))
  on_row = rows_start patch_rows (first (first no_corner)) (start_on (grid_strides S))

  -- What an accepted drawing leaves are the marks of all rows.
  drawn_rows : (grid : List ℕ) → draw_verdict S (length grid) (patch_of p) ≡ accepted →
      drawn S (patch_of p) grid ≡
      marked p.choice p.mark
      (map place_of (rows_of_walkers p.n p.m (pos (scale_of (patch_of p))) (grid_strides S) (start_lines p (grid_strides S)))) grid
  unfolding drawn_by cells samples
  drawn_rows grid e =
      rw (e, map-map)
      (ap (λ ps. marked p.choice p.mark ps grid)
      (ap (λ q. map (λ s. place S (cell_of (patch_of p) s)) (rows p.n q)) (one_row p.m) ∙ sym (rows_places patch_rows on_row)))

-- The same with the scale N, the strides h and the lines as the code holds them.
module _ {S : ℕ} (p : Patch) (l : InLimits p) (d : Drawable S (patch_of p)) {N : ℤ} {h : Strides} {lines : Lines}
    (e : N ≡ pos (scale_of (patch_of p))) (f : h ≡ grid_strides S) (q : lines ≡ start_lines p h) where
  pub room_for_rows : {len : ℕ} → len ≡ volume S → RowsOnGrid p.n p.m N h lines len
  room_for_rows v = rw (v, q, e, f) (rows_on_grid (patch_rows p l d) (on_row p l d))

  pub rows_marks : (grid : List ℕ) → draw_verdict S (length grid) (patch_of p) ≡ accepted → {after : List ℕ} →
      after ≡ marked p.choice p.mark (map place_of (rows_of_walkers p.n p.m N h lines)) grid → after ≡ drawn S (patch_of p) grid
  rows_marks grid a r = rw (q, e, f) at r ∙ sym (drawn_rows p l d grid a)
