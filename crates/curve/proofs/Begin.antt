-- The walker at sample 0, and the row that it walks.
use mathlib.Core.Path.{◌≡◌, refl, sym, ◌∙◌, ap}
use mathlib.Core.List.{List, [], ◌++◌, map, map-map}
use Prim.Native.Nat.{ℕ, suc, ◌*◌, ◌≤◌}
use native.Mathlib.Omega.{arith}
use lib.Dec.{lit≤}
use lib.IntN.{ℤ, pos}
use lib.ListN.{length, drop}
use Rattle.decide.specs.Refusal.{accepted}
use Rattle.bezier.specs.Exact.{no_index, index, no_corner, first}
use Rattle.neighbours.specs.Steps.{first as step}
use Rattle.cube.specs.Cube.{Axis, x_axis, y_axis, z_axis, volume}
use Rattle.drawing.specs.Object.{offset, coordinate, scale_of}
use Rattle.drawing.specs.Refusals.{Drawable, draw_verdict, list_verdict, sample_count}
use Rattle.drawing.specs.Drawing.{marked, bytes, cells, drawn_by, drawn, listed}
use Rattle.drawing.proofs.Samples.{one_row}
use Rattle.drawing.proofs.Listed.{samples_listed}
use Rattle.cubic.specs.Differences.{differences_at}
use Rattle.cubic.specs.Axis.{start_of}
use Rattle.scan.specs.Walker.{Strides, Walker, axis_of, stride_of, grid_strides, list_strides, place_of, cell_of_walker, walkers, OnGrid}
use Rattle.scan.proofs.Axes.{offset_small}
use Rattle.scan.proofs.Samples.{Walk, At, along, corner_tracks, grid_stride, grid_stride_is, grid_stride_small, list_stride_is}
use Rattle.scan.proofs.Samples.{row_on_grid, row_places, row_cells}
use Rattle.curve.specs.declared.Curve.{Curve}
use Rattle.curve.specs.Curve.{curve_of}
use Rattle.curve.specs.Machine.{InLimits, doubled_along, start_walker}
use Rattle.curve.proofs.Along.{drawable_in_limits, scale_small, along_room, along_doubles}

module _ (c : Curve) (h : Strides) where
  -- Sample 0 on each axis.
  start_on : (a : Axis) →
      axis_of (start_walker c h) a ≡
      start_of (stride_of h a) (pos (coordinate c.points a 0)) (differences_at (doubled_along c (offset a)) 0)
  unfolding coordinate offset
  start_on x_axis = refl
  start_on y_axis = refl
  start_on z_axis = refl

-- The walker starts at sample 0, which lies in the cell of point 0.
pub start_at : {S : ℕ} (c : Curve) → Drawable S (curve_of c) → (h : Strides) →
    At (curve_of c) h (along []) (λ a. doubled_along c (offset a)) 0 (start_walker c h)
start_at c d h = record { on = λ a. rw (start_on c h a) (corner_tracks (along []) d a (first no_corner) (along_doubles c a)) }

module _ {S : ℕ} (c : Curve) (twelve : length c.points ≡ 12) (d : Drawable S (curve_of c)) where
  abbrev limits : InLimits c
  limits = drawable_in_limits c twelve d

  -- A curve is one row, in a grid and in a listing.
  unfoldable pub curve_row : (h : Strides) (stride : Axis → ℕ) → ((a : Axis) → stride_of h a ≡ pos (stride a)) →
      ((a : Axis) → stride a ≤ 4096) → Walk S (curve_of c) h c.steps (along []) (λ a. doubled_along c (offset a))
  curve_row h stride is small = record {
    drawable = d;
    scale_small = scale_small limits;
    stride = stride;
    stride_is = is;
    stride_small = small;
    sample = λ i l. index l no_index;
    neighbours = λ i l. step l no_index;
    doubles = along_doubles c;
    room = λ a. along_room limits (offset a) (offset_small a);
  }

  grid_row : Walk S (curve_of c) (grid_strides S) c.steps (along []) (λ a. doubled_along c (offset a))
  grid_row = curve_row (grid_strides S) (grid_stride S) (grid_stride_is S) (grid_stride_small d.side_most)

  unfoldable pub list_row : Walk S (curve_of c) list_strides c.steps (along []) (λ a. doubled_along c (offset a))
  list_row = curve_row list_strides (λ a. 1) list_stride_is (λ a. lit≤ tt)

  -- What an accepted drawing leaves are the marks of the row.
  drawn_row : (grid : List ℕ) → draw_verdict S (length grid) (curve_of c) ≡ accepted →
      drawn S (curve_of c) grid ≡
      marked c.choice c.mark
      (map place_of (walkers c.steps (pos (scale_of (curve_of c))) (grid_strides S) (start_walker c (grid_strides S)))) grid
  unfolding drawn_by cells
  drawn_row grid e =
      rw (e, one_row c.steps, map-map)
      (ap (λ ps. marked c.choice c.mark ps grid) (sym (row_places grid_row (start_at c d (grid_strides S)))))

  -- What an accepted listing leaves are the cells of the row.
  pub listed_row : (list : List ℕ) → list_verdict S (length list) (curve_of c) ≡ accepted →
      listed S (curve_of c) list ≡
      bytes (map cell_of_walker (walkers c.steps (pos (scale_of (curve_of c))) list_strides (start_walker c list_strides))) ++
      drop (3 * suc c.steps) list
  unfolding cells sample_count
  listed_row list e =
      let one : suc c.steps * 1 ≡ suc c.steps = omega arith in
      samples_listed S (curve_of c) list e ∙
      rw (one_row c.steps, row_cells list_row (start_at c d list_strides), one)

-- The same with the scale N, the strides h and the walker w as the code holds them.
module _ {S : ℕ} (c : Curve) (twelve : length c.points ≡ 12) (d : Drawable S (curve_of c)) {N : ℤ} {h : Strides} {w : Walker}
    (e : N ≡ pos (scale_of (curve_of c))) (f : h ≡ grid_strides S) (q : w ≡ start_walker c h) where
  pub room_for_row : {len : ℕ} → len ≡ volume S → OnGrid c.steps N h w len
  room_for_row v = rw (v, q, e, f) (row_on_grid (grid_row c twelve d) (start_at c d (grid_strides S)))

  pub row_marks : (grid : List ℕ) → draw_verdict S (length grid) (curve_of c) ≡ accepted → {after : List ℕ} →
      after ≡ marked c.choice c.mark (map place_of (walkers c.steps N h w)) grid → after ≡ drawn S (curve_of c) grid
  row_marks grid a r = rw (q, e, f) at r ∙ sym (drawn_row c twelve d grid a)
