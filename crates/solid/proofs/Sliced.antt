-- The walk through a solid's slices. From slice to slice it is a walk through rows, those of u at t = 0, one at each index of v;
-- so each slice gets the cell and the remainder of its first sample, and its own rows are walked as those of a patch.
use mathlib.Core.Path.{◌≡◌, refl, sym, ◌∙◌, ap}
use mathlib.Core.List.{List, [], ◌∷◌, ◌++◌, map, map-append, map-map}
use Prim.Native.Nat.{ℕ, zero, suc, ◌≤◌, ◌<◌, zero-le}
use native.Mathlib.Omega.{arith}
use lib.Dec.{lit<}
use lib.IntN.{ℤ, pos}
use lib.ListN.{length}
use Rattle.bezier.specs.Exact.{no_index, index, no_corner, first}
use Rattle.decide.specs.Refusal.{accepted}
use Rattle.neighbours.specs.Steps.{later, first as step}
use Rattle.cube.specs.Cube.{Axis, x_axis, y_axis, z_axis, volume, place}
use Rattle.drawing.specs.Object.{offset, coordinate, scale_of, cell_of}
use Rattle.drawing.specs.Refusals.{Drawable, draw_verdict}
use Rattle.drawing.specs.Drawing.{row, rows, samples, marked, cells, drawn_by, drawn}
use Rattle.drawing.proofs.Samples.{rows_append, rows_first, rows_more, one_row}
use Rattle.cubic.specs.Differences.{delta, IsTricubic}
use Rattle.cubic.proofs.Next.{same_fields}
use Rattle.surface.specs.Surface.{surface_of, row_of, next_surface, along_t, Bounded}
use Rattle.surface.specs.Volume.{volume_of, slice_at}
use Rattle.surface.proofs.Slices.{slice_of_lem, volume_next, slice_bicubic, volume_room, slice_bounded}
use Rattle.scan.specs.Walker.{Strides, stride_of, grid_strides, place_of}
use Rattle.scan.proofs.Axes.{offset_small}
use Rattle.rows.specs.Lines.{Lines, start_line, line_of, rows_of_walkers, RowsOnGrid}
use Rattle.rows.proofs.Walked.{Rows, steps_of_lem, OnRow, row_starts, rows_start, next_room, next_on_row, rows_on_grid, rows_places}
use Rattle.solid.specs.declared.Solid.{Solid}
use Rattle.solid.specs.Solid.{solid_of}
use Rattle.solid.specs.Blocks.{Blocks, block_of, BlocksRoom, next_blocks, slice_line, slice_lines}
use Rattle.solid.specs.Machine.{InLimits, doubled_along, start_blocks}
use Rattle.solid.proofs.Along.{along_tricubic, scale_small, along_bounded, doubles}

-- Twice the exact values of a solid on an axis, within its limits, and slice 0.
abbrev values_of : Solid → Axis → (i j k : ℕ) → ℤ
values_of s a = doubled_along s.points s.n s.m s.l (offset a)

tricubic : (s : Solid) (a : Axis) → IsTricubic (values_of s a)
tricubic s a = along_tricubic s.points s.n s.m s.l (offset a)

abbrev pub Limited : Solid → Type 0
Limited s = InLimits s.points s.n s.m s.l

abbrev pub start_of : Solid → Strides → Blocks
start_of s h = start_blocks s.points s.n s.m s.l h

-- The walk along v, with the differences along u, on three axes.
abbrev along_v : Blocks → Lines
along_v b = record { x = b.x.value; y = b.y.value; z = b.z.value }

-- The samples at t = 0, and those of slice k.
abbrev at_t_0 : (j k : ℕ) → List ℕ
at_t_0 j k = 0 ∷ j ∷ k ∷ []

abbrev in_slice : (k i j : ℕ) → List ℕ
in_slice k i j = i ∷ j ∷ k ∷ []

-- What the blocks hold at slice k: the walk along v stands at its first sample, with the slice's differences along u; and the
-- surfaces are those of its differences along t.
pub record OnSlice (s : Solid) (h : Strides) (k : ℕ) (b : Blocks) : Type 0 where
  pub line : OnRow (solid_of s) h at_t_0 (λ a. values_of s a 0) k (along_v b)
  pub d1 : (a : Axis) → (block_of b a).d1 ≡ (volume_of (values_of s a) k).d1
  pub d2 : (a : Axis) → (block_of b a).d2 ≡ (volume_of (values_of s a) k).d2
  pub d3 : (a : Axis) → (block_of b a).d3 ≡ (volume_of (values_of s a) k).d3

line_on : (b : Blocks) (a : Axis) → line_of (along_v b) a ≡ (block_of b a).value
line_on b x_axis = refl
line_on b y_axis = refl
line_on b z_axis = refl

slice_on : (b : Blocks) (a : Axis) → line_of (slice_lines b) a ≡ slice_line (block_of b a)
slice_on b x_axis = refl
slice_on b y_axis = refl
slice_on b z_axis = refl

-- The slice starts at its first sample.
slice_starts : {s : Solid} {h : Strides} {k : ℕ} {b : Blocks} → OnSlice s h k b →
    OnRow (solid_of s) h (in_slice k) (λ a. slice_at (values_of s a) k) 0 (slice_lines b)
slice_starts {s} {k = k} {b} o = record {
  walk = row_starts o.line;
  steps = λ a.
      ap steps_of_lem (slice_on b a) ∙
      same_fields (ap row_of (o.d1 a)) (ap row_of (o.d2 a)) (ap row_of (o.d3 a)) refl ∙
      ap along_t (slice_of_lem (values_of s a) k);
}

module _ {S : ℕ} (s : Solid) (l : Limited s) (d : Drawable S (solid_of s)) where
  abbrev N : ℤ
  N = pos (scale_of (solid_of s))

  abbrev h : Strides
  h = grid_strides S

  bounded_at_t_0 : (a : Axis) → Bounded s.m s.l (values_of s a 0)
  unfolding delta
  bounded_at_t_0 a = record {
    within = λ k q i j hk hq hi hj. (along_bounded l (offset_small a)).within 0 k q 0 i j (lit< tt) hk hq zero-le hi hj;
  }

  -- The rows along u at t = 0.
  v_rows : Rows S (solid_of s) s.m s.l at_t_0 (λ a. values_of s a 0)
  v_rows = record {
    drawable = d;
    scale_small = scale_small l.n_most l.m_most l.l_most;
    sample = λ j k hj hk. index zero-le (index hj (index hk no_index));
    in_row = λ j k hj hk. later {n = s.n} zero-le (step hj (index hk no_index));
    to_next = λ k hk. later {n = s.n} zero-le (later {n = s.m} zero-le (step hk no_index));
    bicubic = λ a. record {
      along_t = λ k. (tricubic s a).along_u 0 k;
      along_u = λ j. (tricubic s a).along_v 0 j;
    };
    doubles = λ a j k hj hk. doubles s a 0 j k zero-le hj hk;
    bounded = bounded_at_t_0;
  }

  -- The rows of slice k.
  t_rows : {k : ℕ} → k ≤ s.l →
      Rows S (solid_of s) s.n s.m (in_slice k) (λ a. slice_at (values_of s a) k)
  t_rows {k} hk = record {
    drawable = d;
    scale_small = scale_small l.n_most l.m_most l.l_most;
    sample = λ i j hi hj. index hi (index hj (index hk no_index));
    in_row = λ i j hi hj. step hi (index hj (index hk no_index));
    to_next = λ j hj. later {n = s.n} zero-le (step hj (index hk no_index));
    bicubic = λ a. slice_bicubic (tricubic s a) k;
    doubles = λ a i j hi hj. doubles s a i j k hi hj hk;
    bounded = λ a. slice_bounded (along_bounded l (offset_small a)) hk;
  }

  -- Slice 0.
  start_on : (g : Strides) (a : Axis) →
      line_of (along_v (start_of s g)) a ≡
      start_line (stride_of g a) (pos (coordinate s.points a 0)) (surface_of (values_of s a 0) 0)
  unfolding coordinate offset volume_of delta
  start_on g x_axis = refl
  start_on g y_axis = refl
  start_on g z_axis = refl

  on_slice_0 : OnSlice s h 0 (start_of s h)
  unfolding offset
  on_slice_0 = record {
    line = rows_start v_rows (first (first (first no_corner))) (start_on h);
    d1 = λ a. elim a as (λ q. (block_of (start_of s h) q).d1 ≡ (volume_of (values_of s q) 0).d1)
        [ x_axis ↦ refl | y_axis ↦ refl | z_axis ↦ refl ];
    d2 = λ a. elim a as (λ q. (block_of (start_of s h) q).d2 ≡ (volume_of (values_of s q) 0).d2)
        [ x_axis ↦ refl | y_axis ↦ refl | z_axis ↦ refl ];
    d3 = λ a. elim a as (λ q. (block_of (start_of s h) q).d3 ≡ (volume_of (values_of s q) 0).d3)
        [ x_axis ↦ refl | y_axis ↦ refl | z_axis ↦ refl ];
  }

  module _ {k : ℕ} {b : Blocks} (o : OnSlice s h k b) where
    -- There is room for the next slice.
    next_slice_room : k < s.l → BlocksRoom N h b
    unfolding volume_of
    next_slice_room hk = record {
      on = λ a. let room = volume_room (along_bounded l (offset_small a)) {k = k} (omega arith) in record {
        value = rw (← line_on b a) ((next_room v_rows o.line hk).on a);
        d1 = rw (o.d1 a) room.d1;
        d2 = rw (o.d2 a) room.d2;
        d3 = rw (o.d3 a) room.d3;
      };
    }

    -- The next slice.
    next_on_slice : k < s.l → OnSlice s h (suc k) (next_blocks N h b)
    next_on_slice hk = record {
      line = next_on_row v_rows o.line hk;
      d1 = λ a. next_d1 a ∙ ap next_surface (o.d1 a) ∙ ap (λ v. v.d1) (volume_next (tricubic s a) k);
      d2 = λ a. next_d2 a ∙ ap next_surface (o.d2 a) ∙ ap (λ v. v.d2) (volume_next (tricubic s a) k);
      d3 = λ a. next_d3 a ∙ ap next_surface (o.d3 a) ∙ ap (λ v. v.d3) (volume_next (tricubic s a) k);
    }
      where
        next_d1 : (a : Axis) → (block_of (next_blocks N h b) a).d1 ≡ next_surface (block_of b a).d1
        next_d1 x_axis = refl
        next_d1 y_axis = refl
        next_d1 z_axis = refl

        next_d2 : (a : Axis) → (block_of (next_blocks N h b) a).d2 ≡ next_surface (block_of b a).d2
        next_d2 x_axis = refl
        next_d2 y_axis = refl
        next_d2 z_axis = refl

        next_d3 : (a : Axis) → (block_of (next_blocks N h b) a).d3 ≡ next_surface (block_of b a).d3
        next_d3 x_axis = refl
        next_d3 y_axis = refl
        next_d3 z_axis = refl

-- The places of the slices 0 to k.
abbrev pub places : (S : ℕ) → Solid → ℕ → List ℕ
places S s k = map (λ q. place S (cell_of (solid_of s) q)) (rows s.n (rows s.m (row k [])))

module _ (S : ℕ) (s : Solid) where
  abbrev cell_place : List ℕ → ℕ
  cell_place q = place S (cell_of (solid_of s) q)

  abbrev pub slice_places : ℕ → List ℕ
  slice_places k = map cell_place (rows s.n (row s.m (k ∷ [])))

  pub first_slice : slice_places 0 ≡ places S s 0
  first_slice = ap (λ q. map cell_place (rows s.n q)) (sym (rows_first s.m []))

  pub more_slices : (k : ℕ) → places S s k ++ slice_places (suc k) ≡ places S s (suc k)
  more_slices k =
      sym (ap (λ q. map cell_place (rows s.n q)) (rows_more s.m k []) ∙
      ap (map cell_place) (rows_append s.n (rows s.m (row k [])) (row s.m (suc k ∷ []))) ∙
      map-append cell_place (rows s.n (rows s.m (row k []))) _)

  -- What an accepted drawing leaves are the marks of all slices.
  pub drawn_slices : (grid : List ℕ) → draw_verdict S (length grid) (solid_of s) ≡ accepted →
      drawn S (solid_of s) grid ≡ marked s.choice s.mark (places S s s.l) grid
  unfolding drawn_by cells samples
  drawn_slices grid e =
      rw (e, map-map)
      (ap (λ q. marked s.choice s.mark (map cell_place (rows s.n (rows s.m q))) grid) (one_row s.l))

-- The same with the scale N, the strides h and the blocks as the code holds them.
module _ {S : ℕ} (s : Solid) (l : Limited s) (d : Drawable S (solid_of s)) {N : ℤ} {h : Strides}
    (e : N ≡ pos (scale_of (solid_of s))) (f : h ≡ grid_strides S) where
  pub blocks_start : {b : Blocks} → b ≡ start_of s h → OnSlice s (grid_strides S) 0 b
  blocks_start q = rw (q, f) (on_slice_0 s l d)

  module _ {k : ℕ} {b : Blocks} (o : OnSlice s (grid_strides S) k b) where
    pub room_for_next : k < s.l → BlocksRoom N h b
    room_for_next hk = rw (e, f) (next_slice_room s l d o hk)

    pub next_is : {c : Blocks} → c ≡ next_blocks N h b → k < s.l → OnSlice s (grid_strides S) (suc k) c
    next_is q hk = rw (q, e, f) (next_on_slice s l d o hk)

    module _ {lines : Lines} (q : lines ≡ slice_lines b) (hk : k ≤ s.l) where
      pub room_for_slice : {len : ℕ} → len ≡ volume S → RowsOnGrid s.n s.m N h lines len
      room_for_slice v = rw (v, q, e, f) (rows_on_grid (t_rows s l d hk) (slice_starts o))

      pub slice_marks : (grid : List ℕ) {after : List ℕ} →
          after ≡ marked s.choice s.mark (map place_of (rows_of_walkers s.n s.m N h lines)) grid →
          after ≡ marked s.choice s.mark (slice_places S s k) grid
      slice_marks grid m = rw (q, e, f, rows_places (t_rows s l d hk) (slice_starts o)) at m
