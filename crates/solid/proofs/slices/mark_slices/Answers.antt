-- `mark_slices` meets its contract: after k slices more the grid has the marks of the slices 0 to k, and has lost as many
-- unmarked cells as are counted.
use borrow.Author.Rules.{rules}
use mathlib.Core.Path.{◌≡◌, sym, ◌∙◌, ap}
use mathlib.Core.List.{List, map}
use Prim.Native.Nat.{ℕ, ◌≤◌, zero-le}
use native.Mathlib.Numerals.{add-one}
use native.Mathlib.Omega.{arith}
use lib.IntN.{ℤ, pos}
use lib.ListN.{length}
use Rattle.decide.specs.Refusal.{accepted}
use Rattle.cube.specs.Cube.{volume}
use Rattle.drawing.specs.Object.{scale_of}
use Rattle.drawing.specs.Refusals.{Drawable, draw_verdict}
use Rattle.drawing.specs.Drawing.{marked}
use Rattle.drawing.specs.NewCells.{unmarked_cells}
use Rattle.drawing.proofs.Accepted.{draw_accepted}
use Rattle.drawing.proofs.NewCells.{unmarked_at_most}
use Rattle.scan.specs.Walker.{Strides, grid_strides, place_of}
use Rattle.scan.proofs.Natural.{cube_grows}
use Rattle.scan.proofs.Samples.{grid_small}
use Rattle.rows.specs.Lines.{Lines, rows_of_walkers}
use Rattle.solid.specs.declared.Solid.{Solid}
use Rattle.solid.specs.Solid.{solid_of}
use Rattle.solid.specs.Blocks.{Blocks, slice_lines}
use Rattle.solid.proofs.Along.{drawable_in_limits, scale_read}
use Rattle.solid.proofs.Sliced.{Limited, places, drawn_slices}
use Rattle.solid.proofs.Sliced.{blocks_start, room_for_next, next_is, room_for_slice, slice_marks}
use Rattle.solid.proofs.slices.mark_slices.Invariants.{first, next}
use Rattle.solid.proofs.slices.mark_slices.Goals as goal

-- What an accepted solid is.
record Accepted (S : ℕ) (s : Solid) (g : List ℕ) : Type 0 where
  drawable : Drawable S (solid_of s)
  limits : Limited s
  volume_is : length g ≡ volume S
  marks : 1 ≤ s.mark

accepted_is : {S : ℕ} (s : Solid) {g : List ℕ} → length s.points ≡ 192 →
    draw_verdict S (length g) (solid_of s) ≡ accepted → Accepted S s g
accepted_is {S} s {g} all_points e =
    let p = (draw_accepted S (solid_of s) (length g)).0 e in record {
      drawable = p.0;
      limits = drawable_in_limits s all_points p.0;
      volume_is = p.1;
      marks = p.2;
    }

pub grid_strides-h-requires : goal.grid_strides-h-requires
grid_strides-h-requires c = (accepted_is c.args.solid (search rules) c.requires).drawable.side_most

pub scale-scale-requires : goal.scale-scale-requires
scale-scale-requires c =
    let l = (accepted_is c.args.solid (search rules) c.requires).limits in (l.n_most, l.m_most, l.l_most)

pub start_blocks-blocks-requires : goal.start_blocks-blocks-requires
start_blocks-blocks-requires c =
    let a = accepted_is c.args.solid (search rules) c.requires in
    record {
      in_limits = a.limits;
      small_strides = rw c.grid_strides-h.ensures (grid_small a.drawable.side_most);
    }

pub mark_rows-new_cells-requires : goal.mark_rows-new_cells-requires
mark_rows-new_cells-requires c =
    let a = accepted_is c.args.solid (search rules) c.requires in
    let e = scale_read a.limits c.scale-scale.ensures in
    let o = blocks_start c.args.solid a.limits a.drawable e c.grid_strides-h.ensures c.start_blocks-blocks.ensures in
    record {
      rows_on_grid =
          room_for_slice c.args.solid a.limits a.drawable e c.grid_strides-h.ensures o c.slice_lines.ensures zero-le a.volume_is;
      n_bound = (omega (arith, a.limits.n_most), omega (arith, a.volume_is, cube_grows a.drawable.side_most));
      le_mark = a.marks;
    }

pub loop-init : goal.loop-init
loop-init c =
    let a = accepted_is c.args.solid (search rules) c.requires in
    let e = scale_read a.limits c.scale-scale.ensures in
    let o = blocks_start c.args.solid a.limits a.drawable e c.grid_strides-h.ensures c.start_blocks-blocks.ensures in
    let m = c.mark_rows-new_cells.ensures in
    first c.args.side c.args.solid o a.volume_is
    (slice_marks c.args.solid a.limits a.drawable e c.grid_strides-h.ensures o c.slice_lines.ensures zero-le c.args.grid.now
    m.grid_after_2)
    m.grid_after

pub next_blocks-blocks-requires : goal.next_blocks-blocks-requires
next_blocks-blocks-requires c =
    let a = accepted_is c.args.solid (search rules) c.requires in
    room_for_next c.args.solid a.limits a.drawable (scale_read a.limits c.scale-scale.ensures)
    c.grid_strides-h.ensures c.loop.invariant.on_slice c.loop-test.true

pub mark_rows-new_cells-requires-in-loop : goal.mark_rows-new_cells-requires-in-loop
mark_rows-new_cells-requires-in-loop c =
    let a = accepted_is c.args.solid (search rules) c.requires in
    let e = scale_read a.limits c.scale-scale.ensures in
    let f = c.loop.invariant in
    let l = c.loop-test.true in
    let o =
    next_is c.args.solid a.limits a.drawable e c.grid_strides-h.ensures f.on_slice c.next_blocks-blocks.ensures l in
    record {
      rows_on_grid =
          room_for_slice c.args.solid a.limits a.drawable e c.grid_strides-h.ensures o c.slice_lines-in-loop.ensures l f.size;
      n_bound = (omega (arith, a.limits.n_most), omega (arith, f.size, cube_grows a.drawable.side_most));
      le_mark = a.marks;
    }

-- New cells are cells of the grid at the start, at most 64 × 64 × 64.
pub overflow_add-new_cells : goal.overflow_add-new_cells
overflow_add-new_cells c =
    let a = accepted_is c.args.solid (search rules) c.requires in
    let m = c.mark_rows-new_cells-in-loop.ensures in
    record {
      fits = omega (arith, m.grid_after, c.loop.invariant.fewer, unmarked_at_most c.args.grid.now, a.volume_is, cube_grows a.drawable.side_most);
    }

pub loop-preserved : goal.loop-preserved
loop-preserved c =
    let a = accepted_is c.args.solid (search rules) c.requires in
    let e = scale_read a.limits c.scale-scale.ensures in
    let f = c.loop.invariant in
    let l = c.loop-test.true in
    let o =
    next_is c.args.solid a.limits a.drawable e c.grid_strides-h.ensures f.on_slice c.next_blocks-blocks.ensures l in
    let m = c.mark_rows-new_cells-in-loop.ensures in
    rw add-one
    (next c.args.side c.args.solid _ f l o
    (slice_marks c.args.solid a.limits a.drawable e c.grid_strides-h.ensures o c.slice_lines-in-loop.ensures l c.loop.grid
    m.grid_after_2)
    m.grid_after)

pub returns : goal.returns
returns c =
    let s = c.args.solid in
    let f = c.loop.invariant in
    let k : c.loop.counter ≡ s.l = omega (arith, f.within) in
    record {
      grid_after = f.fewer;
      grid_after_2 =
          f.marks ∙ ap (λ k. marked s.choice s.mark (places c.args.side s k) c.args.grid.now) k ∙
          sym (drawn_slices c.args.side s c.args.grid.now c.requires);
    }
