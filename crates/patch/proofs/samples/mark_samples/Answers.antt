-- `mark_samples` meets its contract: the rows are those of the patch.
use borrow.Author.Rules.{rules}
use mathlib.Core.Path.{◌≡◌}
use Prim.Native.Nat.{ℕ, ◌≤◌}
use native.Mathlib.Omega.{arith}
use lib.ListN.{length}
use Rattle.decide.specs.Refusal.{accepted}
use Rattle.cube.specs.Cube.{volume}
use Rattle.drawing.specs.Refusals.{Drawable, draw_verdict}
use Rattle.drawing.proofs.Accepted.{draw_accepted}
use Rattle.scan.proofs.Natural.{cube_grows}
use Rattle.scan.proofs.Samples.{grid_small}
use Rattle.patch.specs.declared.Patch.{Patch}
use Rattle.patch.specs.Patch.{patch_of}
use Rattle.patch.specs.Machine.{InLimits}
use Rattle.patch.proofs.Along.{drawable_in_limits, scale_read, room_for_rows, rows_marks}
use Rattle.patch.proofs.samples.mark_samples.Goals as goal

-- What an accepted verdict tells.
module _ (S len : ℕ) (p : Patch) (e : draw_verdict S len (patch_of p) ≡ accepted) where
  drawable : Drawable S (patch_of p)
  drawable = ((draw_accepted S (patch_of p) len).0 e).0

  volume_is : len ≡ volume S
  volume_is = ((draw_accepted S (patch_of p) len).0 e).1

  marks : 1 ≤ p.mark
  marks = ((draw_accepted S (patch_of p) len).0 e).2

  limits : length p.points ≡ 48 → InLimits p
  limits h = drawable_in_limits p h drawable

pub grid_strides-h-requires : goal.grid_strides-h-requires
grid_strides-h-requires c = (drawable c.args.side _ c.args.patch c.requires).side_most

pub scale-scale-requires : goal.scale-scale-requires
scale-scale-requires c = limits c.args.side _ c.args.patch c.requires (search rules)

pub start_lines-lines-requires : goal.start_lines-lines-requires
start_lines-lines-requires c = record {
  in_limits = limits c.args.side _ c.args.patch c.requires (search rules);
  small_strides = rw c.grid_strides-h.ensures (grid_small (drawable c.args.side _ c.args.patch c.requires).side_most);
}

pub mark_rows-requires : goal.mark_rows-requires
mark_rows-requires c =
    let l : InLimits c.args.patch = limits c.args.side _ c.args.patch c.requires (search rules) in
    let d = drawable c.args.side _ c.args.patch c.requires in
    record {
      rows_on_grid =
          room_for_rows c.args.patch l d (scale_read l c.scale-scale.ensures) c.grid_strides-h.ensures c.start_lines-lines.ensures
          (volume_is c.args.side _ c.args.patch c.requires);
      n_bound = (omega (arith, l.n_most), omega (arith, volume_is c.args.side _ c.args.patch c.requires, cube_grows d.side_most));
      le_mark = marks c.args.side _ c.args.patch c.requires;
    }

pub returns : goal.returns
returns c =
    let l : InLimits c.args.patch = limits c.args.side _ c.args.patch c.requires (search rules) in
    record {
      grid_after = c.mark_rows.ensures.grid_after;
      grid_after_2 =
          rows_marks c.args.patch l (drawable c.args.side _ c.args.patch c.requires) (scale_read l c.scale-scale.ensures) c.grid_strides-h.ensures
          c.start_lines-lines.ensures c.args.grid.now c.requires c.mark_rows.ensures.grid_after_2;
    }
