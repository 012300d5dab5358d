-- `mark_samples` meets its contract: a drawable curve is a row that the walker walks.
use borrow.Author.Rules.{rules}
use mathlib.Core.Path.{◌≡◌}
use Prim.Native.Nat.{ℕ, ◌*◌}
use lib.IntN.{ℤ, pos}
use lib.ListN.{length}
use Rattle.decide.specs.Refusal.{accepted}
use Rattle.drawing.specs.Object.{scale_of}
use Rattle.drawing.specs.Refusals.{Drawable, draw_verdict}
use Rattle.drawing.proofs.Accepted.{draw_accepted}
use Rattle.cubic.proofs.Fits.{read}
use Rattle.scan.proofs.Samples.{grid_small}
use Rattle.curve.specs.declared.Curve.{Curve}
use Rattle.curve.specs.Curve.{curve_of}
use Rattle.curve.specs.Machine.{InLimits}
use Rattle.curve.proofs.Along.{drawable_in_limits, scale_held}
use Rattle.curve.proofs.Begin.{room_for_row, row_marks}
use Rattle.curve.proofs.samples.mark_samples.Goals as goal

module _ (S : ℕ) (c : Curve) (twelve : length c.points ≡ 12) (len : ℕ) (accept : draw_verdict S len (curve_of c) ≡ accepted) where
  drawable : Drawable S (curve_of c)
  drawable = ((draw_accepted S (curve_of c) _).0 accept).0

  limits : InLimits c
  limits = drawable_in_limits c twelve drawable

  scale_is : {r : ℤ} → r ≡ pos (c.steps * c.steps * c.steps) → read r ≡ pos (scale_of (curve_of c))
  scale_is e = (scale_held limits e).same

pub grid_strides-h-requires : goal.grid_strides-h-requires
grid_strides-h-requires c =
    (drawable c.args.side c.args.curve (search rules) (length c.args.grid.now) c.requires).side_most

pub start_walker-start-requires : goal.start_walker-start-requires
start_walker-start-requires c =
    record {
      in_limits = limits c.args.side c.args.curve (search rules) (length c.args.grid.now) c.requires;
      small_strides =
          rw c.grid_strides-h.ensures
          (grid_small (drawable c.args.side c.args.curve (search rules) (length c.args.grid.now) c.requires).side_most);
    }

pub cubed-scale-requires : goal.cubed-scale-requires
cubed-scale-requires c =
    (limits c.args.side c.args.curve (search rules) (length c.args.grid.now) c.requires).count_most

pub mark_row-requires : goal.mark_row-requires
mark_row-requires c =
    let twelve : length c.args.curve.points ≡ 12 = search rules in
    let w = (draw_accepted c.args.side (curve_of c.args.curve) _).0 c.requires in
    record {
      on_grid =
          room_for_row c.args.curve twelve w.0
          (scale_is c.args.side c.args.curve twelve (length c.args.grid.now) c.requires c.cubed-scale.ensures)
          c.grid_strides-h.ensures c.start_walker-start.ensures w.1;
      n_bound = (drawable_in_limits c.args.curve twelve w.0).count_most;
      le_mark = w.2;
    }

pub returns-clause-grid_after_2 : goal.returns-clause-grid_after_2
returns-clause-grid_after_2 c =
    let twelve : length c.args.curve.points ≡ 12 = search rules in
    row_marks c.args.curve twelve (drawable c.args.side c.args.curve twelve (length c.args.grid.now) c.requires)
    (scale_is c.args.side c.args.curve twelve (length c.args.grid.now) c.requires c.cubed-scale.ensures)
    c.grid_strides-h.ensures c.start_walker-start.ensures c.args.grid.now c.requires c.mark_row.ensures.grid_after_2
