-- `count_cells` meets its contract: one cell, and one for each move of an axis.
use Rattle.std.proofs.Common.{◌≡◌, ℕ, ◌+◌, ◌≤◌, refl, arith, lit<}
use Rattle.decide.specs.Refusal.{accepted}
use Rattle.cube.specs.Cube.{x_axis, y_axis, z_axis}
use Rattle.drawing.specs.Object.{offset}
use Rattle.drawing.specs.Refusals.{check_verdict}
use Rattle.drawing.specs.Drawing.{cells}
use Rattle.drawing.proofs.Accepted.{check_accepted}
use Rattle.curve.specs.declared.Curve.{Curve}
use Rattle.curve.specs.Curve.{curve_of}
use Rattle.path.specs.Path.{move_of, over_steps, path_length}
use Rattle.path.proofs.OfCurve as along
use Rattle.path.proofs.Paths.{by_axes}
use Rattle.path.proofs.list.count_cells.Goals as goal

-- The moves of the three axes, and the number of cells.
most : (S : ℕ) (c : Curve) → check_verdict S (curve_of c) ≡ accepted →
    let o = curve_of c in
    (over_steps (move_of x_axis) (cells o) + over_steps (move_of y_axis) (cells o) + over_steps (move_of z_axis) (cells o) + 1 ≡ path_length o) ×
    (path_length o ≤ 2000)
most S c e =
    let n = ((check_accepted _ _).0 e).count_most 0 (lit< tt) in
    let size = along.path_length_lem c.steps c.points c.mark c.choice in
    (omega (arith, by_axes (cells (curve_of c)), size), omega (arith, along.path_at_most c.steps c.points c.mark c.choice, n))

pub overflow_add-result : goal.overflow_add-result
unfolding offset
overflow_add-result c =
    let m = most _ c.args.curve c.requires in
    record { fits = omega (arith, c.count_moves.ensures.are x_axis refl, m.0, m.1) }

pub overflow_add-result-2 : goal.overflow_add-result-2
unfolding offset
overflow_add-result-2 c =
    let m = most _ c.args.curve c.requires in
    record { fits = omega (arith, c.count_moves.ensures.are x_axis refl, c.count_moves-2.ensures.are y_axis refl, m.0, m.1) }

pub overflow_add-result-3 : goal.overflow_add-result-3
unfolding offset
overflow_add-result-3 c =
    let m = most _ c.args.curve c.requires in
    record {
      fits = omega (
        arith,
        c.count_moves.ensures.are x_axis refl,
        c.count_moves-2.ensures.are y_axis refl,
        c.count_moves-3.ensures.are z_axis refl,
        m.0,
        m.1,
      );
    }

pub returns : goal.returns
unfolding offset
returns c =
    omega (
      arith,
      c.count_moves.ensures.are x_axis refl,
      c.count_moves-2.ensures.are y_axis refl,
      c.count_moves-3.ensures.are z_axis refl,
      (most _ c.args.curve c.requires).0,
    )
