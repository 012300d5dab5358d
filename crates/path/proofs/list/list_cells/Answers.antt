-- `list_cells` meets its contract: after i steps the walker stands at sample i, and the path up to there is listed.
use Rattle.std.proofs.Common.{◌≡◌, length, refl, add-one, arith, lit<, rules}
use Rattle.cube.specs.Cube.{x_axis, y_axis, z_axis}
use Rattle.drawing.proofs.Accepted.{check_accepted}
use Rattle.scan.specs.Walker.{cell_of_walker}
use Rattle.scan.proofs.Samples.{list_small}
use Rattle.curve.proofs.Along.{drawable_in_limits}
use Rattle.path.proofs.Steps.{in_list, at_0}
use Rattle.path.proofs.list.list_cells.Invariants.{begins, begun, may_ask, may_step, asks_x, asks_y, asks_z, more, done}
use Rattle.path.proofs.list.list_cells.Goals as goal

pub cubed-scale-requires : goal.cubed-scale-requires
cubed-scale-requires c = ((check_accepted _ _).0 c.requires.curve_value).count_most 0 (lit< tt)

pub start_walker-w-requires : goal.start_walker-w-requires
start_walker-w-requires c = record {
  in_limits = drawable_in_limits _ (search rules) ((check_accepted _ _).0 c.requires.curve_value);
  small_strides = list_small;
}

-- Sample 0.
pub put_cell-requires : goal.put_cell-requires
put_cell-requires c =
    let n = c.args.curve in
    let twelve : length n.points ≡ 12 = search rules in
    let d = (check_accepted _ _).0 c.requires.curve_value in
    let b = begins n twelve d (at_0 (in_list n twelve d) refl c.start_walker-w.ensures) c.requires.curve_in_bounds in
    record { byte_cell = b.0; at_in_bounds = b.1 }

pub loop-init : goal.loop-init
loop-init c =
    let n = c.args.curve in
    let twelve : length n.points ≡ 12 = search rules in
    let d = (check_accepted _ _).0 c.requires.curve_value in
    rw c.put_cell.ensures
    (begun n twelve d c.args.list.now (at_0 (in_list n twelve d) refl c.start_walker-w.ensures) c.requires.curve_in_bounds)

-- Sample by sample: x,
pub moves-x_moves-requires : goal.moves-x_moves-requires
moves-x_moves-requires c =
    may_ask c.args.curve (search rules) ((check_accepted _ _).0 c.requires.curve_value) c.cubed-scale.ensures c.loop.invariant x_axis

pub advance-w-requires : goal.advance-w-requires
advance-w-requires c = record {
  steps =
      may_step c.args.curve (search rules) ((check_accepted _ _).0 c.requires.curve_value) c.cubed-scale.ensures
      c.loop.invariant x_axis;
  moved_value = c.moves-x_moves.ensures;
}

pub list_moved-cells-requires : goal.list_moved-cells-requires
list_moved-cells-requires c =
    let d = (check_accepted _ _).0 c.requires.curve_value in
    let a =
    asks_x c.args.curve (search rules) d c.loop.invariant (search rules) c.cubed-scale.ensures
    c.advance-w.ensures c.moves-x_moves.ensures in
    record { byte_cell = a.0; cells_bound = a.1 }

-- y,
pub moves-y_moves-requires : goal.moves-y_moves-requires
moves-y_moves-requires c =
    may_ask c.args.curve (search rules) ((check_accepted _ _).0 c.requires.curve_value) c.cubed-scale.ensures c.loop.invariant y_axis

pub advance-w-requires-in-loop : goal.advance-w-requires-in-loop
advance-w-requires-in-loop c = record {
  steps =
      may_step c.args.curve (search rules) ((check_accepted _ _).0 c.requires.curve_value) c.cubed-scale.ensures
      c.loop.invariant y_axis;
  moved_value = c.moves-y_moves.ensures;
}

pub list_moved-cells-requires-in-loop : goal.list_moved-cells-requires-in-loop
list_moved-cells-requires-in-loop c =
    let d = (check_accepted _ _).0 c.requires.curve_value in
    let x = c.list_moved-cells.ensures in
    let a =
    asks_y c.args.curve (search rules) d c.loop.invariant (search rules) c.cubed-scale.ensures
    c.advance-w.ensures c.moves-x_moves.ensures (x.value, x.list_after)
    c.advance-w-in-loop.ensures c.moves-y_moves.ensures in
    record { byte_cell = a.0; cells_bound = a.1 }

-- and z.
pub moves-z_moves-requires : goal.moves-z_moves-requires
moves-z_moves-requires c =
    may_ask c.args.curve (search rules) ((check_accepted _ _).0 c.requires.curve_value) c.cubed-scale.ensures c.loop.invariant z_axis

pub advance-w-requires-in-loop-2 : goal.advance-w-requires-in-loop-2
advance-w-requires-in-loop-2 c = record {
  steps =
      may_step c.args.curve (search rules) ((check_accepted _ _).0 c.requires.curve_value) c.cubed-scale.ensures
      c.loop.invariant z_axis;
  moved_value = c.moves-z_moves.ensures;
}

pub list_moved-cells-requires-in-loop-2 : goal.list_moved-cells-requires-in-loop-2
list_moved-cells-requires-in-loop-2 c =
    let d = (check_accepted _ _).0 c.requires.curve_value in
    let x = c.list_moved-cells.ensures in
    let y = c.list_moved-cells-in-loop.ensures in
    let a =
    asks_z c.args.curve (search rules) d c.loop.invariant (search rules) c.cubed-scale.ensures
    c.advance-w.ensures c.moves-x_moves.ensures (x.value, x.list_after)
    c.advance-w-in-loop.ensures c.moves-y_moves.ensures (y.value, y.list_after)
    c.advance-w-in-loop-2.ensures c.moves-z_moves.ensures in
    record { byte_cell = a.0; cells_bound = a.1 }

pub loop-preserved : goal.loop-preserved
loop-preserved c =
    let d = (check_accepted _ _).0 c.requires.curve_value in
    let x = c.list_moved-cells.ensures in
    let y = c.list_moved-cells-in-loop.ensures in
    let z = c.list_moved-cells-in-loop-2.ensures in
    rw add-one
    (more c.args.curve (search rules) d c.loop.invariant (search rules) c.cubed-scale.ensures
    c.advance-w.ensures c.moves-x_moves.ensures (x.value, x.list_after)
    c.advance-w-in-loop.ensures c.moves-y_moves.ensures (y.value, y.list_after)
    c.advance-w-in-loop-2.ensures c.moves-z_moves.ensures (z.value, z.list_after))

pub shape_of-list : goal.shape_of-list
shape_of-list c = let size = c.loop.invariant.listed.size in search rules

pub returns : goal.returns
returns c =
    let e : c.loop.counter ≡ c.args.curve.steps = omega (arith, c.loop.invariant.within, c.loop-test.false) in
    let w = done c.loop.invariant e c.args.list.now (cell_of_walker c.start_walker-w.result) c.put_cell.ensures in
    record { value = w.0; list_after = w.1 }
