-- `list_row` meets its contract: after i steps the list begins with the bytes of the first i + 1 walkers' cells.
use borrow.Author.Rules.{rules}
use mathlib.Core.Path.{◌≡◌}
use native.Mathlib.Numerals.{add-one}
use native.Mathlib.Omega.{arith}
use mir.Facts.{to_z-of_z}
use Rattle.scan.specs.Walker.{ByteCell}
use Rattle.scan.proofs.Row.{no_steps, holds_now, room_now, step_more}
use Rattle.scan.proofs.list.list_row.Invariants.{first, next}
use Rattle.scan.proofs.list.list_row.Goals as goal

pub put_cell-requires : goal.put_cell-requires
put_cell-requires c =
    record {
      byte_cell = holds_now (no_steps _ _ _ _) ByteCell c.requires.cells;
      at_in_bounds = omega (arith, c.requires.long);
    }

pub loop-init : goal.loop-init
loop-init c =
    rw (to_z-of_z c.ranges.scale, c.put_cell.ensures)
    (first c.args.scale c.args.h c.args.start c.args.list.now c.requires)

pub step-w-requires : goal.step-w-requires
step-w-requires c = let l = c.loop.invariant in room_now l.steps l.room.steps c.loop-test.true

pub overflow_add-at : goal.overflow_add-at
overflow_add-at c =
    let place = c.loop.invariant.place in
    let below = c.loop-test.true in
    search rules

pub put_cell-requires-in-loop : goal.put_cell-requires-in-loop
put_cell-requires-in-loop c =
    let l = c.loop.invariant in
    let t = c.loop-test.true in record {
      byte_cell = holds_now (step_more l.steps t c.step-w.ensures) ByteCell l.room.cells;
      at_in_bounds = omega (arith, l.room.long, l.place);
    }

pub loop-preserved : goal.loop-preserved
loop-preserved c =
    rw (add-one, c.put_cell-in-loop.ensures)
    (next _ _ _ c.loop.invariant c.loop-test.true c.step-w.ensures)

pub shape_of-list : goal.shape_of-list
shape_of-list c = let size = c.loop.invariant.size in search rules

pub returns : goal.returns
returns c =
    let l = c.loop in
    let e : l.counter ≡ c.args.n = omega (arith, l.invariant.steps.within) in
    rw (to_z-of_z c.ranges.scale, e) at (l.invariant.cells c.args.list.now (cc))
