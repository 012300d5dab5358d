-- `mark_walk` meets its contract: after i steps the grid has the marks of the first i + 1 walkers' places, and has lost as
-- many unmarked cells as are counted.
use borrow.Author.Rules.{rules}
use mathlib.Core.Path.{◌≡◌, ◌∙◌}
use native.Mathlib.Numerals.{add-one}
use native.Mathlib.Omega.{arith}
use mir.Facts.{to_z-of_z}
use Rattle.scan.proofs.Written.{counted, one_more}
use Rattle.scan.proofs.Row.{no_steps, room_now, step_more}
use Rattle.scan.proofs.mark.Ink.mark_walk.Invariants.{byte, first, has_place, next}
use Rattle.scan.proofs.mark.Ink.mark_walk.Goals as goal

pub place-requires : goal.place-requires
place-requires c = has_place c.requires.on_grid (no_steps _ _ _ _)

pub mark_cell-requires : goal.mark_cell-requires
mark_cell-requires c = rw c.place.ensures (byte c.requires.on_grid (no_steps _ _ _ _))

pub loop-init : goal.loop-init
loop-init c =
    rw (to_z-of_z c.ranges.scale, c.from-new_cells.ensures, c.mark_cell.ensures.grid_after, c.place.ensures)
    (first c.args.scale c.args.h c.args.self.mark c.args.self.choice c.args.start c.args.grid.now c.mark_cell.result
    c.requires.on_grid)

pub step-w-requires : goal.step-w-requires
step-w-requires c = let l = c.loop.invariant in room_now l.steps l.room.steps c.loop-test.true

pub place-requires-in-loop : goal.place-requires-in-loop
place-requires-in-loop c =
    let l = c.loop.invariant in
    has_place l.room (step_more l.steps c.loop-test.true c.step-w.ensures)

pub mark_cell-requires-in-loop : goal.mark_cell-requires-in-loop
mark_cell-requires-in-loop c =
    let l = c.loop.invariant in
    rw c.place-in-loop.ensures (byte l.room (step_more l.steps c.loop-test.true c.step-w.ensures))

pub overflow_add-new_cells : goal.overflow_add-new_cells
overflow_add-new_cells c =
    let l = c.loop.invariant in
    let e = c.from-new_cells-in-loop.ensures in
    record { fits = omega (arith, (counted c.mark_cell-in-loop.result).1, l.few, l.steps.within, c.requires.n_bound) }

pub loop-preserved : goal.loop-preserved
loop-preserved c =
    let l = c.loop.invariant in
    let p = c.place-in-loop.ensures in
    let m = c.mark_cell-in-loop in
    let there = byte l.room (step_more l.steps c.loop-test.true c.step-w.ensures) in
    rw (add-one, c.from-new_cells-in-loop.ensures, m.ensures.grid_after, p)
    (next _ _ _ _ _ m.result l c.loop-test.true c.step-w.ensures
    (one_more c.args.self.mark c.args.self.choice c.requires.le_mark c.loop.grid _ there m.result (rw p at m.ensures.value)))

pub shape_of-grid : goal.shape_of-grid
shape_of-grid c = let size = c.loop.invariant.size in search rules

pub returns : goal.returns
returns c =
    let l = c.loop.invariant in
    let p = c.place.ensures in
    let m = c.mark_cell in
    let e : c.loop.counter ≡ c.args.n = omega (arith, l.steps.within) in
    let one =
    one_more c.args.self.mark c.args.self.choice c.requires.le_mark c.args.grid.now _
    (byte c.requires.on_grid (no_steps _ _ _ _)) m.result (rw p at m.ensures.value) in
    record {
      grid_after = l.fewer ∙ rw (c.from-new_cells.ensures, m.ensures.grid_after, p) one;
      grid_after_2 = rw (to_z-of_z c.ranges.scale, e) at (l.marks c.args.grid.now (cc));
    }
