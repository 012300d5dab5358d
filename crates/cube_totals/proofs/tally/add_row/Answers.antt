-- `add_row` meets its contract: after x turns the first x cells are added, and the bound on the numbers has risen with each.
use mathlib.Core.Path.{refl}
use native.Mathlib.Omega.{arith}
use Rattle.cube_totals.specs.Table.{added_row}
use Rattle.cube_totals.proofs.tally.add_row.Invariants.{next, room, whole}
use Rattle.cube_totals.proofs.tally.add_row.Goals as goal

pub loop-x-init : goal.loop-x-init
unfolding added_row
loop-x-init c = record { within = omega arith; holds = refl; below = c.requires.below }

pub add-requires-clause-below : goal.add-requires-clause-below
add-requires-clause-below c = room c.loop-x.invariant c.requires.marks_len_bound

pub loop-x-preserved : goal.loop-x-preserved
loop-x-preserved c =
    let r = c.requires in
    next c.loop-x.invariant c.loop-x-test.true r.marks_len_bound r.y_bound (omega (arith, c.type_inv.marks c.loop-x.x)) c.add.ensures

pub returns-clause-table_after : goal.returns-clause-table_after
returns-clause-table_after c = whole c.loop-x.invariant (omega (arith, c.loop-x-test.false))
