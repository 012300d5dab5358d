-- `tally` meets its contract: before each row the table is that of the bytes before it.
use mathlib.Core.Path.{◌≡◌, ◌∙◌}
use Prim.Native.Nat.{◌*◌}
use native.Mathlib.Nat.{mul-zero}
use native.Mathlib.Omega.{arith}
use lib.ListN.{take, length-take}
use Rattle.cube_totals.proofs.Table.{none_yet, table_below}
use Rattle.cube_totals.proofs.tally.tally.Invariants.{begins, z_in, next, done}
use Rattle.cube_totals.proofs.tally.tally.Goals as goal

pub loop-marks-init : goal.loop-marks-init
loop-marks-init c =
    let side = c.args.cube.side in
    let none : side * 0 ≡ 0 = mul-zero side in
    let start : begins side (record { y = 0; z = 0 }) ≡ 0 = omega (arith, none) in
    let made = c.chunks_exact-marks-items.ensures in
    rw c.into_iter-marks-iterator.ensures.into_iter_gives (
      made.size,
      record {
        within = rw start (omega arith);
        y_in = omega (arith, c.args.cube.side_in.0);
        left = rw start made.rest;
        tallied = rw start (none_yet side);
      },
    )

pub add_row-requires-clause-y_bound : goal.add_row-requires-clause-y_bound
add_row-requires-clause-y_bound c =
    let cube = c.args.cube in
    let i = c.loop-marks.invariant in
    let s = c.in-Some.ensures.steps.1 in
    let z = z_in i.1 cube.whole cube.side_in.0 _ _ s.0 (s.1 ∙ i.0) in
    (omega (arith, i.1.y_in, cube.side_in.1), omega (arith, z, cube.side_in.1))

pub add_row-requires-clause-below : goal.add_row-requires-clause-below
add_row-requires-clause-below c =
    let cube = c.args.cube in
    let i = c.loop-marks.invariant.1 in
    let p = begins cube.side c.loop-marks.row in
    table_below cube.side (take p cube.bytes.now) cube.side_in.1 (omega (arith, length-take p cube.bytes.now, cube.whole)) i.tallied

pub next-row-requires-clause-y_lt_side : goal.next-row-requires-clause-y_lt_side
next-row-requires-clause-y_lt_side c =
    let cube = c.args.cube in
    let i = c.loop-marks.invariant in
    let s = c.in-Some.ensures.steps.1 in
    rw c.from.ensures (i.1.y_in, z_in i.1 cube.whole cube.side_in.0 _ _ s.0 (s.1 ∙ i.0))

pub loop-marks-preserved : goal.loop-marks-preserved
loop-marks-preserved c =
    let cube = c.args.cube in
    let i = c.loop-marks.invariant in
    let s = c.in-Some.ensures.steps in (
      s.0 ∙ i.0,
      next i.1 cube.whole cube.side_in.0 _ _ s.1.0 (s.1.1 ∙ i.0) c.add_row.ensures.marks_are
          (rw c.from.ensures at c.next-row.ensures) c.add_row.ensures.table_after,
    )

pub returns : goal.returns
returns c =
    let i = c.loop-marks.invariant in
    done i.1 c.args.cube.whole (omega (arith, c.in-None.ensures.steps.1.0, i.0))
