-- `put_totals` meets its contract: before a mark's turn the lines of the marks below it are written.
use mathlib.Core.Path.{◌≡◌, ◌∙◌}
use Prim.Native.Nat.{◌+◌, ◌-◌, ◌<◌}
use native.Mathlib.Omega.{arith}
use Rattle.sheet.specs.Line.{in_line}
use Rattle.sheet.proofs.Printed.{length_in_line}
use Rattle.sheet_text.proofs.Puts.{puts_none, puts_part}
use Rattle.totals.specs.Totals.{numbers, held_from, mark_lines}
use Rattle.cube_totals.proofs.Table.{table_below}
use Rattle.cube_totals.proofs.Lines.{line_is, held_counts, not_held_counts, all_lines}
use Rattle.cube_totals.proofs.put_totals.Invariants.{held, not_held}
use Rattle.cube_totals.proofs.put_totals.Goals as goal
use Rattle.cube_totals.proofs.put_totals.Goals.{then-held-ne0, else-held-ne0}

pub loop-mark-init : goal.loop-mark-init
unfolding mark_lines held_from
loop-mark-init c = record { below = 0; is = omega arith; puts = puts_none _; most = omega arith }

-- The numbers of the table are small.
pub total_of-held-requires-clause-below : goal.total_of-held-requires-clause-below
total_of-held-requires-clause-below c =
    let cube = c.args.cube in table_below cube.side cube.bytes.now cube.side_in.1 (omega (arith, cube.whole)) c.tally-table.ensures

pub loop-mark-preserved : goal.loop-mark-preserved
loop-mark-preserved c =
    let i = c.loop-mark.invariant in
    let m = c.loop-mark.mark in
    let least : m < 256 = omega arith in
    let most = c.args.cube.side_in.1 in
    let size = c.args.cube.whole in
    let t = c.tally-table.ensures in
    let is = c.total_of-held.ensures in
    elim c.if-held-ne0.branch [
      | then-held-ne0 w ↦
          rw (w.text-is, w.bytes-is)
          (held i (omega arith) (held_counts t most size m least is w.if-held-ne0.true)
          (w.put_line.ensures ∙ line_is t most size m least is))
      | else-held-ne0 w ↦ rw (w.text-is, w.bytes-is) (not_held i (not_held_counts t most size m least is w.if-held-ne0.false))
    ]

pub total_of-requires-clause-below : goal.total_of-requires-clause-below
total_of-requires-clause-below c =
    let cube = c.args.cube in table_below cube.side cube.bytes.now cube.side_in.1 (omega (arith, cube.whole)) c.tally-table.ensures

pub returns : goal.returns
returns c =
    let cube = c.args.cube in
    let i = c.loop-mark.invariant in
    let all : i.below ≡ 255 = omega (arith, i.is) in
    let last : c.put_line-2.new.line ≡ in_line 10 (numbers cube.side cube.bytes.now 0) =
    c.put_line-2.ensures ∙ line_is c.tally-table.ensures cube.side_in.1 cube.whole 0 (omega arith) c.total_of.ensures in
    let one : c.loop-mark.bytes + 51 - c.loop-mark.bytes ≡ 51 = omega arith in
    rw (← all_lines cube.side _, last, one) (puts_part (rw all at i.puts) _ 51 (length_in_line 10 _))
