-- `add` meets its contract: the two words of the mark are added to, one after the other.
use Prim.Native.Nat.{◌+◌, ◌*◌, ◌%◌}
use Rattle.cube_totals.specs.Table.{two_to32}
use Rattle.cube_totals.proofs.Table.{both_words}
use Rattle.cube_totals.proofs.tally.add.Goals as goal

pub returns : goal.returns
returns c =
    let a = c.args in
    rw c.from.ensures
    (both_words a.table.now (4 * a.mark + 2 * (a.x % 2)) (1 + two_to32 * a.x) (a.row.y + two_to32 * a.row.z))
