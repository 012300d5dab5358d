-- `Block::next` meets its contract: the next row along v, and the next row of each of the three surfaces.
use mir.Facts.{to_z-of_z}
use Rattle.solid.proofs.slices.Block.next.Goals as goal

pub returns : goal.returns
returns c =
    rw (
      rw (to_z-of_z c.ranges.scale, to_z-of_z c.ranges.stride) at c.next.ensures,
      c.next-2.ensures,
      c.next-3.ensures,
      c.next-4.ensures,
    )
