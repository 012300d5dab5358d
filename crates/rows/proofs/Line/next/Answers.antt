-- `Line::next` meets its contract: a step along u, and equation 8 on each of the three cubics.
use mir.Facts.{to_z-of_z}
use Rattle.rows.proofs.Line.next.Goals as goal

pub returns : goal.returns
returns c =
    rw (
      rw (to_z-of_z c.ranges.scale, to_z-of_z c.ranges.stride) at c.step.ensures,
      c.next.ensures,
      c.next-2.ensures,
      c.next-3.ensures,
    )
