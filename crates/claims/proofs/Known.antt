-- K1 to K12 hold: one claim, computed from the definitions.
use lib.Dec.{T}
use Rattle.bezier.specs.Exact.{blend, scale, points, value}
use Rattle.decide.specs.Some.{some_below, some_of}
use Rattle.decide.specs.Same.{same_bytes}
use Rattle.decide.specs.Refusal.{first_that}
use Rattle.rounding.specs.Nearest.{nearest}
use Rattle.neighbours.specs.Steps.{far_apart, some_sample, too_long}
use Rattle.cube.specs.Cube.{some_axis, side_out}
use Rattle.drawing.specs.Object.{offset, coordinate, exact, cell_of}
use Rattle.drawing.specs.Refusals.{count_out, coordinate_out, steps_too_long, order, draw_verdict}
use Rattle.drawing.specs.Drawing.{row, bytes}
use Rattle.claims.specs.Known.{known, holds, all_hold}

pub known_hold : T (all_hold known)
unfolding blend scale points value some_below some_of first_that nearest far_apart some_sample too_long
    some_axis side_out offset coordinate exact cell_of count_out coordinate_out steps_too_long order draw_verdict row bytes same_bytes
    holds all_hold
known_hold = tt
