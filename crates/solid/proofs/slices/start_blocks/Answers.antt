-- `start_blocks` meets its contract: slice 0 on each axis.
use Rattle.std.proofs.Common.{rules}
use Rattle.cube.specs.Cube.{x_axis, y_axis, z_axis}
use Rattle.scan.proofs.Natural.{small_read}
use Rattle.solid.proofs.slices.start_blocks.Goals as goal

pub with-requires : goal.with-requires
with-requires c =
    let x = small_read (c.requires.small_strides.on x_axis) in
    let y = small_read (c.requires.small_strides.on y_axis) in
    let z = small_read (c.requires.small_strides.on z_axis) in
    search rules
