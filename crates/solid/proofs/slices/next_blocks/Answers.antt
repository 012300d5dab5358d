-- `next_blocks` meets its contract: the next slice on each axis, with the scale and the stride as the machine holds them.
use Rattle.std.proofs.Common.{rules, ◌≡◌, ℤ}
use lib.Dec.{lit<}
use Rattle.cube.specs.Cube.{x_axis, y_axis, z_axis}
use Rattle.cubic.proofs.Fits.{read, held}
use Rattle.scan.proofs.ThreeAxes.{same_axes}
use Rattle.solid.specs.declared.slices.Block.{Block}
use Rattle.solid.specs.Blocks.{BlockRoom, next_block}
use Rattle.solid.proofs.slices.next_blocks.Goals as goal

-- What is read back of the scale, in the closure and in the step, and of the stride.
module _ {N h : ℤ} {b : Block} (p : BlockRoom N h b) where
  block_read : BlockRoom (read (read N)) (read h) b
  block_read =
      let w = p.value.walk in
      rw ((held w.scale (lit< tt)).same, (held w.scale (lit< tt)).same, (held w.stride (lit< tt)).same) p

  next_read : {r : Block} → r ≡ next_block (read (read N)) (read h) b → r ≡ next_block N h b
  next_read e =
      let w = p.value.walk in
      rw ((held w.scale (lit< tt)).same, (held w.scale (lit< tt)).same, (held w.stride (lit< tt)).same) at e

pub with-requires : goal.with-requires
with-requires c =
    let x = c.requires.on x_axis in
    let y = c.requires.on y_axis in
    let z = c.requires.on z_axis in
    search block_read

pub returns : goal.returns
returns c =
    let p = c.requires in
    let e = c.with.ensures in
    same_axes (next_read (p.on x_axis) (search rules)) (next_read (p.on y_axis) (search rules))
    (next_read (p.on z_axis) (search rules))
