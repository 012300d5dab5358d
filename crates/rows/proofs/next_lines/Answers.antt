-- `next_lines` meets its contract: the next row on each axis, with the scale and the stride as the machine holds them.
use Rattle.std.proofs.Common.{rules, ◌≡◌, ℤ}
use lib.Dec.{lit<}
use Rattle.cube.specs.Cube.{x_axis, y_axis, z_axis}
use Rattle.cubic.proofs.Fits.{read, held}
use Rattle.scan.proofs.ThreeAxes.{same_axes}
use Rattle.rows.specs.declared.Line.{Line}
use Rattle.rows.specs.Lines.{LineRoom, next_line}
use Rattle.rows.proofs.next_lines.Goals as goal

-- What is read back of the scale, in the closure and in the step, and of the stride.
module _ {N h : ℤ} {l : Line} (p : LineRoom N h l) where
  line_read : LineRoom (read (read N)) (read h) l
  line_read = rw ((held p.walk.scale (lit< tt)).same, (held p.walk.scale (lit< tt)).same, (held p.walk.stride (lit< tt)).same) p

  next_read : {r : Line} → r ≡ next_line (read (read N)) (read h) l → r ≡ next_line N h l
  next_read e = rw ((held p.walk.scale (lit< tt)).same, (held p.walk.scale (lit< tt)).same, (held p.walk.stride (lit< tt)).same) at e

pub with-requires : goal.with-requires
with-requires c =
    let x = c.requires.on x_axis in
    let y = c.requires.on y_axis in
    let z = c.requires.on z_axis in
    search line_read

pub returns : goal.returns
returns c =
    let p = c.requires in
    let e = c.with.ensures in
    same_axes (next_read (p.on x_axis) (search rules)) (next_read (p.on y_axis) (search rules))
    (next_read (p.on z_axis) (search rules))
