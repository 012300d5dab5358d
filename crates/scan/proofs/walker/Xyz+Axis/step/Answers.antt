-- `step` meets its contract: a step on each axis, with the scale and the stride as the machine holds them.
use Rattle.std.proofs.Common.{rules, ◌≡◌, ℤ}
use lib.Dec.{lit<}
use Rattle.cube.specs.Cube.{x_axis, y_axis, z_axis}
use Rattle.cubic.specs.declared.axis.Axis.{Axis}
use Rattle.cubic.specs.Axis.{step_of}
use Rattle.cubic.specs.Room.{Steps}
use Rattle.cubic.proofs.Fits.{read, held}
use Rattle.scan.specs.Walker.{Strides, Walker, StepsAll}
use Rattle.scan.proofs.ThreeAxes.{same_axes}
use Rattle.scan.proofs.walker.Xyz+Axis.step.Goals as goal

-- What is read back of the scale, in the closure and in the step, and of the stride.
module _ {N h : ℤ} {a : Axis} (p : Steps N h a) where
  steps_read : Steps (read (read N)) (read h) a
  steps_read = rw ((held p.scale (lit< tt)).same, (held p.scale (lit< tt)).same, (held p.stride (lit< tt)).same) p

  step_read : {r : Axis} → r ≡ step_of (read (read N)) (read h) a → r ≡ step_of N h a
  step_read e = rw ((held p.scale (lit< tt)).same, (held p.scale (lit< tt)).same, (held p.stride (lit< tt)).same) at e

-- Room on each axis. A search reads the fields one by one, so that any stride of the three goes with any axis.
room : {N : ℤ} {h : Strides} {w : Walker} → StepsAll N h w →
    Steps N h.x w.x × Steps N h.y w.y × Steps N h.z w.z
room p = (p.on x_axis, p.on y_axis, p.on z_axis)

pub with-requires : goal.with-requires
with-requires c = let p = room c.requires in search steps_read

pub returns : goal.returns
returns c =
    let p = room c.requires in
    let e = c.with.ensures in
    same_axes (step_read p.0 (search rules)) (step_read p.1 (search rules)) (step_read p.2 (search rules))
