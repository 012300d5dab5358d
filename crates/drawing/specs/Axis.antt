-- The program's axes are the cube's.
use Rattle.cube.specs.Cube.{Axis, x_axis, y_axis, z_axis}
use Rattle.drawing.specs.declared.Axis as program
use Rattle.drawing.specs.declared.Axis.TheVariants.{X, Y, Z}

abbrev pub axis_of : program.Axis → Axis
axis_of X = x_axis
axis_of Y = y_axis
axis_of Z = z_axis
