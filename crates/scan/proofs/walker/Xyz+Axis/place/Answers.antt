-- `place` meets its contract: the sum of three natural numbers below 2^60 fits, and is not negative.
use mathlib.Core.Path.{◌≡◌, ap}
use Prim.Native.Nat.{◌+◌, ◌^◌}
use native.Mathlib.Nat.{le_of_lt}
use native.Mathlib.Omega.{arith}
use lib.Dec.{T, lit<}
use lib.IntN.{ℤ, pos, nat_abs, ◌+ℤ◌}
use lib.Signed.{non_neg}
use mir.Syntax.{w64}
use mir.Val.{Fits}
use Rattle.integers.proofs.Magnitude.{within_pos}
use Rattle.cube.specs.Cube.{x_axis, y_axis, z_axis, Axis}
use Rattle.scan.specs.Walker.{Walker, axis_of, HasPlace, place_of}
use Rattle.cubic.proofs.Fits.{Holds, read, held, add, add_fits}
use Rattle.scan.proofs.walker.Xyz+Axis.place.Goals as goal

module _ {w : Walker} (p : HasPlace w) where
  position : (a : Axis) → Holds (2 ^ 60) (axis_of w a).at (read (axis_of w a).at)
  position a = held (rw (p.is a) (within_pos (le_of_lt (p.small a)))) (lit< tt)

  pair : Holds (2 ^ 60 + 2 ^ 60) (w.x.at +ℤ w.y.at) (read (read w.x.at +ℤ read w.y.at))
  pair = add (position x_axis) (position y_axis) (lit< tt)

  total : Holds (2 ^ 60 + 2 ^ 60 + 2 ^ 60) (w.x.at +ℤ w.y.at +ℤ w.z.at)
      (read (read (read w.x.at +ℤ read w.y.at) +ℤ read w.z.at))
  total = add pair (position z_axis) (lit< tt)

  natural : w.x.at +ℤ w.y.at +ℤ w.z.at ≡ pos (p.position x_axis + p.position y_axis + p.position z_axis)
  natural = rw (p.is x_axis, p.is y_axis, p.is z_axis)

  cast : (r : ℤ) → r ≡ w.x.at +ℤ w.y.at +ℤ w.z.at → T (non_neg r) × Fits w64 (nat_abs r)
  cast r e =
      rw (e, natural)
      (tt, record { fits = omega (arith, p.small x_axis, p.small y_axis, p.small z_axis) })

pub overflow_add-result : goal.overflow_add-result
overflow_add-result c =
    let p = c.requires in
    add_fits (position p x_axis) (position p y_axis) (lit< tt)

pub overflow_add-result-2 : goal.overflow_add-result-2
overflow_add-result-2 c =
    let p = c.requires in
    add_fits (pair p) (position p z_axis) (lit< tt)

pub overflow_cast-result : goal.overflow_cast-result
overflow_cast-result c =
    let p = c.requires in
    cast p _ (total p).same

pub returns : goal.returns
unfolding place_of
returns c =
    let p = c.requires in
    ap nat_abs (total p).same
