-- `put_cell` meets its contract: the three bytes are written one after another.
use mathlib.Core.Path.{◌≡◌}
use Prim.Native.Nat.{ℕ, suc, ◌+◌}
use native.Mathlib.Nat.{le_of_lt}
use native.Mathlib.Omega.{arith}
use lib.Dec.{T, lit<}
use lib.IntN.{ℤ, nat_abs}
use lib.Signed.{non_neg}
use mir.Syntax.{w8}
use mir.Val.{Fits}
use Rattle.integers.proofs.Magnitude.{within_pos}
use Rattle.cube.specs.Cube.{x_axis, y_axis, z_axis}
use Rattle.cubic.proofs.Fits.{read, held}
use Rattle.scan.specs.Walker.{Walker, IsByte, ByteCell, cell_of_walker}
use Rattle.scan.proofs.list.put_cell.Goals as goal

module _ {z : ℤ} (p : IsByte z) where
  -- What is read back of a byte.
  byte_read : read z ≡ z
  byte_read = (held {M = 256} {z = z} (rw p.is (within_pos (le_of_lt p.small))) (lit< tt)).same

  -- The cast loses nothing.
  cast : T (non_neg (read z)) × Fits w8 (nat_abs (read z))
  cast = rw (byte_read, p.is) (tt, record { fits = p.small })

-- Each coordinate. A search reads them one by one, so that any of the three may be written at any byte.
each : {w : Walker} → ByteCell w → IsByte w.x.at × IsByte w.y.at × IsByte w.z.at
each b = (b x_axis, b y_axis, b z_axis)

pub overflow_cast-list : goal.overflow_cast-list
overflow_cast-list c = let p = each c.requires.byte_cell in search cast

pub overflow_cast-list-2 : goal.overflow_cast-list-2
overflow_cast-list-2 c = let p = each c.requires.byte_cell in search cast

pub overflow_cast-list-3 : goal.overflow_cast-list-3
overflow_cast-list-3 c = let p = each c.requires.byte_cell in search cast

pub returns : goal.returns
unfolding cell_of_walker
returns c =
    let p = c.requires.byte_cell in
    let one : c.args.at + 1 ≡ suc c.args.at = omega arith in
    let two : c.args.at + 2 ≡ suc (suc c.args.at) = omega arith in
    rw (one, two, byte_read (p x_axis), byte_read (p y_axis), byte_read (p z_axis))
