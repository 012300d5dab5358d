-- `start_block` meets its contract: the walk along v starts in the cell of point 0.
use mathlib.Core.Path.{◌≡◌}
use mathlib.Core.List.{List}
use Prim.Native.Nat.{ℕ, ◌≤◌, ◌<◌}
use native.Mathlib.Omega.{arith}
use lib.IntN.{ℤ, pos}
use lib.ListN.{get_or}
use Rattle.integers.proofs.Magnitude.{within_pos}
use Rattle.cubic.proofs.Fits.{read}
use Rattle.surface.specs.Volume.{Volume}
use Rattle.scan.proofs.Natural.{answer_read, stride_read}
use Rattle.rows.specs.declared.Line.{Line}
use Rattle.rows.specs.Lines.{start_line}
use Rattle.solid.specs.declared.slices.Block.{Block}
use Rattle.solid.specs.Blocks.{start_block}
use Rattle.solid.specs.Machine.{InLimits}
use Rattle.solid.proofs.slices.start_block.Goals as goal

-- With the stride, the point and the volume as the code holds them.
started : {g h p q : ℤ} {v w : Volume} {r : Line} → g ≡ h → p ≡ q → v ≡ w → r ≡ start_line g p v.value →
    ◌≡◌ {A = Block} (record { value = r; d1 = v.d1; d2 = v.d2; d3 = v.d3 }) (start_block h q w)
started e f g k = rw (k, e, f, g)

-- The coordinate, as it is read back, is below 64.
module _ {points : List ℕ} {n m l : ℕ} (q : InLimits points n m l) {a : ℕ} (h : a < 3) where
  below : get_or points a 0 ≤ 63
  below = q.coordinates a (rw q.all_points (omega arith))

  point_read : {r : ℤ} → r ≡ pos (get_or points a 0) → read r ≡ pos (get_or points a 0)
  point_read e = answer_read e (omega (arith, below))

pub start-requires : goal.start-requires
start-requires c =
    let r = c.requires in
    rw (stride_read r.small_stride, point_read r.in_limits r.a_bound c.from.ensures)
    (record { stride = r.small_stride; point = within_pos (omega (arith, below r.in_limits r.a_bound)) })

pub returns : goal.returns
returns c =
    let r = c.requires in
    started (stride_read r.small_stride) (point_read r.in_limits r.a_bound c.from.ensures)
    c.start_volume-v.ensures c.start.ensures
