-- `start_axis` meets its contract: a coordinate below 64 times a small stride leaves room.
use mathlib.Core.Path.{◌≡◌}
use Prim.Native.Nat.{ℕ, ◌<◌}
use native.Mathlib.Omega.{arith}
use lib.IntN.{ℤ, pos}
use lib.ListN.{get_or}
use Rattle.integers.proofs.Magnitude.{within_pos}
use Rattle.cubic.proofs.Fits.{read}
use Rattle.scan.proofs.Natural.{answer_read, stride_read}
use Rattle.curve.specs.declared.Curve.{Curve}
use Rattle.curve.specs.Machine.{InLimits}
use Rattle.curve.proofs.samples.start_axis.Goals as goal

module _ (curve : Curve) (l : InLimits curve) (a : ℕ) (h : a < 3) where
  below : get_or curve.points a 0 < 64
  below = omega (arith, l.coordinates a (rw l.twelve (omega arith)))

  -- The coordinate, as it is read back.
  point : {r : ℤ} → r ≡ pos (get_or curve.points a 0) → read r ≡ pos (get_or curve.points a 0)
  point e = answer_read e (omega (arith, below))

pub start-requires : goal.start-requires
start-requires c =
    let q = c.requires in
    rw (stride_read q.small_stride, point c.args.curve q.in_limits c.args.a q.a_bound c.from.ensures)
    (record {
      stride = q.small_stride;
      point = within_pos (omega (arith, below c.args.curve q.in_limits c.args.a q.a_bound));
    })

pub returns : goal.returns
returns c =
    let q = c.requires in
    rw (stride_read q.small_stride, point c.args.curve q.in_limits c.args.a q.a_bound c.from.ensures, c.cubic_along.ensures)
    at c.start.ensures
