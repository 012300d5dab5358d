-- `start_line` meets its contract: the walk along u starts in the cell of point 0.
use mathlib.Core.Path.{◌≡◌}
use Prim.Native.Nat.{ℕ, ◌≤◌, ◌<◌}
use native.Mathlib.Omega.{arith}
use lib.IntN.{ℤ, pos}
use lib.ListN.{get_or}
use Rattle.integers.proofs.Magnitude.{within_pos}
use Rattle.cubic.proofs.Fits.{read}
use Rattle.surface.specs.Surface.{Surface}
use Rattle.scan.proofs.Natural.{answer_read, stride_read}
use Rattle.rows.specs.declared.Line.{Line}
use Rattle.rows.specs.Lines.{start_line}
use Rattle.patch.specs.declared.Patch.{Patch}
use Rattle.patch.specs.Machine.{InLimits}
use Rattle.patch.proofs.samples.start_line.Goals as goal

-- With the stride, the point and the surface as the code holds them.
started : {g h p q : ℤ} {s t : Surface} {r : Line} → g ≡ h → p ≡ q → s ≡ t → r ≡ start_line g p s → r ≡ start_line h q t
started e f g q = rw (e, f, g) at q

-- A coordinate is below 64.
below : {p : Patch} {a : ℕ} → InLimits p → a < 3 → get_or p.points a 0 ≤ 63
below {a = a} l h = l.coordinates a (rw l.forty_eight (omega (arith, h)))

-- The coordinate, as it is read back.
point : {p : Patch} {a : ℕ} {r : ℤ} → InLimits p → a < 3 → r ≡ pos (get_or p.points a 0) → read r ≡ pos (get_or p.points a 0)
point l h e = answer_read e (omega (arith, below l h))

pub start-requires : goal.start-requires
start-requires c =
    let r = c.requires in
    rw (stride_read r.small_stride, point r.in_limits r.a_bound c.from.ensures)
    (record { stride = r.small_stride; point = within_pos (omega (arith, below r.in_limits r.a_bound)) })

pub returns : goal.returns
returns c =
    let r = c.requires in
    started (stride_read r.small_stride) (point r.in_limits r.a_bound c.from.ensures) c.start_surface.ensures c.start.ensures
