-- `scale` meets its contract: 256³ × 256³ fits.
use mathlib.Core.Path.{sym, ◌∙◌, ap}
use Prim.Native.Nat.{◌*◌}
use native.Mathlib.Omega.{arith}
use lib.Dec.{lit<}
use lib.IntN.{pos}
use Rattle.cubic.proofs.Fits.{Holds, read, mul, mul_fits}
use Rattle.scan.proofs.Natural.{natural_held, cube_grows}
use Rattle.patch.specs.declared.Patch.{Patch}
use Rattle.patch.proofs.Along.{patch_scale}
use Rattle.patch.proofs.start.scale.Goals as goal
use Rattle.patch.proofs.start.scale.Goals.{After-cubed-2}

pub cubed-requires : goal.cubed-requires
cubed-requires c = omega (arith, c.requires.n_most)

pub cubed-requires-2 : goal.cubed-requires-2
cubed-requires-2 c = omega (arith, c.requires.m_most)

module _ (c : After-cubed-2) where
  abbrev p : Patch
  p = c.args.patch

  n_cubed : Holds 16777216 (pos (p.n * p.n * p.n)) (read c.cubed.result)
  n_cubed =
      natural_held {k = p.n * p.n * p.n} c.cubed.ensures (cube_grows c.requires.n_most) (lit< tt)

  m_cubed : Holds 16777216 (pos (p.m * p.m * p.m)) (read c.cubed-2.result)
  m_cubed =
      natural_held {k = p.m * p.m * p.m} c.cubed-2.ensures (cube_grows c.requires.m_most) (lit< tt)

pub overflow_mul-result : goal.overflow_mul-result
overflow_mul-result c = mul_fits (n_cubed c) (m_cubed c) (lit< tt)

pub returns : goal.returns
returns c = (mul (n_cubed c) (m_cubed c) (lit< tt)).same ∙ ap pos (sym (patch_scale (p c)))
