-- What the machine starts from, and within which limits.
use Rattle.std.specs.Prelude.{◌≡◌, Bool, ℕ, ◌+◌, ◌*◌, ◌≤◌, ℤ, pos, length, get_or}
use Rattle.drawing.specs.Object.{scale_of}
use Rattle.cubic.specs.Blend as blend
use Rattle.cubic.specs.Blend.{twice}
use Rattle.surface.specs.Surface.{surface_of, long_steps}
use Rattle.scan.specs.Column.{Below64}
use Rattle.scan.specs.Walker.{Strides}
use Rattle.rows.specs.Lines.{Lines, start_line}
use Rattle.patch.specs.declared.Patch.{Patch}
use Rattle.patch.specs.Patch.{patch_of}

-- What must hold before the step test can be asked: neither 13 nor 14 applies, at a side up to 64.
pub record InLimits (p : Patch) : Type 0 where
  pub n_least : 1 ≤ p.n
  pub n_most : p.n ≤ 256
  pub m_least : 1 ≤ p.m
  pub m_most : p.m ≤ 256
  pub forty_eight : length p.points ≡ 48
  pub coordinates : Below64 p.points

-- Coordinate number a of point number k.
abbrev pub numbered : Patch → (a k : ℕ) → ℕ
numbered p a k = get_or p.points (3 * k + a) 0

-- Twice the exact value of sample (i, j) on the axis number a.
abbrev pub doubled_along : Patch → (a i j : ℕ) → ℤ
doubled_along p a = blend.patch p.n p.m (twice (numbered p a))

-- Some first difference on that axis is beyond 2N.
abbrev pub long_along : Patch → (a : ℕ) → Bool
long_along p a = long_steps (surface_of (doubled_along p a) 0) (pos (scale_of (patch_of p))) p.n p.m

-- Row 0 on three axes: the cell of point 0.
abbrev pub start_lines : Patch → Strides → Lines
start_lines p h = record {
  x = start_line h.x (pos (get_or p.points 0 0)) (surface_of (doubled_along p 0) 0);
  y = start_line h.y (pos (get_or p.points 1 0)) (surface_of (doubled_along p 1) 0);
  z = start_line h.z (pos (get_or p.points 2 0)) (surface_of (doubled_along p 2) 0);
}
