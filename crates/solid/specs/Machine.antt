-- What the machine starts from, of points and counts, and within which limits.
use Rattle.std.specs.Prelude.{◌≡◌, Bool, List, [], ◌∷◌, ℕ, ◌+◌, ◌*◌, ◌≤◌, ℤ, pos, length, get_or}
use Rattle.bezier.specs.Exact.{scale}
use Rattle.cubic.specs.Blend.{face, volume, twice}
use Rattle.surface.specs.Volume.{volume_of, long_volume_steps}
use Rattle.scan.specs.Column.{Below64}
use Rattle.scan.specs.Walker.{Strides}
use Rattle.solid.specs.Blocks.{Blocks, start_block}

-- What must hold before the step test can be asked: neither 13 nor 14 applies, at a side up to 64.
pub record InLimits (points : List ℕ) (n m l : ℕ) : Type 0 where
  pub n_least : 1 ≤ n
  pub n_most : n ≤ 32
  pub m_least : 1 ≤ m
  pub m_most : m ≤ 32
  pub l_least : 1 ≤ l
  pub l_most : l ≤ 32
  pub all_points : length points ≡ 192
  pub coordinates : Below64 points

-- Coordinate number a of point number p.
abbrev pub numbered : (points : List ℕ) (a p : ℕ) → ℕ
numbered points a p = get_or points (3 * p + a) 0

-- Twice the exact values on the axis number a: of the face through the points with one k, and of sample (i, j, k).
abbrev pub face_along : (points : List ℕ) (n m a k i j : ℕ) → ℤ
face_along points n m a = face n m (twice (numbered points a))

abbrev pub doubled_along : (points : List ℕ) (n m l a i j k : ℕ) → ℤ
doubled_along points n m l a = volume n m l (twice (numbered points a))

-- Some first difference on that axis is beyond 2N.
abbrev pub long_along : (points : List ℕ) (n m l a : ℕ) → Bool
long_along points n m l a =
    long_volume_steps (volume_of (doubled_along points n m l a) 0) (pos (scale (n ∷ m ∷ l ∷ []))) n m l

-- Slice 0 on three axes: the cell of point 0.
abbrev pub start_blocks : (points : List ℕ) (n m l : ℕ) → Strides → Blocks
start_blocks points n m l h = record {
  x = start_block h.x (pos (get_or points 0 0)) (volume_of (doubled_along points n m l 0) 0);
  y = start_block h.y (pos (get_or points 1 0)) (volume_of (doubled_along points n m l 1) 0);
  z = start_block h.z (pos (get_or points 2 0)) (volume_of (doubled_along points n m l 2) 0);
}
