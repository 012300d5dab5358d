-- The surface through sixteen coordinates of the points, four columns of four: what the machine starts from, and within which
-- limits.
use Rattle.std.specs.Prelude.{List, ℕ, ◌+◌, ◌*◌, ◌≤◌, ◌<◌, ℤ, pos, length}
use Rattle.cubic.specs.Blend.{surface}
use Rattle.scan.specs.Column.{doubled_column, Below64}

-- Twice the exact values over t and u, through the columns at byte `at` and at three more bytes, each `across` bytes on. In a
-- column each coordinate is `apart` bytes on.
abbrev pub doubled_face : (points : List ℕ) (n m apart across at : ℕ) (i j : ℕ) → ℤ
doubled_face points n m apart across at =
    surface (pos m)
    (doubled_column points n apart at) (doubled_column points n apart (across + at))
    (doubled_column points n apart (2 * across + at)) (doubled_column points n apart (3 * across + at))

-- The sixteen coordinates are there, and neither 13 nor 14 refuses them.
pub record InFace (points : List ℕ) (n m apart across at : ℕ) : Type 0 where
  pub n_most : n ≤ 256
  pub m_most : m ≤ 256
  pub there : 3 * apart + (3 * across + at) < length points
  pub coordinates : Below64 points
