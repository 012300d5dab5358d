-- The cubic through four coordinates of the points: what the machine starts from, and within which limits.
use Rattle.std.specs.Prelude.{List, ℕ, ◌+◌, ◌*◌, ◌≤◌, ◌<◌, ℤ, pos, length, get_or}
use Rattle.cubic.specs.Blend.{samples, column, twice}

-- Twice the exact values along the first parameter, through the coordinate at byte `at` and three more, each `apart` bytes
-- on.
abbrev pub doubled_column : (points : List ℕ) (n apart at : ℕ) → ℕ → ℤ
doubled_column points n apart at = column (pos n) (twice (λ b. get_or points b 0)) apart at

-- The same through the coordinates at any four bytes.
abbrev pub doubled_through : (points : List ℕ) (n b0 b1 b2 b3 : ℕ) → ℕ → ℤ
doubled_through points n b0 b1 b2 b3 =
    let q : ℕ → ℤ = twice (λ b. get_or points b 0) in
    samples (pos n) (q b0) (q b1) (q b2) (q b3)

-- Coordinates that 14 does not refuse at a side up to 64.
abbrev pub Below64 : List ℕ → Type 0
Below64 points = (b : ℕ) → b < length points → get_or points b 0 ≤ 63

-- The four coordinates are there, and neither 13 nor 14 refuses them.
pub record InColumn (points : List ℕ) (n apart at : ℕ) : Type 0 where
  pub count : n ≤ 512
  pub there : 3 * apart + at < length points
  pub coordinates : Below64 points

pub record AtBytes (points : List ℕ) (n b0 b1 b2 b3 : ℕ) : Type 0 where
  pub count : n ≤ 512
  pub there : (b0 < length points) × (b1 < length points) × (b2 < length points) × (b3 < length points)
  pub coordinates : Below64 points
