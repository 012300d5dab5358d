-- What the machine starts from, and within which limits.
use Rattle.std.specs.Prelude.{◌≡◌, Bool, ℕ, ◌+◌, ◌-◌, ◌≤◌, ℤ, pos, length, get_or}
use Rattle.decide.specs.Some.{some_below}
use Rattle.drawing.specs.Object.{scale_of}
use Rattle.cubic.specs.Differences.{delta, differences_at}
use Rattle.cubic.specs.Axis.{start_of, long_of}
use Rattle.scan.specs.Column.{Below64, doubled_column}
use Rattle.scan.specs.Walker.{Strides, Walker}
use Rattle.curve.specs.declared.Curve.{Curve}
use Rattle.curve.specs.Curve.{curve_of}

-- What must hold before the step test can be asked: neither 13 nor 14 applies, at a side up to 64.
pub record InLimits (c : Curve) : Type 0 where
  pub count_least : 1 ≤ c.steps
  pub count_most : c.steps ≤ 512
  pub twelve : length c.points ≡ 12
  pub coordinates : Below64 c.points

-- Twice the exact values along one axis, by its number: through coordinate a of each point, three bytes apart.
abbrev pub doubled_along : Curve → (a : ℕ) → ℕ → ℤ
doubled_along c a = doubled_column c.points c.steps 3 a

-- The step from sample i along one axis is too long, by its difference.
abbrev pub long_at : Curve → (a i : ℕ) → Bool
long_at c a i = long_of (pos (scale_of (curve_of c))) (delta 1 (doubled_along c a) i)

-- Some step on one axis is too long, and some step on an axis from one number up to another, that one not included.
abbrev pub long_along : Curve → (a : ℕ) → Bool
long_along c a = some_below c.steps (long_at c a)

abbrev pub long_between : Curve → (from to : ℕ) → Bool
long_between c from to = some_below (to - from) (λ k. long_along c (from + k))

-- Sample 0 on three axes.
abbrev pub start_walker : Curve → Strides → Walker
start_walker c h = record {
  x = start_of h.x (pos (get_or c.points 0 0)) (differences_at (doubled_along c 0) 0);
  y = start_of h.y (pos (get_or c.points 1 0)) (differences_at (doubled_along c 1) 0);
  z = start_of h.z (pos (get_or c.points 2 0)) (differences_at (doubled_along c 2) 0);
}
