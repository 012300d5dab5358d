-- Document 02, A.5: "where three times the largest gap between consecutive points, on every axis, is at most n". A curve
-- has four points, so there are three gaps on an axis and nine in all.
use Rattle.std.specs.Prelude.{Bool, List, ℕ, suc, ◌+◌, ◌-◌, ◌*◌, max, leb}
use Rattle.cube.specs.Cube.{Axis, x_axis, y_axis, z_axis}
use Rattle.drawing.specs.Object.{coordinate}

-- The gap between two coordinates: their distance. One of the two differences is 0.
unfoldable pub gap : (g h : ℕ) → ℕ
gap g h = (g - h) + (h - g)

module _ (points : List ℕ) where
  -- The gap between points k and k + 1 on an axis.
  unfoldable pub gap_after : Axis → (k : ℕ) → ℕ
  gap_after a k = gap (coordinate points a k) (coordinate points a (suc k))

  -- The largest of the three on an axis.
  unfoldable pub gap_along : Axis → ℕ
  gap_along a = max (gap_after a 0) (max (gap_after a 1) (gap_after a 2))

  -- The largest on every axis.
  unfoldable pub largest_gap : ℕ
  largest_gap = max (gap_along x_axis) (max (gap_along y_axis) (gap_along z_axis))

  -- The distance from the first point to the last on an axis, and the largest such distance. No count below it can be
  -- accepted (document 02, A.6).
  unfoldable pub ends_along : Axis → ℕ
  ends_along a = gap (coordinate points a 0) (coordinate points a 3)

  unfoldable pub ends_apart : ℕ
  ends_apart = max (ends_along x_axis) (max (ends_along y_axis) (ends_along z_axis))

  -- The test of a curve with n steps quits: it accepts without walking.
  unfoldable pub quits : (n : ℕ) → Bool
  quits n = leb (3 * largest_gap) n
