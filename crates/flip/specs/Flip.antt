-- Document 02, A.7: "a curve with its four points in reverse order", and "a patch with i and j exchanged, n and m exchanged".
use Rattle.std.specs.Prelude.{Bool, List, [], ◌∷◌, ℕ, ◌+◌, ◌*◌, ltb, length}
use Rattle.cube.specs.Cube.{x_axis, y_axis, z_axis}
use Rattle.drawing.specs.Object.{coordinate}
use Rattle.curve.specs.declared.Curve.{Curve}
use Rattle.patch.specs.declared.Patch.{Patch}

-- The points with these numbers, in turn, x, y, z of each.
unfoldable pub points_at : (points numbers : List ℕ) → List ℕ
points_at points [] = []
points_at points (k ∷ ks) =
    coordinate points x_axis k ∷ coordinate points y_axis k ∷ coordinate points z_axis k ∷ points_at points ks

-- There is no point with this number: one of its coordinates would stand past the end.
unfoldable pub no_point : (points : List ℕ) (number : ℕ) → Bool
no_point points k = ltb (length points) (3 * k + 3)

-- The numbers of four points in reverse order.
abbrev pub reversed_numbers : List ℕ
reversed_numbers = 3 ∷ 2 ∷ 1 ∷ 0 ∷ []

-- The numbers of sixteen points with i and j exchanged: in the place of g(i, j), which is 4 × i + j, stands the number of
-- g(j, i), which is 4 × j + i. The matrix of the points is transposed.
abbrev pub transposed_numbers : List ℕ
transposed_numbers =
    0 ∷ 4 ∷ 8 ∷ 12 ∷
    1 ∷ 5 ∷ 9 ∷ 13 ∷
    2 ∷ 6 ∷ 10 ∷ 14 ∷
    3 ∷ 7 ∷ 11 ∷ 15 ∷
    []

-- A curve's points in reverse order.
unfoldable pub reversed : (points : List ℕ) → List ℕ
reversed points = points_at points reversed_numbers

-- A patch's points with i and j exchanged.
unfoldable pub exchanged : (points : List ℕ) → List ℕ
exchanged points = points_at points transposed_numbers

-- The flip of a curve record: n, mark and choice as they are.
abbrev pub flipped_curve : Curve → Curve
flipped_curve c = record { mark = c.mark; choice = c.choice; steps = c.steps; points = reversed c.points }

-- The flip of a patch record: n and m exchanged too, mark and choice as they are.
abbrev pub flipped_patch : Patch → Patch
flipped_patch p = record { points = exchanged p.points; n = p.m; m = p.n; mark = p.mark; choice = p.choice }
