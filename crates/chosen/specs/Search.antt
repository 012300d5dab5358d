-- What the search asks for and what it finds on the way.
use Rattle.std.specs.Prelude.{◌≡◌, true, false, List, [], ◌∷◌, ℕ, ◌+◌, ◌*◌, ◌≤◌, ◌<◌, max, length, get_or}
use Rattle.cube.specs.Cube.{Axis, x_axis, y_axis, z_axis}
use Rattle.drawing.specs.Object.{offset}
use Rattle.gaps.specs.Gaps.{largest_gap}
use Rattle.scan.specs.Column.{Below64}
use Rattle.curve.specs.declared.Curve.{Curve}
use Rattle.curve.specs.Machine.{long_along}
use Rattle.chosen.specs.Chosen.{refuses_count}

-- Four points that 14 does not refuse at a side up to 64.
pub record InCube (c : Curve) : Type 0 where
  pub twelve : length c.points ≡ 12
  pub coordinates : Below64 c.points

-- The same curve with another count.
abbrev pub with_steps : Curve → ℕ → Curve
with_steps c n = record { mark = c.mark; choice = c.choice; steps = n; points = c.points }

-- A count that is always accepted: three times the largest gap, or 1 if all points agree.
abbrev pub enough : (points : List ℕ) → ℕ
enough points = max 1 (3 * largest_gap points)

-- One axis alone: its coordinates stand on x, and the others are 0.
abbrev pub alone_of : Curve → Axis → Curve
alone_of c a =
    let g : ℕ → ℕ = λ k. get_or c.points (k + offset a) 0 in
    record {
      mark = c.mark;
      choice = c.choice;
      steps = c.steps;
      points = get_or c.points (offset a) 0 ∷ 0 ∷ 0 ∷ g 3 ∷ 0 ∷ 0 ∷ g 6 ∷ 0 ∷ 0 ∷ g 9 ∷ 0 ∷ 0 ∷ [];
    }

-- From one count up to another: each before it is refused, and one axis accepts it.
pub record Climbed (c : Curve) (a : Axis) (from to : ℕ) : Type 0 where
  pub least : from ≤ to
  pub most : to ≤ enough c.points
  pub refused : (n : ℕ) → from ≤ n → n < to → refuses_count c.points n ≡ true
  pub accepts : long_along (with_steps c to) (offset a) ≡ false

-- The axis after one, and the axis before one: x comes after z.
abbrev pub next_axis : Axis → Axis
next_axis x_axis = y_axis
next_axis y_axis = z_axis
next_axis z_axis = x_axis

abbrev pub axis_before : Axis → Axis
axis_before x_axis = z_axis
axis_before y_axis = x_axis
axis_before z_axis = y_axis

-- The last axes asked, so many of them, accept a count, where a is the next to be asked.
pub record Agreed (c : Curve) (n : ℕ) (a : Axis) (so_many : ℕ) : Type 0 where
  pub last : 1 ≤ so_many → long_along (with_steps c n) (offset (axis_before a)) ≡ false
  pub last_but_one : 2 ≤ so_many → long_along (with_steps c n) (offset (axis_before (axis_before a))) ≡ false
