-- Rows by their differences, on one axis and on three: what the machine goes through, and within which limits.
use Rattle.std.specs.Prelude.{List, ◌++◌, ℕ, zero, suc, ◌≤◌, ◌<◌, ℤ}
use Rattle.cube.specs.Cube.{Axis}
use Rattle.cubic.specs.declared.axis.Axis as machine
use Rattle.cubic.specs.Differences.{next_of}
use Rattle.cubic.specs.Axis.{start_of, row_of, step_of}
use Rattle.cubic.specs.Room.{Room, Steps}
use Rattle.surface.specs.Surface.{Surface}
use Rattle.scan.specs.declared.xyz.Xyz.{Xyz}
use Rattle.scan.specs.Walker.{Strides, Walker, on, mapped, paired, stride_of, walkers, OnGrid}
use Rattle.rows.specs.declared.Line.{Line}

-- Row 0 of a surface on one axis, in the cell of point 0.
abbrev pub start_line : (stride point : ℤ) → Surface → Line
start_line stride point s =
    record { walk = start_of stride point s.value; d1 = s.d1; d2 = s.d2; d3 = s.d3 }

abbrev pub Lines : Type 0
Lines = Xyz Line

abbrev pub line_of : Lines → Axis → Line
line_of l a = on l a

-- There is room for the next row on one axis, and on three.
pub record LineRoom (scale stride : ℤ) (l : Line) : Type 0 where
  pub walk : Steps scale stride l.walk
  pub d1 : Room l.d1
  pub d2 : Room l.d2
  pub d3 : Room l.d3

pub record LinesRoom (scale : ℤ) (h : Strides) (l : Lines) : Type 0 where
  pub on : (a : Axis) → LineRoom scale (stride_of h a) (line_of l a)

-- The next row on one axis, and on three.
abbrev pub next_line : (scale stride : ℤ) → Line → Line
next_line scale stride l = record {
  walk = step_of scale stride l.walk;
  d1 = next_of l.d1;
  d2 = next_of l.d2;
  d3 = next_of l.d3;
}

abbrev pub next_lines : (scale : ℤ) (h : Strides) → Lines → Lines
next_lines scale h l = paired (next_line scale) h l

-- The row's first sample on one axis, and on three: the walk's cell and remainder, and the differences along t.
abbrev pub row_line : Line → machine.Axis
row_line l = row_of l.walk l.d1 l.d2 l.d3

abbrev pub row_walker : Lines → Walker
row_walker l = mapped row_line l

-- After j rows.
unfoldable pub lines_after : (scale : ℤ) (h : Strides) (l : Lines) (j : ℕ) → Lines
lines_after scale h l zero = l
lines_after scale h l (suc j) = next_lines scale h (lines_after scale h l j)

-- The walkers of row j, with n steps, and those of the rows 0 to j.
abbrev pub row_of_walkers : (n : ℕ) (scale : ℤ) (h : Strides) (l : Lines) (j : ℕ) → List Walker
row_of_walkers n scale h l j = walkers n scale h (row_walker (lines_after scale h l j))

unfoldable pub rows_of_walkers : (n j : ℕ) (scale : ℤ) (h : Strides) (l : Lines) → List Walker
rows_of_walkers n zero scale h l = row_of_walkers n scale h l zero
rows_of_walkers n (suc j) scale h l = rows_of_walkers n j scale h l ++ row_of_walkers n scale h l (suc j)

-- There is room for the rows 0 to m, and the place of each of their walkers is a byte of the grid.
pub record RowsOnGrid (n m : ℕ) (scale : ℤ) (h : Strides) (l : Lines) (gridLength : ℕ) : Type 0 where
  pub row : (j : ℕ) → j ≤ m → OnGrid n scale h (row_walker (lines_after scale h l j)) gridLength
  pub next : (j : ℕ) → j < m → LinesRoom scale h (lines_after scale h l j)
