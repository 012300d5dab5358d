-- A row of the basis matrix times the control values: the coefficient of one power of the parameter.
use Rattle.std.specs.Prelude.{List, ℤ, pos, ◌+ℤ◌, ◌*ℤ◌, get_or}

unfoldable pub dot : (row : List ℤ) (q0 q1 q2 q3 : ℤ) → ℤ
dot row q0 q1 q2 q3 =
    get_or row 0 (pos 0) *ℤ q0 +ℤ get_or row 1 (pos 0) *ℤ q1 +ℤ get_or row 2 (pos 0) *ℤ q2 +ℤ get_or row 3 (pos 0) *ℤ q3
