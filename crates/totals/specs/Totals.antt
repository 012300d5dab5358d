-- Document 02, A.2: of every mark that some cell holds, the count of its cells and the sums of their x, y and z. (In the
-- terms of the field: the zeroth and the first moments of a label.)
use Rattle.std.specs.Prelude.{Bool, cond, List, [], ◌∷◌, ◌++◌, ℕ, zero, suc, ◌+◌, eqb}
use Rattle.decide.specs.Some.{some_of}
use Rattle.cube.specs.Cube.{Axis, x_axis, y_axis, z_axis, cell_at}
use Rattle.sheet.specs.Line.{in_line}

-- A number f of each byte's place, summed over the bytes from byte p on that are the mark.
unfoldable pub sum_over : (f : ℕ → ℕ) (mark p : ℕ) (cube : List ℕ) → ℕ
sum_over f mark p [] = 0
sum_over f mark p (b ∷ cube) = cond (eqb b mark) (f p) 0 + sum_over f mark (suc p) cube

-- The count of the cells that hold a mark.
abbrev pub count : (cube : List ℕ) (mark : ℕ) → ℕ
count cube mark = sum_over (λ p. 1) mark 0 cube

-- The sum of their coordinates on an axis.
abbrev pub sum : (S : ℕ) (a : Axis) (cube : List ℕ) (mark : ℕ) → ℕ
sum S a cube mark = sum_over (λ p. cell_at S p a) mark 0 cube

-- The mark, the count of its cells, and the sums of their x, y and z.
abbrev pub numbers : (S : ℕ) (cube : List ℕ) (mark : ℕ) → List ℕ
numbers S cube mark =
    mark ∷ count cube mark ∷ sum S x_axis cube mark ∷ sum S y_axis cube mark ∷ sum S z_axis cube mark ∷ []

-- Some cell holds the mark.
abbrev pub is_held : (cube : List ℕ) (mark : ℕ) → Bool
is_held cube mark = some_of (λ b. eqb b mark) cube

-- Of so many marks from one on, those that some cell holds, in rising order.
unfoldable pub held_from : (mark many : ℕ) (cube : List ℕ) → List ℕ
held_from mark zero cube = []
held_from mark (suc k) cube = cond (is_held cube mark) (mark ∷ []) [] ++ held_from (suc mark) k cube

-- The marks that have a line: of those from 1 to 255 every one that some cell holds, and last, always, 0.
abbrev pub marks : (cube : List ℕ) → List ℕ
marks cube = held_from 1 255 cube ++ 0 ∷ []

-- A line for each mark, its numbers in 10 columns each.
unfoldable pub mark_lines : (S : ℕ) (cube marks : List ℕ) → List ℕ
mark_lines S cube [] = []
mark_lines S cube (m ∷ ms) = in_line 10 (numbers S cube m) ++ mark_lines S cube ms

-- The totals of a cube.
unfoldable pub totals : (S : ℕ) (cube : List ℕ) → List ℕ
totals S cube = mark_lines S cube (marks cube)
