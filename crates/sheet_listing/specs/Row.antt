-- The lines of a row's cells, by their coordinates.
use Rattle.std.specs.Prelude.{cond, List, [], ◌∷◌, ◌++◌, ℕ, suc, eqb}
use Rattle.sheet.specs.Line.{as_line}

-- The line of the cell x y z with the given mark: none if it is unmarked.
unfoldable pub line_of : (x y z mark : ℕ) → List ℕ
line_of x y z mark = cond (eqb mark 0) [] (as_line (x ∷ y ∷ z ∷ mark ∷ []))

-- The lines of the cells from x y z on, along x.
unfoldable pub row_lines : (x y z : ℕ) (marks : List ℕ) → List ℕ
row_lines x y z [] = []
row_lines x y z (mark ∷ marks) = line_of x y z mark ++ row_lines (suc x) y z marks
