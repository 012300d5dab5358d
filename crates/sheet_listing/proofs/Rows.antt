-- The lines of a row are those of its bytes: along a row x rises with the byte, and y and z stay.
use mathlib.Core.Path.{◌≡◌, refl, sym}
use mathlib.Core.List.{List, [], ◌∷◌, ◌++◌, append_assoc, append-nil}
use Prim.Native.Nat.{ℕ, suc, ◌+◌, ◌*◌, ◌≤◌, ◌<◌}
use native.Mathlib.Nat.{add-zero, add-suc, suc-add}
use native.Mathlib.Omega.{arith}
use lib.Dec.{eqb}
use lib.ListN.{length, get_or, take}
use lib.Seq.{take-suc, length-take-le}
use Rattle.decide.proofs.Truth.{false_of, equal}
use Rattle.cube.proofs.Places.{x_of, y_of, z_of}
use Rattle.sheet.specs.Line.{as_line}
use Rattle.sheet.specs.Printed.{cell_line, cell_lines}
use Rattle.sheet_listing.specs.Row.{line_of, row_lines}

-- A marked cell has a line, an unmarked one has none.
module _ (x y z mark : ℕ) where
  pub line_marked : ¬ (mark ≡ 0) → line_of x y z mark ≡ as_line (x ∷ y ∷ z ∷ mark ∷ [])
  unfolding line_of
  line_marked more = rw (false_of (eqb mark 0) (λ t. more ((equal mark 0).0 t)))

  pub line_unmarked : mark ≡ 0 → line_of x y z mark ≡ []
  unfolding line_of
  line_unmarked none = rw none

-- One cell more.
row_more : (x y z : ℕ) (marks : List ℕ) (mark : ℕ) →
    row_lines x y z (marks ++ mark ∷ []) ≡ row_lines x y z marks ++ line_of (x + length marks) y z mark
unfolding row_lines
row_more x y z [] mark = rw (add-zero) (append-nil _)
row_more x y z (m ∷ marks) mark =
    rw (row_more (suc x) y z marks mark, add-suc, ← suc-add) (sym (append_assoc (line_of x y z m) _ _))

-- The next cell of a row.
pub row_next : (x y z i : ℕ) (marks : List ℕ) → i < length marks →
    row_lines x y z (take (suc i) marks) ≡ row_lines x y z (take i marks) ++ line_of (x + i) y z (get_or marks i 0)
row_next x y z i marks l =
    rw (take-suc marks i 0 l, row_more, length-take-le i marks (omega arith))

cell_line_lem : (S p x y z : ℕ) → x < S → y < S → p ≡ x + S * (y + S * z) → (mark : ℕ) → cell_line S p mark ≡ line_of x y z mark
unfolding cell_line line_of
cell_line_lem S p x y z x_in y_in at mark =
    rw (x_of S p x y z x_in y_in at, y_of S p x y z x_in y_in at, z_of S p x y z x_in y_in at)

-- The lines of cells of one row.
pub row_cells : (S p x y z : ℕ) (marks : List ℕ) → x + length marks ≤ S → y < S → p ≡ x + S * (y + S * z) →
    cell_lines S p marks ≡ row_lines x y z marks
unfolding cell_lines row_lines
row_cells S p x y z [] x_in y_in at = refl
row_cells S p x y z (mark ∷ marks) x_in y_in at =
    rw (cell_line_lem S p x y z (omega arith) y_in at mark, row_cells S (suc p) (suc x) y z marks (omega arith) y_in (omega arith))
