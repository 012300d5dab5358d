-- The length of what is printed.
use mathlib.Core.Path.{◌≡◌, refl, ◌∙◌, ap, ap₂}
use mathlib.Core.Bool.{Bool, true, false, cond}
use mathlib.Core.List.{List, [], ◌∷◌}
use Prim.Native.Nat.{ℕ, suc, ◌+◌, ◌*◌, ◌/◌, ◌%◌}
use native.Mathlib.Nat.{mul-zero, mul-suc}
use native.Mathlib.Omega.{arith}
use lib.Dec.{eqb}
use lib.ListN.{length, length-append}
use Rattle.sheet.specs.Field.{in_columns}
use Rattle.sheet.specs.Line.{in_line, as_line}
use Rattle.sheet.specs.Printed.{cell_line, cell_lines, heading, listing, marked_cells, refusal_line}
use Rattle.sheet.proofs.Numbers.{length_in_columns}

-- A line has as many bytes for each number as columns, and its line feed.
pub length_in_line : (w : ℕ) (vs : List ℕ) → length (in_line w vs) ≡ w * length vs + 1
unfolding in_line
length_in_line w [] = rw mul-zero
length_in_line w (v ∷ vs) =
    length-append (in_columns w v) (in_line w vs) ∙ ap₂ ◌+◌ (length_in_columns w v) (length_in_line w vs) ∙
    rw mul-suc (omega arith)

length_cell_line : (S p mark : ℕ) → length (cell_line S p mark) ≡ 21 * cond (eqb mark 0) 0 1
unfolding cell_line
length_cell_line S p mark = at (eqb mark 0)
  where
    at : (b : Bool) →
        length (cond b [] (as_line (p % S ∷ p / S % S ∷ p / (S * S) ∷ mark ∷ []))) ≡ 21 * cond b 0 1
    at true = refl
    at false = length_in_line 5 (p % S ∷ p / S % S ∷ p / (S * S) ∷ mark ∷ [])

pub length_cell_lines : (S p : ℕ) (grid : List ℕ) → length (cell_lines S p grid) ≡ 21 * marked_cells grid
unfolding cell_lines marked_cells
length_cell_lines S p [] = refl
length_cell_lines S p (mark ∷ grid) =
    length-append (cell_line S p mark) (cell_lines S (suc p) grid) ∙
    ap₂ ◌+◌ (length_cell_line S p mark) (length_cell_lines S (suc p) grid) ∙ omega arith

-- The listing has 21 bytes for the heading and for each marked cell.
pub length_listing : (S : ℕ) (grid : List ℕ) → length (listing S grid) ≡ 21 * (1 + marked_cells grid)
unfolding listing
length_listing S grid = length-append heading (cell_lines S 0 grid) ∙ ap (21 +◌) (length_cell_lines S 0 grid) ∙ omega arith

-- A refusal line has 18 bytes.
pub length_refusal_line : (n k : ℕ) → length (refusal_line n k) ≡ 18
unfolding refusal_line
length_refusal_line n k =
    length-append (82 ∷ 69 ∷ 70 ∷ 85 ∷ 83 ∷ 69 ∷ 68 ∷ []) (as_line (n ∷ k ∷ [])) ∙ ap (7 +◌) (length_in_line 5 (n ∷ k ∷ []))
