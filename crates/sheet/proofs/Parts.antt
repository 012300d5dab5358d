-- The parts of a listing in turn are the whole listing: where one range of byte places ends, the next begins.
use mathlib.Core.Path.{◌≡◌, ◌∙◌, ap}
use mathlib.Core.Bool.{Bool, true, false, cond}
use mathlib.Core.List.{List, [], ◌∷◌, ◌++◌, append_assoc, append-nil}
use Prim.Native.Nat.{ℕ, zero, suc, ◌+◌, ◌*◌, ◌≤◌, ◌<◌}
use native.Mathlib.Nat.{add-zero, zero-add, add-suc, suc-add}
use native.Mathlib.Omega.{arith}
use lib.Dec.{eqb}
use lib.ListN.{length, take, drop, length-append, length-take}
use lib.Seq.{take_all, take-nil, drop-drop}
use Rattle.decide.proofs.Truth.{false_of, equal}
use Rattle.sheet.specs.Printed.{cell_line, cell_lines, heading, listing, marked_cells}
use Rattle.sheet.specs.Part.{part}
use Rattle.sheet.proofs.Printed.{length_cell_lines}

-- The lines of a cells and of the b after them. Past the end there is none.
pub cells_append : (S p a b : ℕ) (l : List ℕ) →
    cell_lines S p (take a l) ++ cell_lines S (p + a) (take b (drop a l)) ≡ cell_lines S p (take (a + b) l)
unfolding cell_lines
cells_append S p zero b l = rw (add-zero, zero-add)
cells_append S p (suc a) b [] = rw (take-nil b, take-nil (suc a + b))
cells_append S p (suc a) b (m ∷ l) =
    rw (suc-add, add-suc, ← suc-add, append_assoc) (ap (cell_line S p m ++◌) (cells_append S (suc p) a b l))

-- Two parts, one after the other, where the second does not begin the listing.
pub part_append : (S p a b : ℕ) (cube : List ℕ) → 0 < p + a →
    part S p a cube ++ part S (p + a) b cube ≡ part S p (a + b) cube
unfolding part
part_append S p a b cube later =
    rw (false_of (eqb (p + a) 0) (λ t. let e = (equal (p + a) 0).0 t in omega arith), append_assoc, ← drop-drop a p cube)
    (ap (cond (eqb p 0) heading [] ++◌) (cells_append S p a b (drop p cube)))

-- A part that reaches the cube's end is the whole listing.
pub part_all : (S count : ℕ) (cube : List ℕ) → length cube ≤ count → part S 0 count cube ≡ listing S cube
unfolding part listing
part_all S count cube all = rw (take_all count cube)

-- Parts of the given counts in turn, from byte p on.
unfoldable pub parts_in_turn : (S p : ℕ) (counts cube : List ℕ) → List ℕ
parts_in_turn S p [] cube = []
parts_in_turn S p (c ∷ cs) cube = part S p c cube ++ parts_in_turn S (p + c) cs cube

unfoldable pub total : List ℕ → ℕ
total [] = 0
total (c ∷ cs) = c + total cs

-- They are one part.
pub parts_in_turn_lem : (S p c : ℕ) (cs cube : List ℕ) → 0 < p + c →
    parts_in_turn S p (c ∷ cs) cube ≡ part S p (total (c ∷ cs)) cube
unfolding parts_in_turn total
parts_in_turn_lem S p c [] cube later = rw (append-nil, add-zero)
parts_in_turn_lem S p c (d ∷ ds) cube later =
    rw (parts_in_turn_lem S (p + c) d ds cube (omega arith)) (part_append S p c (total (d ∷ ds)) cube later)

-- Where they reach the cube's end and the first is not empty, they are the whole listing.
pub all_parts : (S c : ℕ) (cs cube : List ℕ) → 0 < c → length cube ≤ total (c ∷ cs) →
    parts_in_turn S 0 (c ∷ cs) cube ≡ listing S cube
all_parts S c cs cube more all =
    parts_in_turn_lem S 0 c cs cube (omega arith) ∙ part_all S (total (c ∷ cs)) cube all

-- No more cells are marked than there are.
marked_at_most : (grid : List ℕ) → marked_cells grid ≤ length grid
unfolding marked_cells
marked_at_most [] = omega arith
marked_at_most (mark ∷ grid) = omega (arith, marked_at_most grid, at (eqb mark 0))
  where
    at : (b : Bool) → cond b 0 1 ≤ 1
    at true = omega arith
    at false = omega arith

-- Lines have at most 21 bytes for each cell.
pub length_cells_at_most : (S p : ℕ) (grid : List ℕ) → length (cell_lines S p grid) ≤ 21 * length grid
length_cells_at_most S p grid = rw length_cell_lines (omega (arith, marked_at_most grid))

-- A part has at most 21 bytes for the heading and for each place.
pub length_head_at_most : (p : ℕ) → length (cond (eqb p 0) heading []) ≤ 21
length_head_at_most p = at (eqb p 0)
  where
    at : (b : Bool) → length (cond b heading []) ≤ 21
    at true = omega arith
    at false = omega arith

pub length_part_at_most : (S p count : ℕ) (cube : List ℕ) → length (part S p count cube) ≤ 21 * (count + 1)
unfolding part
length_part_at_most S p count cube =
    rw length-append (
    omega (
      arith,
      length_head_at_most p,
      length_cells_at_most S p (take count (drop p cube)),
      length-take count (drop p cube),
    )
    )
