-- `put_cells` meets its contract: after each row the lines of the cells up to p are written, and x, y, z are the
-- coordinates of byte p while there are places left.
use mathlib.Core.Path.{◌≡◌, ap, sym}
use mathlib.Core.List.{List, ◌++◌}
use Prim.Native.Nat.{ℕ, ◌+◌, ◌-◌, ◌*◌, ◌≤◌, ◌<◌, min}
use native.Mathlib.Omega.{arith}
use borrow.Rule.Slice.PartMut.{mid_of, put_mid}
use lib.ListN.{length, take, drop, length-drop}
use lib.Seq.{drop-drop, length-take-le}
use Rattle.cube.specs.Cube.{volume}
use Rattle.sheet.specs.Printed.{cell_lines}
use Rattle.sheet.proofs.Parts.{cells_append, length_cells_at_most}
use Rattle.sheet_text.specs.Puts.{Puts}
use Rattle.sheet_listing.specs.Row.{row_lines}
use Rattle.sheet_text.proofs.Puts.{puts_rest}
use Rattle.cube.proofs.Places.{z_below}
use Rattle.sheet_listing.proofs.Rows.{row_cells}
use Rattle.sheet_listing.proofs.cells.put_cells.Given as goal

-- x, y and z are the coordinates of byte p.
pub record Stands (S p x y z : ℕ) : Type 0 where
  pub x_in : x < S
  pub y_in : y < S
  pub is : p ≡ x + S * (y + S * z)

-- The lines of the cells from byte first to before byte p are written, at most 21 bytes each.
pub record SoFar (S : ℕ) (cube : List ℕ) (first end : ℕ) (text₀ text : List ℕ) (x y z p bytes : ℕ) : Type 0 where
  pub from : first ≤ p
  pub until : p ≤ end
  pub stands : p < end → Stands S p x y z
  pub puts : Puts (cell_lines S first (take (p - first) (drop first cube))) text₀ text bytes
  pub most : bytes ≤ 21 * (p - first)

-- The cells from p to before stop, after those from first to before p.
pub lines_more : (S first p stop : ℕ) (cube : List ℕ) → first ≤ p → p ≤ stop →
    cell_lines S first (take (stop - first) (drop first cube)) ≡
    cell_lines S first (take (p - first) (drop first cube)) ++ cell_lines S p (take (stop - p) (drop p cube))
lines_more S first p stop cube f s =
    let here : first + (p - first) ≡ p = omega arith in
    let all : p - first + (stop - p) ≡ stop - first = omega arith in
    sym (rw (drop-drop (p - first) first cube, here, all) at (cells_append S first (p - first) (stop - p) (drop first cube)))

-- A turn of the loop, for the places from p to before stop: up to the row's end, and not past the range.
pub record Turn (S : ℕ) (cube : List ℕ) (first n : ℕ) (text₀ text : List ℕ) (x y z p bytes stop : ℕ) : Type 0 where
  pub least : 2 ≤ S
  pub most : S ≤ 64
  pub size : length cube ≡ volume S
  pub places : n ≤ length cube - first
  pub so_far : SoFar S cube first (first + n) text₀ text x y z p bytes
  pub left : p < first + n
  pub stops : stop ≡ min (first + n) (p + (S - x))

module _ {S : ℕ} {cube : List ℕ} {first n : ℕ} {text₀ text : List ℕ} {x y z p bytes stop : ℕ}
    (t : Turn S cube first n text₀ text x y z p bytes stop) where
  pub here : Stands S p x y z
  here = t.so_far.stands t.left

  pub inside : first + n ≤ length cube
  inside = omega (arith, t.so_far.from)

  pub y_most : y < S
  y_most = here.y_in

  pub z_most : z < S
  z_most = z_below S p x y z here.is (omega (arith, inside))

  pub ahead : p < stop
  ahead = omega (arith, here.x_in)

  -- The cells are of one row, and there is room for a line for each.
  unfoldable pub marks : List ℕ
  marks = take (stop - p) (drop p cube)

  pub length_marks : length marks ≡ stop - p
  unfolding marks
  length_marks = length-take-le (stop - p) (drop p cube) (rw length-drop (omega (arith, inside)))

  pub same_row : x + length marks ≤ S
  same_row = omega (arith, length_marks, here.x_in)

  -- The coordinates past the row's end.
  pub carried : y + 1 ≡ S → stop < first + n → Stands S stop 0 0 (z + 1)
  carried e l = record {
    x_in = omega (arith, t.least);
    y_in = omega (arith, t.least);
    is = omega (arith, here.is, here.x_in, ap (S *◌) e);
  }

  pub stayed : ¬ (y + 1 ≡ S) → stop < first + n → Stands S stop 0 (y + 1) z
  stayed e l = record {
    x_in = omega (arith, t.least);
    y_in = omega (arith, y_most);
    is = omega (arith, here.is, here.x_in);
  }

  -- With the lines of these cells.
  pub next : {after : List ℕ} {y' z' k more : ℕ} → k ≡ length text - bytes →
      Puts (row_lines x y z marks) (mid_of bytes k text) after more → (stop < first + n → Stands S stop 0 y' z') →
      SoFar S cube first (first + n) text₀ (put_mid bytes k text after) 0 y' z' stop (bytes + more)
  unfolding marks
  next rest r stands =
      let lines : cell_lines S p marks ≡ row_lines x y z marks = row_cells S p x y z marks same_row y_most here.is in
      let from : first ≤ p = t.so_far.from in
      record {
        from = omega (arith, ahead);
        until = omega (arith, t.stops);
        stands = stands;
        puts = rw (lines_more S first p stop cube from (omega (arith, ahead)), lines) (puts_rest t.so_far.puts rest r);
        most =
            omega (
              arith,
              t.so_far.most,
              length_marks,
              ahead,
              r.counts,
              ap length lines,
              length_cells_at_most S p marks,
            );
      }

abbrev pub invariant-loop-p : goal.invariant-loop-p
invariant-loop-p l = SoFar l.side l.cube.bytes.now l.first l.end l.initial.text l.text l.x l.y l.z l.p l.bytes

abbrev pub decreases-loop-p : goal.decreases-loop-p
decreases-loop-p l = l.end - l.p
