-- `mark_rows` meets its contract: after j rows more the grid has the marks of the rows 0 to j, and has lost as many unmarked
-- cells as are counted.
use mathlib.Core.Path.{◌≡◌, refl, sym, ◌∙◌, ap}
use mathlib.Core.List.{List, map, map-append}
use Prim.Native.Nat.{ℕ, zero, suc, ◌+◌, ◌≤◌, ◌<◌, zero-le}
use native.Mathlib.Omega.{arith}
use lib.IntN.{ℤ}
use lib.ListN.{length}
use Rattle.drawing.specs.Drawing.{marked}
use Rattle.drawing.specs.NewCells.{unmarked_cells}
use Rattle.drawing.proofs.Marked.{marked_append, length_marked}
use Rattle.scan.specs.declared.mark.Ink.{Ink}
use Rattle.scan.specs.Walker.{Strides, Walker, place_of, walkers}
use Rattle.rows.specs.Lines.{Lines, next_lines, row_walker, lines_after, row_of_walkers, rows_of_walkers}
use Rattle.rows.proofs.mark_rows.Given as goal

-- With the rows 0 to j, where g is the grid at the start.
pub record SoFar (n m : ℕ) (N : ℤ) (h : Strides) (ink : Ink) (g : List ℕ) (start : Lines) (grid : List ℕ) (lines : Lines) (new j : ℕ) :
    Type 0 where
  pub within : j ≤ m
  pub lines_are : lines ≡ lines_after N h start j
  pub marks : grid ≡ marked ink.choice ink.mark (map place_of (rows_of_walkers n j N h start)) g
  pub size : length grid ≡ length g
  pub fewer : new + unmarked_cells grid ≡ unmarked_cells g

module _ {n m : ℕ} {N : ℤ} {h : Strides} {ink : Ink} {g : List ℕ} {start : Lines} where
  -- With row 0.
  pub first : {w : Walker} {grid : List ℕ} {new : ℕ} → w ≡ row_walker start →
      grid ≡ marked ink.choice ink.mark (map place_of (walkers n N h w)) g →
      new + unmarked_cells grid ≡ unmarked_cells g → SoFar n m N h ink g start grid start new 0
  unfolding lines_after rows_of_walkers
  first {w} e marks fewer = record {
    within = zero-le;
    lines_are = refl;
    marks = rw e at marks;
    size = ap length marks ∙ length_marked ink.choice ink.mark (map place_of (walkers n N h w)) g;
    fewer = fewer;
  }

  -- With one row more.
  pub next : {lines lines' : Lines} {w : Walker} {grid grid' : List ℕ} {new j : ℕ} (more : ℕ) → SoFar n m N h ink g start grid lines new j →
      j < m → lines' ≡ next_lines N h lines → w ≡ row_walker lines' →
      grid' ≡ marked ink.choice ink.mark (map place_of (walkers n N h w)) grid →
      more + unmarked_cells grid' ≡ unmarked_cells grid → SoFar n m N h ink g start grid' lines' (new + more) (suc j)
  unfolding lines_after rows_of_walkers
  next {lines = lines} {lines'} {w} {grid} {j = j} more s l e f marks fewer =
      let are : lines' ≡ lines_after N h start (suc j) = e ∙ ap (next_lines N h) s.lines_are in
      let before = map place_of (rows_of_walkers n j N h start) in
      record {
        within = l;
        lines_are = are;
        marks =
            rw (f, are, s.marks) at marks ∙
            sym (marked_append ink.choice ink.mark before (map place_of (row_of_walkers n N h start (suc j))) g) ∙
            ap (λ ps. marked ink.choice ink.mark ps g)
            (sym (map-append place_of (rows_of_walkers n j N h start) (row_of_walkers n N h start (suc j))));
        size = ap length marks ∙ length_marked ink.choice ink.mark (map place_of (walkers n N h w)) grid ∙ s.size;
        fewer = omega (arith, fewer, s.fewer);
      }

abbrev pub invariant-loop : goal.invariant-loop
invariant-loop l = SoFar l.n l.m l.fn.scale l.h l.ink l.fn.grid l.fn.start l.grid l.lines l.new_cells l.counter
