-- `mark_slices` meets its contract: after k slices more the grid has the marks of the slices 0 to k, and has lost as many
-- unmarked cells as are counted.
use mathlib.Core.Path.{◌≡◌, sym, ◌∙◌, ap}
use mathlib.Core.List.{List}
use Prim.Native.Nat.{ℕ, suc, ◌+◌, ◌≤◌, ◌<◌, zero-le}
use native.Mathlib.Omega.{arith}
use lib.ListN.{length}
use Rattle.cube.specs.Cube.{volume}
use Rattle.drawing.specs.Drawing.{marked}
use Rattle.drawing.specs.NewCells.{unmarked_cells}
use Rattle.drawing.proofs.Marked.{marked_append, length_marked}
use Rattle.scan.specs.Walker.{grid_strides}
use Rattle.solid.specs.declared.Solid.{Solid}
use Rattle.solid.specs.Blocks.{Blocks}
use Rattle.solid.proofs.Sliced.{OnSlice, places, slice_places, first_slice, more_slices}
use Rattle.solid.proofs.slices.mark_slices.Given as goal

-- With the slices 0 to k, where g is the grid at the start.
pub record SoFar (S : ℕ) (s : Solid) (g grid : List ℕ) (blocks : Blocks) (new k : ℕ) : Type 0 where
  pub within : k ≤ s.l
  pub on_slice : OnSlice s (grid_strides S) k blocks
  pub marks : grid ≡ marked s.choice s.mark (places S s k) g
  pub size : length grid ≡ volume S
  pub fewer : new + unmarked_cells grid ≡ unmarked_cells g

module _ (S : ℕ) (s : Solid) where
  -- With slice 0.
  pub first : {g grid : List ℕ} {blocks : Blocks} {new : ℕ} → OnSlice s (grid_strides S) 0 blocks → length g ≡ volume S →
      grid ≡ marked s.choice s.mark (slice_places S s 0) g → new + unmarked_cells grid ≡ unmarked_cells g →
      SoFar S s g grid blocks new 0
  first {g} o v e fewer = record {
    within = zero-le;
    on_slice = o;
    marks = e ∙ ap (λ ps. marked s.choice s.mark ps g) (first_slice S s);
    size = ap length e ∙ length_marked s.choice s.mark (slice_places S s 0) g ∙ v;
    fewer = fewer;
  }

  -- With one slice more.
  pub next : {g grid grid' : List ℕ} {blocks blocks' : Blocks} {new k : ℕ} (more : ℕ) → SoFar S s g grid blocks new k → k < s.l →
      OnSlice s (grid_strides S) (suc k) blocks' → grid' ≡ marked s.choice s.mark (slice_places S s (suc k)) grid →
      more + unmarked_cells grid' ≡ unmarked_cells grid → SoFar S s g grid' blocks' (new + more) (suc k)
  next {g} {grid} {k = k} more f l o e one = record {
    within = l;
    on_slice = o;
    marks =
        e ∙ ap (marked s.choice s.mark (slice_places S s (suc k))) f.marks ∙
        sym (marked_append s.choice s.mark (places S s k) (slice_places S s (suc k)) g) ∙
        ap (λ ps. marked s.choice s.mark ps g) (more_slices S s k);
    size = ap length e ∙ length_marked s.choice s.mark (slice_places S s (suc k)) grid ∙ f.size;
    fewer = omega (arith, one, f.fewer);
  }

abbrev pub invariant-loop : goal.invariant-loop
invariant-loop l = SoFar l.side l.solid l.fn.grid l.grid l.blocks l.new_cells l.counter
