-- `mark_walk` meets its contract: after i steps the grid has the marks of the first i + 1 walkers' places, and has lost as
-- many unmarked cells as are counted.
use mathlib.Core.Path.{◌≡◌, refl, sym}
use mathlib.Core.Bool.{Bool}
use mathlib.Core.List.{List, map, map-append}
use Prim.Native.Nat.{ℕ, suc, ◌+◌, ◌≤◌, ◌<◌, ◌-◌}
use native.Mathlib.Omega.{arith}
use lib.IntN.{ℤ}
use lib.ListN.{length, length-set}
use mir.Val.{bool_byte}
use Rattle.drawing.specs.declared.Choice.{Choice}
use Rattle.drawing.specs.Drawing.{marked}
use Rattle.drawing.specs.NewCells.{unmarked_cells}
use Rattle.drawing.proofs.Marked.{marked_at, marked_append}
use Rattle.scan.specs.Walker.{Walker, Strides, step_all, HasPlace, place_of, walkers, OnGrid}
use Rattle.scan.proofs.Written.{counted}
use Rattle.scan.proofs.Row.{AfterSteps, no_steps, holds_now, step_more}
use Rattle.scan.proofs.mark.Ink.mark_walk.Given as goal

-- The row so far, where grid₀ has the mark of its first walker and new₀ counts that cell if it was unmarked.
pub record SoFar (scale : ℤ) (h : Strides) (mark : ℕ) (choice : Choice) (w₀ : Walker) (grid₀ : List ℕ) (new₀ n i : ℕ) (w : Walker)
    (grid : List ℕ) (new : ℕ) : Type 0 where
  pub steps : AfterSteps scale h w₀ n i w
  pub room : OnGrid n scale h w₀ (length grid)
  pub marks : (g : List ℕ) → grid₀ ≡ marked_at choice mark g (place_of w₀) →
      grid ≡ marked choice mark (map place_of (walkers i scale h w₀)) g
  pub size : length grid ≡ length grid₀
  pub fewer : new + unmarked_cells grid ≡ new₀ + unmarked_cells grid₀
  pub few : new ≤ 1 + i

module _ (scale : ℤ) (h : Strides) (mark : ℕ) (choice : Choice) (w₀ : Walker) where
  -- With the first mark.
  pub first : {n : ℕ} (g : List ℕ) (b : Bool) → OnGrid n scale h w₀ (length g) →
      SoFar scale h mark choice w₀ (marked_at choice mark g (place_of w₀)) (bool_byte b) n 0 w₀ (marked_at choice mark g (place_of w₀))
      (bool_byte b)
  unfolding walkers marked
  first {n} g b r = record {
    steps = no_steps scale h w₀ n;
    room = rw length-set r;
    marks = λ g' e. e;
    size = refl;
    fewer = refl;
    few = omega (arith, (counted b).1);
  }

  -- With the mark of the next step's place.
  pub next : {n i new₀ new : ℕ} {w w' : Walker} {grid₀ grid : List ℕ} (b : Bool) →
      SoFar scale h mark choice w₀ grid₀ new₀ n i w grid new → i < n → w' ≡ step_all scale h w →
      bool_byte b + unmarked_cells (marked_at choice mark grid (place_of w')) ≡ unmarked_cells grid →
      SoFar scale h mark choice w₀ grid₀ new₀ n (suc i) w' (marked_at choice mark grid (place_of w')) (new + bool_byte b)
  unfolding walkers marked
  next {i} b s l e one =
      let more = step_more s.steps l e in
      record {
        steps = more;
        room = rw length-set s.room;
        marks = λ g f.
            rw (s.marks g f, more.walker, map-append)
            (sym (marked_append choice mark (map place_of (walkers i scale h w₀)) _ g));
        size = rw length-set s.size;
        fewer = omega (arith, one, s.fewer);
        few = omega (arith, (counted b).1, s.few);
      }

-- The present place is a byte of the grid.
module _ {scale : ℤ} {h : Strides} {n i len : ℕ} {w₀ w : Walker} (r : OnGrid n scale h w₀ len)
    (s : AfterSteps scale h w₀ n i w) where
  pub has_place : HasPlace w
  has_place = holds_now s HasPlace r.places

  pub byte : place_of w < len
  byte = holds_now s (λ v. place_of v < len) r.bytes

abbrev pub invariant-loop : goal.invariant-loop
invariant-loop l = SoFar l.scale l.h l.self.mark l.self.choice l.initial.w l.initial.grid l.initial.new_cells l.n l.counter l.w l.grid l.new_cells

abbrev pub decreases-loop : goal.decreases-loop
decreases-loop l = l.n - l.counter
