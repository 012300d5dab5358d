-- `mark_cells` meets its contract: after i steps the walker stands at sample i, and the path up to there is marked.
use Rattle.std.proofs.Common.{◌≡◌, ℕ, suc, ◌+◌, ◌-◌, ◌<◌, ◌≤◌, List, [], map, length, sym, ap, ◌∙◌, length-append}
use mathlib.Core.List.{map-append}
use Rattle.cube.specs.Cube.{Cell, Inside, place, volume}
use Rattle.cube.proofs.Places.{place_below}
use Rattle.drawing.specs.declared.Choice.{Choice}
use Rattle.drawing.specs.Object.{offset}
use Rattle.drawing.specs.Drawing.{marked}
use Rattle.drawing.specs.NewCells.{unmarked_cells}
use Rattle.drawing.proofs.Marked.{marked_at, marked_append}
use Rattle.scan.specs.declared.answer.Drawn.{Drawn}
use Rattle.scan.specs.Walker.{Walker, grid_strides, HasPlace, place_of}
use Rattle.scan.proofs.Samples.{At, along, grid_stride}
use Rattle.curve.specs.declared.Curve.{Curve}
use Rattle.curve.specs.Curve.{curve_of}
use Rattle.curve.specs.Machine.{doubled_along}
use Rattle.path.specs.Path.{moves, path}
use Rattle.path.proofs.OfCurve as curves
use Rattle.path.proofs.Stands.{Stands, stands_place, stands_has_place}
use Rattle.path.proofs.Steps.{cell}
use Rattle.path.proofs.Legs.{Leg, leg_length}
use Rattle.path.proofs.mark.mark_cells.Given as goal

-- The cells of samples 0 to i.
abbrev pub cells_to : Curve → ℕ → List Cell
cells_to c = curves.cells_to c.steps c.points c.mark c.choice

-- The path so far, where grid₀ has the mark of its first cell.
pub record SoFar (S : ℕ) (c : Curve) (choice : Choice) (grid₀ : List ℕ) (drawn₀ : Drawn) (i : ℕ) (w : Walker) (grid : List ℕ)
    (drawn : Drawn) : Type 0 where
  pub within : i ≤ c.steps
  pub at : At (curve_of c) (grid_strides S) (along []) (λ a. doubled_along c (offset a)) i w
  pub answer : drawn.answer ≡ length (path (cells_to c i))
  pub fewer : drawn.new_cells + unmarked_cells grid ≡ drawn₀.new_cells + unmarked_cells grid₀
  pub marks : (g : List ℕ) → grid₀ ≡ marked_at choice c.mark g (place S (cell c 0)) →
      grid ≡ marked choice c.mark (map (place S) (path (cells_to c i))) g
  pub few : drawn.new_cells + unmarked_cells grid ≤ 300000
  pub size : length grid ≡ volume S

module _ {S : ℕ} (c : Curve) where
  -- One sample more.
  pub more : {choice : Choice} {grid₀ grid gridNow : List ℕ} {drawn₀ drawn drawnNow : Drawn} {i : ℕ} {w v : Walker} →
      SoFar S c choice grid₀ drawn₀ i w grid drawn → i < c.steps →
      At (curve_of c) (grid_strides S) (along []) (λ a. doubled_along c (offset a)) (suc i) v →
      Leg S c.mark choice (moves (cell c i) (cell c (suc i))) grid drawn gridNow drawnNow →
      SoFar S c choice grid₀ drawn₀ (suc i) v gridNow drawnNow
  more {choice} {i = i} s l t leg =
      let e = curves.path_next c.steps c.points c.mark c.choice i in
      record {
        within = l;
        at = t;
        answer = leg.answer ∙ rw (e, length-append) (ap (◌+ length (moves (cell c i) (cell c (suc i)))) s.answer);
        fewer = leg.fewer ∙ s.fewer;
        marks = λ g f.
            leg.marks ∙
            ap (marked choice c.mark (map (place S) (moves (cell c i) (cell c (suc i))))) (s.marks g f) ∙
            rw (e, map-append) (sym (marked_append choice c.mark (map (place S) (path (cells_to c i))) _ g));
        few = rw leg.fewer s.few;
        size = leg_length leg ∙ s.size;
      }

-- What is asked for of a cell where the walker stands.
pub asked : {S : ℕ} {p : Cell} {w : Walker} {len : ℕ} → S ≤ 64 → Inside S p → Stands (grid_stride S) p w → len ≡ volume S →
    HasPlace w × (place_of w < len)
asked {S} {p} most at s v = (stands_has_place most at s, rw (stands_place most at s, v) (place_below S p at))

abbrev pub invariant-loop : goal.invariant-loop
invariant-loop l =
    SoFar l.side l.fn.curve l.fn.choice l.initial.grid l.initial.drawn l.counter l.w l.grid l.drawn
