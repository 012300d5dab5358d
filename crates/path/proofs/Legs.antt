-- One axis's leg from a sample to the next, in numbers, in a grid and in a list.
use Rattle.std.proofs.Common.{◌≡◌, ℕ, ◌+◌, Bool, true, false, cond, not, eqb, List, [], ◌∷◌, ◌++◌, map, length, sym, refl, ap, ◌∙◌, arith, length-append}
use mathlib.Core.List.{map-append}
use Rattle.cube.specs.Cube.{Axis, Cell, place}
use Rattle.drawing.specs.declared.Choice.{Choice}
use Rattle.drawing.specs.Drawing.{marked}
use Rattle.drawing.specs.NewCells.{unmarked_cells}
use Rattle.drawing.proofs.Marked.{marked_append, length_marked}
use Rattle.scan.specs.declared.answer.Drawn.{Drawn}
use Rattle.path.specs.Path.{moved, move, move_of}
use Rattle.path.proofs.Paths.{length_move}

-- What is counted is the axis's move,
pub counts_move : (a : Axis) (from to : Cell) {t : Bool} → t ≡ not (eqb (from a) (to a)) → cond t 1 0 ≡ move_of a from to
unfolding move_of
counts_move a from to e = rw e (by_test (eqb (from a) (to a)))
  where
    by_test : (t : Bool) → ◌≡◌ {A = ℕ} (cond (not t) 1 0) (cond t 0 1)
    by_test true = refl
    by_test false = refl

-- and what is written its cell.
pub written_move : {A : Type 0} (f : Cell → A) (a : Axis) (from to : Cell) {t : Bool} {p : A} → t ≡ not (eqb (from a) (to a)) →
    p ≡ f (moved a from to) → cond t (p ∷ []) [] ≡ map f (move a from to)
unfolding move
written_move f a from to e q = rw (e, q) (by_test (eqb (from a) (to a)))
  where
    by_test : (t : Bool) → cond (not t) (f (moved a from to) ∷ []) [] ≡ map f (cond t [] (moved a from to ∷ []))
    by_test true = refl
    by_test false = refl

-- In a grid: the mark is in the cell after the move, if there is one.
pub record Leg (S mark : ℕ) (choice : Choice) (cs : List Cell) (grid : List ℕ) (drawn : Drawn) (gridNow : List ℕ) (drawnNow : Drawn) :
    Type 0 where
  pub answer : drawnNow.answer ≡ drawn.answer + length cs
  pub fewer : drawnNow.new_cells + unmarked_cells gridNow ≡ drawn.new_cells + unmarked_cells grid
  pub marks : gridNow ≡ marked choice mark (map (place S) cs) grid

module _ {S mark : ℕ} {choice : Choice} {bs cs : List Cell} {g₀ g₁ g₂ : List ℕ} {d₀ d₁ d₂ : Drawn} where
  -- One after the other.
  pub leg_append : Leg S mark choice bs g₀ d₀ g₁ d₁ → Leg S mark choice cs g₁ d₁ g₂ d₂ → Leg S mark choice (bs ++ cs) g₀ d₀ g₂ d₂
  leg_append p q = record {
    answer = rw length-append (omega (arith, p.answer, q.answer));
    fewer = q.fewer ∙ p.fewer;
    marks =
        q.marks ∙ ap (marked choice mark (map (place S) cs)) p.marks ∙
        rw map-append (sym (marked_append choice mark (map (place S) bs) (map (place S) cs) g₀));
  }

module _ {S mark : ℕ} {choice : Choice} {cs : List Cell} {g₀ g₁ : List ℕ} {d₀ d₁ : Drawn} where
  pub leg_length : Leg S mark choice cs g₀ d₀ g₁ d₁ → length g₁ ≡ length g₀
  leg_length p = ap length p.marks ∙ length_marked choice mark (map (place S) cs) g₀

-- By the contract of `mark_moved`.
pub leg_of : (S mark : ℕ) (choice : Choice) (a : Axis) (from to : Cell) {t : Bool} {p : ℕ} {g₀ g₁ : List ℕ} {d₀ d₁ : Drawn} →
    t ≡ not (eqb (from a) (to a)) → p ≡ place S (moved a from to) → d₁.answer ≡ d₀.answer + cond t 1 0 →
    d₁.new_cells + unmarked_cells g₁ ≡ d₀.new_cells + unmarked_cells g₀ → g₁ ≡ marked choice mark (cond t (p ∷ []) []) g₀ →
    Leg S mark choice (move a from to) g₀ d₀ g₁ d₁
leg_of S mark choice a from to {g₀ = g₀} {d₀ = d₀} e q answer fewer marks = record {
  answer = answer ∙ ap (d₀.answer +◌) (counts_move a from to e ∙ sym (length_move a from to));
  fewer = fewer;
  marks = marks ∙ ap (λ ps. marked choice mark ps g₀) (written_move (place S) a from to e q);
}
