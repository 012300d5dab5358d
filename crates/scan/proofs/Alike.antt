-- Drawings, of whatever kind, that do the same.
use mathlib.Core.Path.{◌≡◌, sym, ◌∙◌}
use mathlib.Core.Logic.{◌↔◌}
use mathlib.Core.List.{List, Memᴰ}
use Prim.Native.Nat.{ℕ}
use lib.ListN.{length}
use Rattle.std.specs.Prelude.{Result}
use Rattle.decide.specs.declared.Refusal.{Refusal}
use Rattle.decide.proofs.FirstThat.{by_verdict}
use Rattle.cube.specs.Cube.{Cell}
use Rattle.drawing.specs.Drawing.{Drawing, drawn_by}
use Rattle.drawing.proofs.Drawn.{drawn_refused, drawn_accepted, drawn_in_any_order}
use Rattle.scan.specs.declared.answer.Drawn.{Drawn}
use Rattle.scan.specs.Answer.{Draws}
use Rattle.scan.proofs.Unique.{grid_unique, draw_answer_unique}

-- Two that come to the same cells, in whatever order, with the same mark and choice, and with the same verdicts and number to
-- answer.
pub record Alike (d e : Drawing) : Type 0 where
  pub side : d.side ≡ e.side
  pub cells : (c : Cell) → Memᴰ c d.cells ↔ Memᴰ c e.cells
  pub mark : d.mark ≡ e.mark
  pub choice : d.choice ≡ e.choice
  pub answer : d.answer ≡ e.answer
  pub verdict : (gridLength : ℕ) → d.verdict gridLength ≡ e.verdict gridLength

module _ (d e : Drawing) (w : Alike d e) where
  -- All cells get one mark, so that their order does not matter.
  pub same_grid : (grid : List ℕ) → drawn_by d grid ≡ drawn_by e grid
  same_grid grid =
      by_verdict (d.verdict (length grid)) _
      (λ a. sym (drawn_in_any_order d grid a e.cells (λ c. ((w.cells c).1, (w.cells c).0))) ∙
      rw (w.side, w.mark, w.choice) (sym (drawn_accepted e grid (sym (w.verdict (length grid)) ∙ a))))
      (λ k r. drawn_refused d grid r ∙ sym (drawn_refused e grid (sym (w.verdict (length grid)) ∙ r)))

  -- What the one call answers and leaves is what the other would.
  pub as_the_other : {grid gridNow : List ℕ} {r : Result Drawn Refusal} → Draws d grid gridNow r → Draws e grid gridNow r
  as_the_other {grid} c = record {
    answer = c.answer ∙ rw (w.verdict (length grid), w.answer);
    leaves = c.leaves ∙ same_grid grid;
  }

  pub draw_the_same : {grid one other : List ℕ} {r s : Result Drawn Refusal} → Draws d grid one r → Draws e grid other s →
      (r ≡ s) × (one ≡ other)
  draw_the_same {grid} c f = (draw_answer_unique e grid (as_the_other c) f, grid_unique e grid (as_the_other c) f)
