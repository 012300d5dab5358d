-- The contract of a drawing or a listing fixes the answer and what is left in the grid or the list.
use mathlib.Core.Path.{◌≡◌, sym, ◌∙◌, ap}
use mathlib.Core.List.{List}
use Prim.Native.Nat.{ℕ}
use lib.ListN.{length}
use Rattle.std.specs.Prelude.{Result}
use Rattle.decide.specs.declared.Refusal.{Refusal}
use Rattle.decide.specs.Refusal.{outcome}
use Rattle.decide.proofs.Unique.{outcome_unique}
use Rattle.drawing.specs.Drawing.{Drawing, Listing}
use Rattle.drawing.specs.NewCells.{new_cells}
use Rattle.scan.specs.declared.answer.Drawn.{Drawn}
use Rattle.scan.specs.Answer.{Draws, Lists}

module _ (k : Drawing) (grid : List ℕ) {a b : List ℕ} {r s : Result Drawn Refusal} (d : Draws k grid a r) (e : Draws k grid b s) where
  pub grid_unique : a ≡ b
  grid_unique = d.leaves ∙ sym e.leaves

  pub draw_answer_unique : r ≡ s
  draw_answer_unique =
      outcome_unique r s
      (d.answer ∙
      ap (λ g. outcome (k.verdict (length grid))
      (record { answer = k.answer; new_cells = new_cells grid g })) grid_unique ∙
      sym e.answer)

module _ (l : Listing) (list : List ℕ) {a b : List ℕ} {r s : Result ℕ Refusal} (d : Lists l list a r) (e : Lists l list b s) where
  pub list_unique : a ≡ b
  list_unique = d.leaves ∙ sym e.leaves

  pub list_answer_unique : r ≡ s
  list_answer_unique = outcome_unique r s (d.answer ∙ sym e.answer)
