-- What the answers of drawings and listings say in the documents' numbers, and what a call leaves in what is lent to it.
use Rattle.std.specs.Prelude.{◌≡◌, List, ℕ, length, Result}
use Rattle.decide.specs.declared.Refusal.{Refusal}
use Rattle.decide.specs.Refusal.{outcome}
use Rattle.decide.specs.Verdict.{outcome_of}
use Rattle.drawing.specs.Drawing.{Drawing, drawn_by, Listing, listed_by}
use Rattle.drawing.specs.NewCells.{new_cells}
use Rattle.scan.specs.declared.answer.Drawn.{Drawn}

-- A drawing of whatever kind: its answer, with the new cells, those unmarked before minus those unmarked after, and what the
-- grid holds afterwards.
pub record Draws (d : Drawing) (grid gridAfter : List ℕ) (r : Result Drawn Refusal) : Type 0 where
  pub answer : outcome_of r ≡ outcome (d.verdict (length grid))
      (record { answer = d.answer; new_cells = new_cells grid gridAfter })
  pub leaves : gridAfter ≡ drawn_by d grid

-- A listing of whatever kind: its answer, and what the list holds afterwards.
pub record Lists (l : Listing) (list listAfter : List ℕ) (r : Result ℕ Refusal) : Type 0 where
  pub answer : outcome_of r ≡ outcome (l.verdict (length list)) l.answer
  pub leaves : listAfter ≡ listed_by l list
