-- `draw_or_refuse` meets its contract: with 64000 bytes lent the lines alone decide, and a text of 18 bytes holds the
-- refusal line.
use mathlib.Core.Path.{◌≡◌, sym, ◌∙◌, ap}
use mathlib.Core.List.{List}
use Prim.Native.Nat.{ℕ, ◌≤◌}
use native.Mathlib.Omega.{arith}
use lib.ListN.{length}
use Rattle.std.specs.Prelude.{Result, Ok, Err}
use Rattle.decide.specs.declared.Refusal.{Refusal}
use Rattle.decide.specs.Refusal as refusal
use Rattle.decide.specs.Refusal.{first_that}
use Rattle.sheet.specs.Sheet.{judge}
use Rattle.sheet.specs.Printed.{refusal_line}
use Rattle.sheet.specs.Call.{Said, drew, refused, said, buffer_after}
use Rattle.sheet.specs.Part.{over, line_order}
use Rattle.sheet.proofs.Sheet.{bad_small}
use Rattle.sheet.proofs.Refused.{line_accepted}
use Rattle.sheet_cube.specs.declared.Sheet.{Sheet}
use Rattle.sheet_cube.specs.declared.LineRefusal.{LineRefusal}
use Rattle.sheet_cube.specs.Answer.{said_of, DrawsSheet}
use Rattle.sheet_cube.proofs.Drawing.{is_good_lem}
use Rattle.sheet_cube.proofs.Called.{buffer_good, is_bad_lem, found_said}
use Rattle.sheet_text.specs.Writes.{Writes}
use Rattle.sheet_program.specs.Draws.{drawing_of, text_after, DrawsOrRefuses}
use Rattle.sheet_program.proofs.draw_or_refuse.Goals as goal

module _ {input buffer bufferNow : List ℕ} {a : Result Sheet LineRefusal} (d : DrawsSheet input buffer bufferNow a)
    (whole : length buffer ≡ 64000) where
  judged : {s : Said} → said_of a ≡ s → said (judge input) ≡ s
  judged e = ap said (sym (buffer_good input buffer whole)) ∙ sym d.answer ∙ e

  leaves : bufferNow ≡ buffer_after (judge input) buffer
  leaves = d.leaves ∙ ap (λ j. buffer_after j buffer) (buffer_good input buffer whole)

  -- The sheet is drawn,
  draws : {S n new : ℕ} → said_of a ≡ drew S n new → (text : List ℕ) → DrawsOrRefuses input buffer bufferNow text text (Ok S)
  draws e text =
      let j = sym (is_good_lem (judge input) (found_said (judge input) (judged e))).good in
      record { answer = ap drawing_of j; leaves = leaves; writes = ap (λ i. text_after i text) j }

  -- or it is refused, and the line is written.
  refuses : {n k : ℕ} → said_of a ≡ refused n k → {text after : List ℕ} {w : Result ℕ Refusal} → 18 ≤ length text →
      Writes (first_that (line_order n k (length text))) (refusal_line n k) text after w →
      DrawsOrRefuses input buffer bufferNow text after (Err 18)
  refuses {n} {k} e {text} room w =
      let j = sym (is_bad_lem (judge input) (found_said (judge input) (judged e))) in
      let small = bad_small input (sym j) in
      let v = line_accepted n k (length text) (omega (arith, small.0)) (omega (arith, small.1)) room in
      record {
        answer = ap drawing_of j;
        leaves = leaves;
        writes = w.leaves ∙ ap (λ u. refusal.leaves u (over (refusal_line n k) text) text) v ∙ ap (λ i. text_after i text) j;
      }

pub returns-in-Ok : goal.returns-in-Ok
returns-in-Ok c = draws c.draw_sheet.ensures c.told-buffer (ap said_of c.in-Ok.is) _

pub returns-in-Err : goal.returns-in-Err
returns-in-Err c =
    refuses c.draw_sheet.ensures c.told-buffer (ap said_of c.in-Err.is) c.requires
    (rw c.from.ensures at c.refusal_line.ensures)
