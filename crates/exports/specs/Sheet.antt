-- A sheet call from C: the number of curve lines or minus the refusal's number, the side or the line, and the sum of new
-- cells.
use Rattle.std.specs.Prelude.{◌≡◌, List, ℕ, ℤ, pos}
use Rattle.sheet.specs.Call.{Said, drew, refused, judge_call, said, buffer_after}
use Rattle.exports.specs.Signed.{minus}

abbrev pub answer_of : Said → ℤ
answer_of (drew S n new) = pos n
answer_of (refused n k) = minus n

abbrev pub detail_of : Said → ℕ
detail_of (drew S n new) = S
detail_of (refused n k) = k

-- A refused call leaves what was there.
abbrev pub sum_after : Said → (before : ℕ) → ℕ
sum_after (drew S n new) before = new
sum_after (refused n k) before = before

pub record SheetBytes (input buffer bufferNow : List ℕ) (detailNow new newNow : ℕ) (r : ℤ) : Type 0 where
  pub answer : r ≡ answer_of (said (judge_call input buffer))
  pub detail : detailNow ≡ detail_of (said (judge_call input buffer))
  pub new_cells : newNow ≡ sum_after (said (judge_call input buffer)) new
  pub leaves : bufferNow ≡ buffer_after (judge_call input buffer) buffer
