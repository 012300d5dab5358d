-- What the totals of a sheet answer, and what they leave in the lent buffer and the lent text.
use Rattle.std.specs.Prelude.{◌≡◌, List, ℕ, length}
use Rattle.sheet.specs.Sheet.{judge}
use Rattle.sheet.specs.Call.{buffer_after}
use Rattle.sheet.specs.Part.{over}
use Rattle.totals.specs.Printed.{totals_output}

-- The number of bytes of the program's whole output, which the text begins with; and the buffer, drawn or as it was.
pub record WritesTotals (input buffer bufferNow text textNow : List ℕ) (r : ℕ) : Type 0 where
  pub answer : r ≡ length (totals_output input)
  pub leaves : bufferNow ≡ buffer_after (judge input) buffer
  pub writes : textNow ≡ over (totals_output input) text
