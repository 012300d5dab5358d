-- What the drawing of a sheet answers, and what it leaves in the lent buffer and the lent text.
use Rattle.std.specs.Prelude.{◌≡◌, List, ℕ, Result, Ok, Err}
use Rattle.sheet.specs.Sheet.{Judged, good, bad, judge}
use Rattle.sheet.specs.Printed.{refusal_line}
use Rattle.sheet.specs.Call.{buffer_after}
use Rattle.sheet.specs.Part.{over}

-- The side of a good sheet, or the length of a refusal line.
abbrev pub drawing_of : Judged → Result ℕ ℕ
drawing_of (good S strokes) = Ok S
drawing_of (bad n k) = Err 18

-- What the text holds afterwards: the refusal line and then what it held, or, not refused, what it held.
abbrev pub text_after : Judged → (text : List ℕ) → List ℕ
text_after (good S strokes) text = text
text_after (bad n k) text = over (refusal_line n k) text

-- The answer, and what the buffer and the text hold afterwards.
pub record DrawsOrRefuses (input buffer bufferNow text textNow : List ℕ) (r : Result ℕ ℕ) : Type 0 where
  pub answer : r ≡ drawing_of (judge input)
  pub leaves : bufferNow ≡ buffer_after (judge input) buffer
  pub writes : textNow ≡ text_after (judge input) text
