-- Document 02, A.2: what the totals program prints.
use Rattle.std.specs.Prelude.{List, ℕ}
use Rattle.sheet.specs.Sheet.{Judged, good, bad, judge}
use Rattle.sheet.specs.Printed.{cube_of, refusal_line}
use Rattle.totals.specs.Totals.{totals}

-- What is printed for a judged sheet: the totals of its cube, or the sheet program's refusal line.
abbrev pub totals_printed : Judged → List ℕ
totals_printed (good S strokes) = totals S (cube_of S strokes)
totals_printed (bad n k) = refusal_line n k

-- From the whole input to the whole output.
unfoldable pub totals_output : (input : List ℕ) → List ℕ
totals_output input = totals_printed (judge input)
