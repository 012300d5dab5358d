-- What the functions that judge lines answer.
use Rattle.std.specs.Prelude.{◌≡◌, List, length, ℕ, Result, Ok, Err}
use Rattle.decide.specs.declared.Refusal.{Refusal}
use Rattle.decide.specs.Refusal.{accepted, refused, first_that}
use Rattle.decide.specs.Verdict.{number_of}
use Rattle.sheet.specs.Line.{number}
use Rattle.sheet.specs.Sheet.{side_order, Judged, good, bad}
use Rattle.sheet_cube.specs.declared.LineRefusal.{LineRefusal}
use Rattle.sheet_cube.specs.declared.judge.Size.{Size}

-- Line 1 is good and has the side, or the number refuses it.
abbrev pub SideOf : (line : List ℕ) → Result ℕ Refusal → Type 0
SideOf l (Ok s) = (first_that (side_order l) ≡ accepted) × (s ≡ number l 0)
SideOf l (Err e) = first_that (side_order l) ≡ refused (number_of e)

-- What is found of a sheet before it is drawn: its side and the number of its curve lines, or the number and the line that
-- refuse it.
pub data Found : Type 0 where
  sized : (side curves : ℕ) → Found
  fault : (number line : ℕ) → Found

abbrev pub found : Judged → Found
found (good S strokes) = sized S (length strokes)
found (bad n k) = fault n k

abbrev pub found_of : Result Size LineRefusal → Found
found_of (Ok s) = sized s.side s.curves
found_of (Err r) = fault (number_of r.refusal) r.line
