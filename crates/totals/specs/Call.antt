-- A call that writes the totals of a cube into a lent text.
use Rattle.std.specs.Prelude.{List, ℕ, ltb}
use Rattle.decide.specs.Refusal.{Rule}
use Rattle.sheet.specs.Part.{text_order}

-- Its order: 11, 21, 22. 22: the text is shorter than 13056 bytes, the 256 lines that there are at most.
abbrev pub totals_order : (S cubeLength textLength : ℕ) → List Rule
totals_order S cubeLength textLength = text_order S cubeLength (ltb textLength 13056)
