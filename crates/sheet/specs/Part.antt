-- A listing, and the refusal line, written into a lent text: a listing in parts, by ranges of byte places.
use Rattle.std.specs.Prelude.{Bool, cond, not, ◌||◌, List, [], ◌∷◌, ◌++◌, ℕ, ◌+◌, ◌*◌, ltb, eqb, length, take, drop}
use Rattle.decide.specs.Refusal.{Rule, ◌when◌}
use Rattle.cube.specs.Cube.{side_out, volume}
use Rattle.sheet.specs.Printed.{cell_lines, heading}

-- The part of a listing for count places from byte p on; the part from byte 0 begins with the heading.
unfoldable pub part : (S p count : ℕ) (cube : List ℕ) → List ℕ
part S p count cube = cond (eqb p 0) heading [] ++ cell_lines S p (take count (drop p cube))

-- The order of a call that writes of a cube into a text: 11, 21, 22. When the text is too short, each call says itself.
unfoldable pub text_order : (S cubeLength : ℕ) (short : Bool) → List Rule
text_order S cubeLength short =
    11 when side_out S ∷
    21 when not (eqb cubeLength (volume S)) ∷
    22 when short ∷
    []

-- A part's order. 22: the text is shorter than 21 × (count + 1) bytes, the heading and a line for each place.
abbrev pub part_order : (S count cubeLength textLength : ℕ) → List Rule
part_order S count cubeLength textLength = text_order S cubeLength (ltb textLength (21 * (count + 1)))

-- The refusal line's order. 54: the number or the line is above 99999, which 5 columns do not hold. Document 01 has no
-- number for it. 22: the text is shorter than 18 bytes.
unfoldable pub line_order : (number line textLength : ℕ) → List Rule
line_order number line textLength =
    54 when (ltb 99999 number || ltb 99999 line) ∷
    22 when ltb textLength 18 ∷
    []

-- What a text holds with bytes written from its front.
abbrev pub over : (written text : List ℕ) → List ℕ
over written text = written ++ drop (length written) text
