-- The order for drawing and listing up to the step test.
use Rattle.std.specs.Prelude.{Bool, List, [], ◌∷◌, ℕ}
use Rattle.decide.specs.Some.{some_of}
use Rattle.decide.specs.Refusal.{Rule, ◌when◌}
use Rattle.cube.specs.Cube.{side_out}
use Rattle.drawing.specs.Refusals.{coordinate_out}

-- 11, 21, 12, 13, 22, 14, with what grid, mark, counts and list have to say; 15 comes after these.
unfoldable pub before_steps : (S : ℕ) (points : List ℕ) (grid_wrong markWrong count_out listShort : Bool) → List Rule
before_steps S points grid_wrong markWrong count_out listShort =
    11 when side_out S ∷
    21 when grid_wrong ∷
    12 when markWrong ∷
    13 when count_out ∷
    22 when listShort ∷
    14 when some_of (coordinate_out S) points ∷
    []
