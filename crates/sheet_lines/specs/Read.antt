-- What is read of a field, of the input's next line and of a curve line.
use Rattle.std.specs.Prelude.{Bool, cond, not, ◌&&◌, List, [], ◌∷◌, ℕ, ◌+◌, ltb, eqb, Option, Some, None}
use Rattle.decide.specs.Some.{some_below}
use Rattle.drawing.specs.declared.Choice.TheVariants.{Over}
use Rattle.drawing.specs.Refusals.{count_out}
use Rattle.curve.specs.declared.Curve.{Curve}
use Rattle.sheet.specs.Field.{is_bad, value_of}
use Rattle.sheet.specs.Line.{number, some_bad}
use Rattle.sheet.specs.Sheet.{mark_out, stroke_of}

-- The value of a good field.
unfoldable pub read_field : List ℕ → Option ℕ
read_field f = cond (is_bad f) None (Some (value_of f))

-- The first line of what is left of an input: up to and including its line feed, or to the end.
unfoldable pub first_line : (rest : List ℕ) → List ℕ
first_line [] = []
first_line (b ∷ bs) = b ∷ cond (eqb b 10) [] (first_line bs)

-- A curve line that a curve record holds: all fields good, a mark from 1 to 255, every coordinate a byte.
unfoldable pub fits : (line : List ℕ) → Bool
fits l = not (some_bad 14 l) && not (mark_out (number l 0)) && not (some_below 12 (λ k. ltb 255 (number l (k + 2))))

-- What a curve line that fits is read as: its curve, which goes over.
abbrev pub fit_read : (line : List ℕ) → Curve
fit_read l = let s = stroke_of l in record { points = s.points; steps = s.steps; mark = s.mark; choice = Over }

-- One that does not is read as none.
unfoldable pub read_line : (line : List ℕ) → Option Curve
read_line l = cond (fits l) (Some (fit_read l)) None

-- The first that applies of 42, a bad field, 12, the mark, and 13, the step count, and otherwise 14.
abbrev pub first_of : (bad markWrong countWrong : Bool) → ℕ
first_of bad markWrong countWrong = cond bad 42 (cond markWrong 12 (cond countWrong 13 14))

-- The number that refuses a curve line that does not fit, in the order of a curve line. What is left after 13 is a
-- coordinate above 255, which is not below any side: 14.
unfoldable pub unfit_refusal : (line : List ℕ) → ℕ
unfit_refusal l = first_of (some_bad 14 l) (mark_out (number l 0)) (count_out 512 (number l 1))
