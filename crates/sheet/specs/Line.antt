-- Document 01, "The stroke sheet": every line ends with a line feed (byte 10), the last included; a line runs to its
-- line feed or to the end of the input, and lines count from 1.
use Rattle.std.specs.Prelude.{Bool, cond, not, ◌&&◌, List, [], ◌∷◌, ◌++◌, ℕ, ◌+◌, ◌*◌, eqb, length, get_or, take, drop}
use Rattle.decide.specs.Some.{some_below}
use Rattle.sheet.specs.Field.{is_bad, value_of, in_columns}

-- A byte before the lines that follow it: a line feed is a line of its own, any other byte begins the next line.
unfoldable pub before : (b : ℕ) (lines : List (List ℕ)) → List (List ℕ)
before b [] = (b ∷ []) ∷ []
before b (l ∷ ls) = cond (eqb b 10) ((b ∷ []) ∷ l ∷ ls) ((b ∷ l) ∷ ls)

-- The lines of an input, each with its line feed if it has one.
unfoldable pub lines : List ℕ → List (List ℕ)
lines [] = []
lines (b ∷ bs) = before b (lines bs)

-- 41: a line of wrong length, or a missing line feed.
unfoldable pub is_wrong : (fields : ℕ) (line : List ℕ) → Bool
is_wrong fields line = not (eqb (length line) (5 * fields + 1) && eqb (get_or line (5 * fields) 0) 10)

-- Field k of a line, from 0.
abbrev pub field : (line : List ℕ) (k : ℕ) → List ℕ
field line k = take 5 (drop (5 * k) line)

-- Its value.
abbrev pub number : (line : List ℕ) (k : ℕ) → ℕ
number line k = value_of (field line k)

-- 42: a bad field.
unfoldable pub some_bad : (fields : ℕ) (line : List ℕ) → Bool
some_bad fields line = some_below fields (λ k. is_bad (field line k))

-- Numbers as a line: each in as many columns as asked, and a line feed.
unfoldable pub in_line : (width : ℕ) → List ℕ → List ℕ
in_line width [] = 10 ∷ []
in_line width (v ∷ vs) = in_columns width v ++ in_line width vs

-- A line of a sheet or of a listing: 5 columns.
abbrev pub as_line : List ℕ → List ℕ
as_line vs = in_line 5 vs
