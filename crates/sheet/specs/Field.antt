-- Document 01, "The stroke sheet": every field is a whole number in 5 columns, right-justified with blanks before it,
-- without leading zeros (a lone 0 is allowed). Bytes are ASCII: a blank is 32, the digits are 48 to 57.
use Rattle.std.specs.Prelude.{Bool, true, false, cond, not, ◌&&◌, List, [], ◌∷◌, ◌++◌, ℕ, zero, suc, ◌+◌, ◌-◌, ◌*◌, ◌/◌, ◌%◌, leb, ltb, eqb, length, replicate}

-- A digit.
unfoldable pub is_digit : ℕ → Bool
is_digit b = leb 48 b && leb b 57

-- Every byte is a digit.
unfoldable pub are_digits : List ℕ → Bool
are_digits [] = true
are_digits (b ∷ bs) = is_digit b && are_digits bs

-- The bytes after the blanks.
unfoldable pub after_blanks : List ℕ → List ℕ
after_blanks [] = []
after_blanks (b ∷ bs) = cond (eqb b 32) (after_blanks bs) (b ∷ bs)

-- A whole number: digits, at least one, and no leading zero but a lone 0.
unfoldable pub is_number : List ℕ → Bool
is_number [] = false
is_number (b ∷ []) = is_digit b
is_number (b ∷ c ∷ bs) = not (eqb b 48) && are_digits (b ∷ c ∷ bs)

-- Reading a field hands back the digits, empty for a bad field.
unfoldable pub digits_of : List ℕ → List ℕ
digits_of field = cond (eqb (length field) 5 && is_number (after_blanks field)) (after_blanks field) []

-- A bad field.
unfoldable pub is_bad : List ℕ → Bool
is_bad field = eqb (length (digits_of field)) 0

-- The number that digits stand for, after a number that was read before them.
unfoldable pub decimal : (before : ℕ) → List ℕ → ℕ
decimal before [] = before
decimal before (d ∷ ds) = decimal (10 * before + (d - 48)) ds

-- The value of a field.
unfoldable pub value_of : List ℕ → ℕ
value_of field = decimal 0 (digits_of field)

-- A number right-justified in columns, with blanks before it: its last digit, after the number without it.
unfoldable pub in_columns : (width v : ℕ) → List ℕ
in_columns zero v = []
in_columns (suc w) v = cond (ltb v 10) (replicate w 32) (in_columns w (v / 10)) ++ (48 + v % 10) ∷ []

-- A number in 5 columns.
abbrev pub columns : ℕ → List ℕ
columns v = in_columns 5 v
