-- The columns of a number, one by one.
use Rattle.std.specs.Prelude.{cond, ℕ, ◌+◌, ◌%◌, eqb}

-- The column of a number's last digit.
abbrev pub last_of : ℕ → ℕ
last_of v = 48 + v % 10

-- The column of the last digit of what is left of a number: a blank if nothing is left.
unfoldable pub column_of : ℕ → ℕ
column_of v = cond (eqb v 0) 32 (last_of v)
