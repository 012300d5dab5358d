-- The table of marks that one pass over a cube fills. A mark has two words: its count and its sum of x, 32 bits each, and
-- its sums of y and z. Word k of mark m is in two parts, at 4 × m + k for even x and at 4 × m + 2 + k for odd x.
use Rattle.std.specs.Prelude.{◌≡◌, List, [], ◌∷◌, ℕ, suc, ◌+◌, ◌*◌, ◌/◌, ◌%◌, ◌≤◌, ◌<◌, length, get_or, set}
use Rattle.cube.specs.Cube.{x_axis, y_axis, z_axis, cell_at}
use Rattle.totals.specs.Totals.{sum_over}
use Rattle.cube_totals.specs.declared.tally.Row.{Row}
use Rattle.cube_totals.specs.declared.tally.Total.{Total}

-- 2 to the 32: the second number of a word counts so much.
abbrev pub two_to32 : ℕ
two_to32 = 4294967296

-- What a cell adds to the two words of its mark.
abbrev pub words : (x y z : ℕ) → List ℕ
words x y z = (1 + two_to32 * x) ∷ (y + two_to32 * z) ∷ []

-- What the cell at byte p adds to word k.
abbrev pub adds : (S k p : ℕ) → ℕ
adds S k p = get_or (words (cell_at S p x_axis) (cell_at S p y_axis) (cell_at S p z_axis)) k 0

-- Word k of a mark.
abbrev pub word : (table : List ℕ) (m k : ℕ) → ℕ
word table m k = get_or table (4 * m + k) 0 + get_or table (4 * m + 2 + k) 0

-- The table of a cube, or of its first bytes.
pub record Table (S : ℕ) (cube table : List ℕ) : Type 0 where
  pub size : length table ≡ 1024
  pub holds : (m k : ℕ) → m < 256 → k < 2 → word table m k ≡ sum_over (adds S k) m 0 cube

-- The four numbers of a mark.
abbrev pub numbers_of : (table : List ℕ) (mark : ℕ) → List ℕ
numbers_of table m =
    word table m 0 % two_to32 ∷ word table m 0 / two_to32 ∷ word table m 1 % two_to32 ∷ word table m 1 / two_to32 ∷ []

abbrev pub four_of : Total → List ℕ
four_of t = t.count ∷ t.x ∷ t.y ∷ t.z ∷ []

-- A number more at one place.
abbrev pub plus : (table : List ℕ) (i v : ℕ) → List ℕ
plus table i v = set table i (get_or table i 0 + v)

-- Numbers more, side by side.
unfoldable pub plus_all : (table : List ℕ) (i : ℕ) (vs : List ℕ) → List ℕ
plus_all table i [] = table
plus_all table i (v ∷ vs) = plus_all (plus table i v) (suc i) vs

-- The cell (x, y, z) more, of the given mark.
abbrev pub added : (mark x y z : ℕ) (table : List ℕ) → List ℕ
added mark x y z table = plus_all table (4 * mark + 2 * (x % 2)) (words x y z)

-- The cells of a row more, from x on.
unfoldable pub added_row : (marks : List ℕ) (x : ℕ) (row : Row) (table : List ℕ) → List ℕ
added_row [] x r table = table
added_row (m ∷ ms) x r table = added_row ms (suc x) r (added m x r.y r.z table)

-- Every number of the table is at most so much.
pub record Below (most : ℕ) (table : List ℕ) : Type 0 where
  pub size : length table ≡ 1024
  pub small : (i : ℕ) → get_or table i 0 ≤ most
