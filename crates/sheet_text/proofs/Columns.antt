-- A number in columns, column by column: its last digit, before it the last digit of a tenth of it, and so on, and
-- blanks where nothing is left.
use mathlib.Core.Path.{◌≡◌, refl, ◌∙◌}
use mathlib.Core.Logic.{⊎_elim}
use mathlib.Core.Bool.{cond}
use mathlib.Core.List.{List, [], ◌∷◌, ◌++◌}
use Prim.Native.Nat.{ℕ, zero, suc, ◌/◌, ◌<◌}
use native.Mathlib.Numerals.{add-one}
use native.Mathlib.Omega.{arith}
use lib.Dec.{ltb, eqb}
use lib.ListN.{length, length-append, replicate, replicate-append-replicate}
use Rattle.decide.proofs.Truth.{decided, true_of, false_of, less, not_less, equal}
use Rattle.sheet.specs.Field.{in_columns}
use Rattle.sheet_text.specs.Column.{last_of, column_of}

-- The columns before the last, of what is left.
unfoldable pub before : (w v : ℕ) → List ℕ
before zero v = []
before (suc w) v = before w (v / 10) ++ column_of v ∷ []

-- As many as asked for.
pub length_before : (w v : ℕ) → length (before w v) ≡ w
unfolding before
length_before zero v = refl
length_before (suc w) v = rw (length-append, length_before w (v / 10), add-one)

-- Blanks, where nothing is left.
blanks : (w : ℕ) → before w 0 ≡ replicate w 32
unfolding before column_of
blanks zero = refl
blanks (suc w) = rw (blanks w) (replicate-append-replicate w 1 32 ∙ rw add-one)

-- The columns before a number's last are those of a tenth of it.
tenth : (w v : ℕ) → ((u : ℕ) → 0 < u → in_columns w u ≡ before w u) →
    cond (ltb v 10) (replicate w 32) (in_columns w (v / 10)) ≡ before w (v / 10)
tenth w v some =
    ⊎_elim
    (λ t. let l = (less v 10).0 t in let none : v / 10 ≡ 0 = omega arith in rw (true_of (ltb v 10) t, none, blanks w))
    (λ f. let l = not_less v 10 f in rw (false_of (ltb v 10) f) (some (v / 10) (omega arith)))
    (decided (ltb v 10))

-- Where something is left, the last column has a digit.
some_left : (w v : ℕ) → 0 < v → in_columns w v ≡ before w v
unfolding in_columns before column_of
some_left zero v more = refl
some_left (suc w) v more =
    rw (false_of (eqb v 0) (λ t. let e = (equal v 0).0 t in omega arith), tenth w v (some_left w))

-- A number in columns: its last digit, after the columns of a tenth of it.
pub in_columns_lem : (w v : ℕ) → in_columns (suc w) v ≡ before w (v / 10) ++ last_of v ∷ []
unfolding in_columns
in_columns_lem w v = rw (tenth w v (some_left w))
