-- The lines of a listing: the heading and one for each marked cell. A number in columns has no line feed, so numbers in a
-- line are one line.
use mathlib.Core.Path.{◌≡◌, refl, ◌∙◌, ap}
use mathlib.Core.Bool.{Bool, true, false, cond}
use mathlib.Core.List.{List, [], ◌∷◌, ◌++◌}
use Prim.Native.Nat.{ℕ, zero, suc, ◌+◌, ◌*◌, ◌/◌, ◌%◌}
use native.Mathlib.Omega.{arith}
use lib.Dec.{eqb, ltb}
use lib.ListN.{length, replicate, take}
use borrow.Author.Tests.{ne_eqb}
use Rattle.decide.specs.Some.{some_of}
use Rattle.decide.proofs.Truth.{both_false}
use Rattle.sheet.specs.Field.{in_columns}
use Rattle.sheet.specs.Line.{before, lines, in_line, as_line}
use Rattle.sheet.specs.Printed.{cell_line, cell_lines, heading, listing, marked_cells}

-- No byte is a line feed.
abbrev NoFeed : List ℕ → Type 0
NoFeed l = some_of (λ b. eqb b 10) l ≡ false

no_feed_append : (a b : List ℕ) → NoFeed a → NoFeed b → NoFeed (a ++ b)
unfolding some_of
no_feed_append [] b f g = g
no_feed_append (x ∷ a) b f g =
    let w = both_false (eqb x 10) (some_of (λ c. eqb c 10) a) f in rw w.0 (no_feed_append a b w.1 g)

blanks_no_feed : (k : ℕ) → NoFeed (replicate k 32)
unfolding some_of
blanks_no_feed zero = refl
blanks_no_feed (suc k) = blanks_no_feed k

columns_no_feed : (w v : ℕ) → NoFeed (in_columns w v)
unfolding in_columns some_of
columns_no_feed zero v = refl
columns_no_feed (suc w) v =
    no_feed_append (cond (ltb v 10) (replicate w 32) (in_columns w (v / 10))) ((48 + v % 10) ∷ [])
    (by_test (ltb v 10) (columns_no_feed w (v / 10)))
    (rw (ne_eqb (48 + v % 10) 10 (λ e. omega (arith, e))))
  where
    by_test : (b : Bool) → NoFeed (in_columns w (v / 10)) → NoFeed (cond b (replicate w 32) (in_columns w (v / 10)))
    by_test true f = blanks_no_feed w
    by_test false f = f

-- The bytes are one line, whatever follows.
abbrev OneLine : List ℕ → Type 0
OneLine l = (rest : List ℕ) → lines (l ++ rest) ≡ l ∷ lines rest

feed_line : OneLine (10 ∷ [])
unfolding lines before
feed_line rest = ends (lines rest)
  where
    ends : (ls : List (List ℕ)) → before 10 ls ≡ (10 ∷ []) ∷ ls
    ends [] = refl
    ends (l ∷ ls) = refl

one_line : (a l : List ℕ) → NoFeed a → OneLine l → OneLine (a ++ l)
unfolding lines before some_of
one_line [] l f o rest = o rest
one_line (b ∷ a) l f o rest =
    let w = both_false (eqb b 10) (some_of (λ c. eqb c 10) a) f in ap (before b) (one_line a l w.1 o rest) ∙ rw w.0

numbers_line : (w : ℕ) (vs : List ℕ) → OneLine (in_line w vs)
unfolding in_line
numbers_line w [] = feed_line
numbers_line w (v ∷ vs) = one_line (in_columns w v) (in_line w vs) (columns_no_feed w v) (numbers_line w vs)

heading_line : OneLine heading
unfolding some_of
heading_line = one_line (take 20 heading) (10 ∷ []) refl feed_line

cells_lines : (S p : ℕ) (grid : List ℕ) → length (lines (cell_lines S p grid)) ≡ marked_cells grid
unfolding cell_lines cell_line marked_cells lines
cells_lines S p [] = refl
cells_lines S p (mark ∷ grid) = by_test (eqb mark 0) (cells_lines S (suc p) grid)
  where
    numbers : List ℕ
    numbers = p % S ∷ p / S % S ∷ p / (S * S) ∷ mark ∷ []

    by_test : (b : Bool) → length (lines (cell_lines S (suc p) grid)) ≡ marked_cells grid →
        length (lines (cond b [] (as_line numbers) ++ cell_lines S (suc p) grid)) ≡ cond b 0 1 + marked_cells grid
    by_test true e = e ∙ omega arith
    by_test false e = ap length (numbers_line 5 numbers (cell_lines S (suc p) grid)) ∙ omega (arith, e)

-- A listing has a line for each marked cell, and its heading.
pub listing_lines : (S : ℕ) (grid : List ℕ) → length (lines (listing S grid)) ≡ marked_cells grid + 1
unfolding listing
listing_lines S grid = ap length (heading_line (cell_lines S 0 grid)) ∙ omega (arith, cells_lines S 0 grid)
