-- An input's first line: the lines are it and those of what is left, and it runs to the first line feed.
use mathlib.Core.Path.{◌≡◌, refl, sym, ◌∙◌, ap}
use mathlib.Core.Bool.{Bool, true, false, cond, not, ◌&&◌, ◌||◌, and-false, and-eq-true_iff}
use mathlib.Core.List.{List, [], ◌∷◌, ◌++◌}
use Prim.Native.Nat.{ℕ, zero, suc, ◌+◌, ◌*◌, ◌≤◌, ◌<◌}
use native.Mathlib.Omega.{arith}
use lib.Dec.{eqb, lit≤}
use lib.ListN.{length, get_or, take, drop, length-append}
use lib.Seq.{drop-cons, get_or_at, length-take-le}
use borrow.Author.Tests.{eq-eqb, ne_eqb, eqb-true, not-false}
use Rattle.std.specs.List.{list_any}
use Rattle.sheet.specs.Line.{before, lines, is_wrong}
use Rattle.sheet_lines.specs.Read.{first_line}

-- The lines of an input are its first line and the lines of what is left.
pub lines_first : (b : ℕ) (bs : List ℕ) →
    lines (b ∷ bs) ≡ first_line (b ∷ bs) ∷ lines (drop (length (first_line (b ∷ bs))) (b ∷ bs))
unfolding lines before first_line
lines_first b [] = by_test (eqb b 10)
  where
    by_test : (t : Bool) → (b ∷ []) ∷ [] ≡ (b ∷ cond t [] []) ∷ lines (drop (length (cond {A = List ℕ} t [] [])) [])
    by_test true = refl
    by_test false = refl
lines_first b (c ∷ cs) =
    let later = lines_first c cs in ap (before b) later ∙ by_test (eqb b 10) (first_line (c ∷ cs)) later
  where
    by_test : (t : Bool) (l : List ℕ) → lines (c ∷ cs) ≡ l ∷ lines (drop (length l) (c ∷ cs)) →
        cond t ((b ∷ []) ∷ l ∷ lines (drop (length l) (c ∷ cs))) ((b ∷ l) ∷ lines (drop (length l) (c ∷ cs))) ≡
        (b ∷ cond t [] l) ∷ lines (drop (length (cond t [] l)) (c ∷ cs))
    by_test true l later = ap ((b ∷ []) ∷◌) (sym later)
    by_test false l later = refl

-- The first line is what the input begins with.
pub first_prefix : (rest : List ℕ) → first_line rest ≡ take (length (first_line rest)) rest
unfolding first_line
first_prefix [] = refl
first_prefix (b ∷ bs) = ap (b ∷◌) (by_test (eqb b 10) (first_line bs) (first_prefix bs))
  where
    by_test : (t : Bool) (l : List ℕ) → l ≡ take (length l) bs → cond t [] l ≡ take (length (cond t [] l)) bs
    by_test true l later = refl
    by_test false l later = later

-- It is no longer than the input.
pub first_within : (rest : List ℕ) → length (first_line rest) ≤ length rest
unfolding first_line
first_within [] = lit≤ tt
first_within (b ∷ bs) = by_test (eqb b 10) (first_line bs) (first_within bs)
  where
    by_test : (t : Bool) (l : List ℕ) → length l ≤ length bs → suc (length (cond t [] l)) ≤ suc (length bs)
    by_test true l later = omega arith
    by_test false l later = omega arith

-- Some byte is a line feed.
abbrev pub feeds : List ℕ → Bool
feeds l = list_any (λ b. eqb b 10) l

-- It ends within bytes that have a line feed among them,
feed_ends : (n : ℕ) (rest : List ℕ) → feeds (take n rest) ≡ true → length (first_line rest) ≤ n
unfolding first_line
feed_ends zero rest e = cc
feed_ends (suc n) [] e = omega arith
feed_ends (suc n) (b ∷ bs) e = by_test (eqb b 10) (first_line bs) e (feed_ends n bs)
  where
    by_test : (t : Bool) (l : List ℕ) → (t || feeds (take n bs)) ≡ true → (feeds (take n bs) ≡ true → length l ≤ n) →
        suc (length (cond t [] l)) ≤ suc n
    by_test true l f later = omega arith
    by_test false l f later = omega (arith, later f)

-- and goes on over bytes that have none.
no_feed : (n : ℕ) (rest : List ℕ) → n < length rest → feeds (take n rest) ≡ false →
    first_line rest ≡ take n rest ++ first_line (drop n rest)
unfolding first_line
no_feed zero rest h e = refl
no_feed (suc n) [] h e = absurd (omega arith)
no_feed (suc n) (b ∷ bs) h e = ap (b ∷◌) (by_test (eqb b 10) (first_line bs) e (no_feed n bs (omega arith)))
  where
    by_test : (t : Bool) (l : List ℕ) → (t || feeds (take n bs)) ≡ false →
        (feeds (take n bs) ≡ false → l ≡ take n bs ++ first_line (drop n bs)) →
        cond t [] l ≡ take n bs ++ first_line (drop n bs)
    by_test true l f later = cc
    by_test false l f later = later f

module _ (fields : ℕ) (line : List ℕ) where
  -- A line that is not wrong has 5 bytes a field and a line feed.
  pub line_length : is_wrong fields line ≡ false → length line ≡ 5 * fields + 1
  unfolding is_wrong
  line_length e =
      let b = (and-eq-true_iff (eqb (length line) (5 * fields + 1)) (eqb (get_or line (5 * fields) 0) 10)).0 (not-false _ e) in
      eqb-true (length line) (5 * fields + 1) b.0

  -- A shorter line is wrong.
  short_wrong : length line ≤ 5 * fields → is_wrong fields line ≡ true
  unfolding is_wrong
  short_wrong h = rw (ne_eqb (length line) (5 * fields + 1) (λ e. omega arith))

-- After 5 bytes a field, the next byte decides.
by_byte : (fields : ℕ) (start : List ℕ) (b : ℕ) (more : List ℕ) → length start ≡ 5 * fields →
    is_wrong fields (start ++ first_line (b ∷ more)) ≡ not (eqb b 10)
unfolding is_wrong first_line
by_byte fields start b more e =
    rw (get_or_at start b (cond (eqb b 10) [] (first_line more)) 0 (5 * fields) e) (by_test (eqb b 10) (first_line more))
  where
    by_test : (t : Bool) (l : List ℕ) → not (eqb (length (start ++ b ∷ cond t [] l)) (5 * fields + 1) && t) ≡ not t
    by_test true l = rw (eq-eqb (length (start ++ b ∷ [])) (5 * fields + 1) (length-append start (b ∷ []) ∙ ap (◌+ 1) e))
    by_test false l = ap not (and-false (eqb (length (start ++ b ∷ l)) (5 * fields + 1)))

module _ (fields : ℕ) (rest : List ℕ) where
  -- An input that is too short does not begin with a line of as many fields.
  pub short_rest : length rest ≤ 5 * fields → is_wrong fields (first_line rest) ≡ true
  short_rest h = short_wrong fields (first_line rest) (omega (arith, first_within rest))

  -- Nor does one with a line feed among their bytes.
  pub broken_line : feeds (take (5 * fields) rest) ≡ true → is_wrong fields (first_line rest) ≡ true
  broken_line e = short_wrong fields (first_line rest) (feed_ends (5 * fields) rest e)

  -- With none among them, the byte after them decides.
  pub byte_decides : 5 * fields < length rest → feeds (take (5 * fields) rest) ≡ false →
      is_wrong fields (first_line rest) ≡ not (eqb (get_or rest (5 * fields) 0) 10)
  byte_decides h none =
      let n = 5 * fields in
      let whole = no_feed n rest h none ∙ ap (λ l. take n rest ++ first_line l) (drop-cons rest n 0 h) in
      ap (is_wrong fields) whole ∙
      by_byte fields (take n rest) (get_or rest n 0) (drop (suc n) rest) (length-take-le n rest (omega arith))
