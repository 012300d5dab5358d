-- What the numbers of all lines add up to: each byte of the cube counts for one mark alone, and a mark that has no line
-- adds nothing.
use mathlib.Core.Path.{◌≡◌, refl, sym, ◌∙◌, ap, ap₂}
use mathlib.Core.Logic.{⊎_elim}
use mathlib.Core.Bool.{Bool, true, false, cond}
use mathlib.Core.List.{List, [], ◌∷◌, ◌++◌}
use Prim.Native.Nat.{ℕ, zero, suc, ◌+◌, ◌-◌, ◌*◌, ◌/◌, ◌≤◌, ◌<◌}
use native.Mathlib.Nat.{zero-add, add-zero, suc-add, add-suc, mul-zero, mul-one, mul-add}
use native.Mathlib.Omega.{arith}
use lib.Dec.{eqb}
use lib.ListN.{length}
use Rattle.decide.proofs.Truth.{decided, true_of, false_of, equal}
use Rattle.cube.specs.Cube.{Axis, volume, cell_at}
use Rattle.totals.specs.Totals.{sum_over, count, sum, held_from, marks}
use Rattle.totals.specs.Sums.{sum_from, sum_of, Bytes}
use Rattle.totals.proofs.Ranges.{sum_constant, sum_both, all_cells}
use Rattle.totals.proofs.Marks.{by_held, with_held, without, sum_not_held}

-- One byte more.
pub sum_more : (f : ℕ → ℕ) (mark p : ℕ) (cube : List ℕ) (b : ℕ) →
    sum_over f mark p (cube ++ b ∷ []) ≡ sum_over f mark p cube + cond (eqb b mark) (f (p + length cube)) 0
unfolding sum_over
sum_more f mark p [] b = rw (add-zero p, add-zero, zero-add)
sum_more f mark p (a ∷ cube) b = rw (sum_more f mark (suc p) cube b, suc-add, ← add-suc) (omega arith)

-- Two numbers of each place, one with a factor.
pub sum_pair : (f g : ℕ → ℕ) (k mark p : ℕ) (cube : List ℕ) →
    sum_over (λ q. f q + k * g q) mark p cube ≡ sum_over f mark p cube + k * sum_over g mark p cube
unfolding sum_over
sum_pair f g k mark p [] = rw mul-zero
sum_pair f g k mark p (b ∷ cube) = rw (sum_pair f g k mark (suc p) cube, mul-add) (pair (eqb b mark) _ _)
  where
    pair : (s : Bool) (a c : ℕ) → cond s (f p + k * g p) 0 + (a + c) ≡ cond s (f p) 0 + a + (k * cond s (g p) 0 + c)
    pair true a c = omega arith
    pair false a c = rw mul-zero (omega arith)

-- A byte counts for the mark that it is: not for the marks above it, and among those of a range once.
module _ (b v : ℕ) where
  counts : ℕ → ℕ
  counts m = cond (eqb b m) v 0

  not_above : (m k : ℕ) → b < m → sum_from m k counts ≡ 0
  unfolding sum_from counts
  not_above m zero l = refl
  not_above m (suc k) l =
      rw (false_of (eqb b m) (λ t. let e = (equal b m).0 t in omega arith), zero-add) (not_above (suc m) k (omega arith))

  once : (m k : ℕ) → m ≤ b → b < m + k → sum_from m k counts ≡ v
  unfolding sum_from counts
  once m zero l h = absurd (omega arith)
  once m (suc k) l h =
      ⊎_elim
      (λ t. let e = (equal b m).0 t in
      rw (true_of (eqb b m) t, not_above (suc m) k (omega arith)) (add-zero v))
      (λ f. let n : ¬ (b ≡ m) = λ e. f ((equal b m).1 e) in
      let above : suc m ≤ b = omega arith in
      let within : b < suc m + k = omega arith in
      rw (false_of (eqb b m) f, zero-add) (once (suc m) k above within))
      (decided (eqb b m))

first_apart : (p n : ℕ) (f : ℕ → ℕ) → sum_from p (suc n) f ≡ f p + sum_from (suc p) n f
unfolding sum_from
first_apart p n f = refl

last_first : (a b : ℕ) → a + (b + 0) ≡ b + a
last_first a b = omega arith

-- Marks and marks after them.
sum_of_append : (f : ℕ → ℕ) (a b : List ℕ) → sum_of f (a ++ b) ≡ sum_of f a + sum_of f b
unfolding sum_of
sum_of_append f [] b = sym (zero-add (sum_of f b))
sum_of_append f (m ∷ a) b = rw (sum_of_append f a b) (omega arith)

module _ (f : ℕ → ℕ) where
  -- Over the marks 0 to 255 every byte is summed once.
  all_marks : (p : ℕ) (cube : List ℕ) → Bytes cube → sum_from 0 256 (λ m. sum_over f m p cube) ≡ sum_from p (length cube) f
  unfolding sum_over sum_from counts
  all_marks p [] bytes = sum_constant 0 256 0
  all_marks p (b ∷ cube) bytes =
      sum_both 0 256 (λ m. cond (eqb b m) (f p) 0) (λ m. sum_over f m (suc p) cube) ∙
      ap₂ ◌+◌ (once b (f p) 0 256 (omega arith) (omega (arith, bytes 0 (omega arith))))
      (all_marks (suc p) cube (λ q l. bytes (suc q) (omega arith)))

  -- Of a range of marks those that have a line add up to all of them.
  held_marks : (cube : List ℕ) (m k : ℕ) →
      sum_of (λ i. sum_over f i 0 cube) (held_from m k cube) ≡ sum_from m k (λ i. sum_over f i 0 cube)
  unfolding sum_of sum_from held_from
  held_marks cube m zero = refl
  held_marks cube m (suc k) =
      let later = held_marks cube (suc m) k in
      ⊎_elim
      (λ t. rw (with_held m k cube t) (ap (sum_over f m 0 cube +◌) later))
      (λ n. rw (without m k cube n, sum_not_held f m 0 cube n, zero-add) later)
      (by_held cube m)

  -- The lines of all marks, that of mark 0 last, add up to the sum over all places.
  pub adds_up : (cube : List ℕ) → Bytes cube → sum_of (λ m. sum_over f m 0 cube) (marks cube) ≡ sum_from 0 (length cube) f
  unfolding sum_of
  adds_up cube bytes =
      let g : ℕ → ℕ = λ m. sum_over f m 0 cube in
      sum_of_append g (held_from 1 255 cube) (0 ∷ []) ∙ rw (held_marks cube 1 255) (last_first (sum_from 1 255 g) (g 0)) ∙
      sym (first_apart 0 255 g) ∙ all_marks 0 cube bytes

-- The counts of all lines add up to the number of cells,
pub counts_add_up : (S : ℕ) (cube : List ℕ) → length cube ≡ volume S → Bytes cube →
    sum_of (count cube) (marks cube) ≡ volume S
counts_add_up S cube size bytes =
    adds_up (λ p. 1) cube bytes ∙ sum_constant 0 (length cube) 1 ∙ mul-one (length cube) ∙ size

-- and the sums to those over all cells, S × S × S times the mean coordinate (S - 1) / 2.
pub sums_add_up : (S : ℕ) (a : Axis) (cube : List ℕ) → length cube ≡ volume S → Bytes cube →
    sum_of (sum S a cube) (marks cube) ≡ volume S * (S - 1) / 2
sums_add_up S a cube size bytes =
    adds_up (λ p. cell_at S p a) cube bytes ∙ ap (λ n. sum_from 0 n (λ p. cell_at S p a)) size ∙ all_cells S a
