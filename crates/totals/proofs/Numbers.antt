-- Every number of a line fits its 10 columns: a sum over the cells of one mark is at most that over all cells.
use mathlib.Core.Path.{◌≡◌, ◌∙◌, ap}
use mathlib.Core.Bool.{Bool, true, false, cond}
use mathlib.Core.List.{List, [], ◌∷◌}
use Prim.Native.Nat.{ℕ, zero, suc, ◌-◌, ◌*◌, ◌^◌, ◌≤◌, ◌<◌}
use native.Mathlib.Nat.{mul-one, mul-le-mul}
use native.Mathlib.Omega.{arith}
use lib.Dec.{T, eqb}
use lib.ListN.{length, get_or}
use Rattle.cube.specs.Cube.{Axis, x_axis, y_axis, z_axis, volume, cell_at}
use Rattle.sheet.specs.Field.{after_blanks, is_number, decimal, in_columns}
use Rattle.sheet.proofs.Numbers.{columns_hold}
use Rattle.totals.specs.Totals.{sum_over, count, sum, numbers}
use Rattle.totals.specs.Sums.{sum_from}
use Rattle.totals.proofs.Ranges.{sum_constant, all_cells_twice}

-- Over one mark at most what it is over all.
pub sum_at_most : (f : ℕ → ℕ) (mark p : ℕ) (cube : List ℕ) → sum_over f mark p cube ≤ sum_from p (length cube) f
unfolding sum_over sum_from
sum_at_most f mark p [] = omega arith
sum_at_most f mark p (b ∷ cube) = omega (arith, term (eqb b mark), sum_at_most f mark (suc p) cube)
  where
    term : (s : Bool) → cond s (f p) 0 ≤ f p
    term true = omega arith
    term false = omega arith

pub count_at_most : (cube : List ℕ) (mark : ℕ) → count cube mark ≤ length cube
count_at_most cube mark =
    rw (sum_constant 0 (length cube) 1, mul-one) at (sum_at_most (λ p. 1) mark 0 cube)

module _ (S : ℕ) (cube : List ℕ) (most : S ≤ 64) (size : length cube ≡ volume S) where
  few : volume S ≤ 262144
  few = mul-le-mul (mul-le-mul most most) most

  pub count_small : (mark : ℕ) → count cube mark ≤ 262144
  count_small mark = omega (arith, count_at_most cube mark, few)

  -- At most 262144 × 63 / 2.
  pub sum_small : (a : Axis) (mark : ℕ) → sum S a cube mark ≤ 8257536
  sum_small a mark =
      let all = sum_at_most (λ p. cell_at S p a) mark 0 cube in
      let twice : 2 * sum_from 0 (length cube) (λ p. cell_at S p a) ≡ volume S * (S - 1) =
      ap (λ n. 2 * sum_from 0 n (λ p. cell_at S p a)) size ∙ all_cells_twice S a in
      let less : S - 1 ≤ 63 = omega arith in
      let bound : volume S * (S - 1) ≤ 262144 * 63 = mul-le-mul few less in
      omega (arith, all, twice, bound)

  -- The five numbers of a line.
  pub numbers_fit : (mark : ℕ) → mark < 256 → (k : ℕ) → get_or (numbers S cube mark) k 0 < 10 ^ 10
  numbers_fit mark small zero = omega arith
  numbers_fit mark small (suc zero) = omega (arith, count_small mark)
  numbers_fit mark small (suc (suc zero)) = omega (arith, sum_small x_axis mark)
  numbers_fit mark small (suc (suc (suc zero))) = omega (arith, sum_small y_axis mark)
  numbers_fit mark small (suc (suc (suc (suc zero)))) = omega (arith, sum_small z_axis mark)
  numbers_fit mark small (suc (suc (suc (suc (suc k))))) = omega arith

  -- So what stands in its columns after the blanks is the number, whole.
  pub numbers_whole : (mark : ℕ) → mark < 256 → (k : ℕ) →
      let after = after_blanks (in_columns 10 (get_or (numbers S cube mark) k 0)) in
      T (is_number after) × (decimal 0 after ≡ get_or (numbers S cube mark) k 0)
  numbers_whole mark small k = columns_hold 9 (get_or (numbers S cube mark) k 0) (numbers_fit mark small k)
