-- Sums over ranges. The places of a cube are rows of S places: what depends on a place's last digit to the base S alone
-- is summed once for each row, and what depends on the other digits S times. So each coordinate, summed over all cells,
-- is S × S times 0 + 1 + .. + (S - 1).
use mathlib.Core.Path.{◌≡◌, refl, sym, ◌∙◌, ap, ap₂}
use Prim.Native.Nat.{ℕ, zero, suc, ◌+◌, ◌-◌, ◌*◌, ◌/◌, ◌%◌, ◌≤◌, ◌<◌}
use native.Mathlib.Nat.{add-zero, zero-add, add-suc, suc-add, add_comm, mul-zero, mul-suc, suc-mul, mul-add, mul_assoc, mul-sub, mul-one}
use native.Mathlib.Nat.{mul_left_comm, mod-eq_of_lt, div-eq_of_lt, add-mul-mod_self_left, add-mul-div_left, div-div-eq-div-mul}
use native.Mathlib.Omega.{arith}
use Rattle.cube.specs.Cube.{Axis, x_axis, y_axis, z_axis, volume, cell_at}
use Rattle.totals.specs.Sums.{sum_from}

-- Equal terms.
pub sum_same : (p n : ℕ) (f g : ℕ → ℕ) → ((i : ℕ) → p ≤ i → i < p + n → f i ≡ g i) → sum_from p n f ≡ sum_from p n g
unfolding sum_from
sum_same p zero f g h = refl
sum_same p (suc n) f g h =
    ap₂ ◌+◌ (h p (omega arith) (omega arith))
    (sum_same (suc p) n f g (λ i from until. h i (omega arith) (omega arith)))

-- The same term again and again.
pub sum_constant : (p n v : ℕ) → sum_from p n (λ i. v) ≡ n * v
unfolding sum_from
sum_constant p zero v = omega arith
sum_constant p (suc n) v = rw (sum_constant (suc p) n v, suc-mul) (omega arith)

-- Terms that are at most so much.
pub sum_bounded : (p n most : ℕ) (f : ℕ → ℕ) → ((i : ℕ) → p ≤ i → i < p + n → f i ≤ most) → sum_from p n f ≤ n * most
unfolding sum_from
sum_bounded p zero most f h = omega arith
sum_bounded p (suc n) most f h =
    let later = sum_bounded (suc p) n most f (λ i from until. h i (omega arith) (omega arith)) in
    rw suc-mul (omega (arith, later, h p (omega arith) (omega arith)))

-- Sums of two terms.
pub sum_both : (p n : ℕ) (f g : ℕ → ℕ) → sum_from p n (λ i. f i + g i) ≡ sum_from p n f + sum_from p n g
unfolding sum_from
sum_both p zero f g = refl
sum_both p (suc n) f g = rw (sum_both (suc p) n f g) (omega arith)

-- A common factor.
sum_scaled : (p n k : ℕ) (f : ℕ → ℕ) → sum_from p n (λ i. k * f i) ≡ k * sum_from p n f
unfolding sum_from
sum_scaled p zero k f = sym (mul-zero k)
sum_scaled p (suc n) k f = rw (sum_scaled (suc p) n k f, mul-add)

-- A range in two.
sum_append : (p a b : ℕ) (f : ℕ → ℕ) → sum_from p (a + b) f ≡ sum_from p a f + sum_from (p + a) b f
unfolding sum_from
sum_append p zero b f = rw (zero-add b, add-zero p, zero-add (sum_from p b f))
sum_append p (suc a) b f = rw (suc-add, sum_append (suc p) a b f, add-suc, suc-add) (omega arith)

-- A range that begins later.
sum_shifted : (p c n : ℕ) (f : ℕ → ℕ) → sum_from (p + c) n f ≡ sum_from p n (λ i. f (i + c))
unfolding sum_from
sum_shifted p c zero f = refl
sum_shifted p c (suc n) f = rw (← suc-add, sum_shifted (suc p) c n f)

module _ (S : ℕ) where
  -- By rows of S, from row q on.
  rows_from : (q n : ℕ) (f : ℕ → ℕ) →
      sum_from (S * q) (S * n) f ≡ sum_from q n (λ r. sum_from 0 S (λ x. f (x + S * r)))
  unfolding sum_from
  rows_from q zero f = rw mul-zero
  rows_from q (suc n) f =
      let size : S * suc n ≡ S + S * n = mul-suc S n ∙ add_comm (S * n) S in
      let next : S * q + S ≡ S * suc q = sym (mul-suc S q) in
      let first : sum_from (S * q) S f ≡ sum_from 0 S (λ x. f (x + S * q)) =
      ap (λ p. sum_from p S f) (sym (zero-add (S * q))) ∙ sum_shifted 0 (S * q) S f in
      rw size (sum_append (S * q) S (S * n) f) ∙
      ap₂ ◌+◌ first (ap (λ p. sum_from p (S * n) f) next ∙ rows_from (suc q) n f)

  by_rows : (n : ℕ) (f : ℕ → ℕ) → sum_from 0 (S * n) f ≡ sum_from 0 n (λ q. sum_from 0 S (λ x. f (x + S * q)))
  by_rows n f = ap (λ p. sum_from p (S * n) f) (sym (mul-zero S)) ∙ rows_from 0 n f

  -- A number of the last digit.
  sum_low : (n : ℕ) (f : ℕ → ℕ) → sum_from 0 (S * n) (λ p. f (p % S)) ≡ n * sum_from 0 S f
  sum_low n f =
      by_rows n (λ p. f (p % S)) ∙
      sum_same 0 n _ (λ q. sum_from 0 S f)
      (λ q from until. sum_same 0 S _ f
      (λ x least most. ap f (add-mul-mod_self_left x S q ∙ mod-eq_of_lt (omega arith)))) ∙
      sum_constant 0 n (sum_from 0 S f)

  -- A number of the digits before it.
  sum_high : (n : ℕ) (f : ℕ → ℕ) → sum_from 0 (S * n) (λ p. f (p / S)) ≡ S * sum_from 0 n f
  sum_high n f =
      by_rows n (λ p. f (p / S)) ∙
      sum_same 0 n _ (λ q. S * f q)
      (λ q from until. sum_same 0 S _ (λ x. f q) (λ x least most. ap f (digit q x (omega arith))) ∙ sum_constant 0 S (f q)) ∙
      sum_scaled 0 n S f
    where
      digit : (q x : ℕ) → x < S → (x + S * q) / S ≡ q
      digit q x l = let side : 0 < S = omega arith in add-mul-div_left x q side ∙ rw (div-eq_of_lt l) (zero-add q)

-- 0 + 1 + .. + (S - 1), twice.
triangle : (p n : ℕ) → 2 * sum_from p n (λ i. i) + n ≡ n * (2 * p + n)
unfolding sum_from
triangle p zero = omega arith
triangle p (suc n) = omega (arith, triangle (suc p) n)

-- Each coordinate over all cells, by the sum along one row.
coordinates : (S : ℕ) (a : Axis) → sum_from 0 (volume S) (λ p. cell_at S p a) ≡ S * (S * sum_from 0 S (λ i. i))
coordinates S x_axis = rw (mul_assoc S S S) (sum_low S (S * S) (λ i. i)) ∙ mul_assoc S S _
coordinates S y_axis =
    rw (mul_assoc S S S) (sum_high S (S * S) (λ q. q % S)) ∙ ap (S *◌) (sum_low S S (λ i. i))
coordinates S z_axis =
    sum_same 0 (volume S) _ (λ p. p / S / S) (λ p from until. sym (div-div-eq-div-mul p S S)) ∙
    rw (mul_assoc S S S) (sum_high S (S * S) (λ q. q / S)) ∙ ap (S *◌) (sum_high S S (λ i. i))

-- The sum of each coordinate over all cells of a cube, in closed form.
pub all_cells_twice : (S : ℕ) (a : Axis) → 2 * sum_from 0 (volume S) (λ p. cell_at S p a) ≡ volume S * (S - 1)
all_cells_twice S a =
    let t : ℕ = sum_from 0 S (λ i. i) in
    let row : 2 * t + S ≡ S * S = triangle 0 S ∙ ap (λ n. S * n) (zero-add S) in
    let less : S * (S - 1) ≡ S * S - S = mul-sub S S 1 ∙ ap (S * S -◌) (mul-one S) in
    let twice : 2 * t ≡ S * (S - 1) = rw less (omega (arith, row)) in
    ap (2 *◌) (coordinates S a) ∙ mul_left_comm 2 S (S * t) ∙ ap (S *◌) (mul_left_comm 2 S t ∙ ap (S *◌) twice) ∙
    sym (mul_assoc S S (S * (S - 1))) ∙ sym (mul_assoc (S * S) S (S - 1))

pub all_cells : (S : ℕ) (a : Axis) → sum_from 0 (volume S) (λ p. cell_at S p a) ≡ volume S * (S - 1) / 2
all_cells S a = rw (← all_cells_twice S a) (omega arith)
