-- A step of a curve is a sum of the gaps between its points, with weights that add up to 3 × n × n. So it is at most one
-- cell long where three times each gap is at most n.
use mathlib.Core.Path.{◌≡◌, ◌∙◌, ap}
use mathlib.Core.List.{[], ◌∷◌}
use Prim.Native.Nat.{ℕ, suc, ◌+◌, ◌-◌, ◌*◌, ◌≤◌, ◌<◌}
use native.Mathlib.Nat.{mul-le-mul_left}
use native.Mathlib.Omega.{arith}
use lib.IntN.{pos, ◌+ℤ◌, ◌*ℤ◌}
use Rattle.integers.specs.Magnitude.{Within}
use Rattle.integers.proofs.Difference.{zval}
use Rattle.integers.proofs.Magnitude.{within_self, within_weaken, within_add, within_mul}
use Rattle.bezier.specs.Exact.{blend, value}
use Rattle.bezier.proofs.Readings.{curve_value}
use Rattle.gaps.specs.Gaps.{gap}
use Rattle.gaps.specs.Weights.{after, first_weight, middle_weight, last_weight, ◌to◌, SumOfGaps}

-- The two blends with r = n - (i + 1) steps after this one: what the step takes from each coordinate and gives to the next.
moved : (r i a b c d : ℕ) →
    (r * r * r * a + 3 * suc i * r * r * b + 3 * suc i * suc i * r * c + suc i * suc i * suc i * d) +
    ((3 * r * r + 3 * r + 1) * a + (6 * i * r + 3 * i + 3 * r + 1) * b + (3 * i * i + 3 * i + 1) * c) ≡
    (suc r * suc r * suc r * a + 3 * i * suc r * suc r * b + 3 * i * i * suc r * c + i * i * i * d) +
    ((3 * r * r + 3 * r + 1) * b + (6 * i * r + 3 * i + 3 * r + 1) * c + (3 * i * i + 3 * i + 1) * d)
moved r i a b c d = omega arith

added : (r i : ℕ) →
    (3 * r * r + 3 * r + 1) + (6 * i * r + 3 * i + 3 * r + 1) + (3 * i * i + 3 * i + 1) ≡ 3 * (r + suc i) * (r + suc i)
added r i = omega arith

module _ {n i : ℕ} (h : i < n) where
  one_more : n - i ≡ suc (after n i)
  one_more = omega arith

  blends : (a b c d : ℕ) →
      blend n (suc i) a b c d + (first_weight n i * a + middle_weight n i * b + last_weight n i * c) ≡
      blend n i a b c d + (first_weight n i * b + middle_weight n i * c + last_weight n i * d)
  unfolding blend first_weight middle_weight last_weight
  blends a b c d = rw one_more (moved (after n i) i a b c d)

  add_up : first_weight n i + middle_weight n i + last_weight n i ≡ 3 * n * n
  unfolding first_weight middle_weight last_weight
  add_up =
      let e : after n i + suc i ≡ n = omega arith in
      added (after n i) i ∙ ap (λ k. 3 * k * k) e

  pub sum_of_gaps : (g : ℕ → ℕ) → SumOfGaps n i g
  sum_of_gaps g = record {
    step = rw (curve_value g n i, curve_value g n (suc i)) (signed_step _ _ _ _ _ _ _ _ _ (blends (g 0) (g 1) (g 2) (g 3)));
    weights_add_up = add_up;
  }
    where
      signed_step : (v w p q r a b c d : ℕ) → w + (p * a + q * b + r * c) ≡ v + (p * b + q * c + r * d) →
          v to w ≡ pos p *ℤ (a to b) +ℤ pos q *ℤ (b to c) +ℤ pos r *ℤ (c to d)
      signed_step v w p q r a b c d e = simp zval (omega arith)

-- A gap is a bound of the way from one coordinate to the other.
gap_within : (g h : ℕ) {G : ℕ} → gap g h ≤ G → Within G (g to h)
unfolding gap
gap_within g h l = simp zval (omega arith, omega arith)

-- Where three times each gap is at most n, a step is at most one cell long.
pub step_within : {n i : ℕ} (g : ℕ → ℕ) (G : ℕ) → i < n → 3 * G ≤ n →
    gap (g 0) (g 1) ≤ G → gap (g 1) (g 2) ≤ G → gap (g 2) (g 3) ≤ G →
    Within (n * n * n) (value (n ∷ []) g (i ∷ []) to value (n ∷ []) g (suc i ∷ []))
step_within {n} {i} g G h few l0 l1 l2 =
    let s = sum_of_gaps h g in
    rw s.step
    (within_weaken
    (within_add
    (within_add (within_mul (within_self (pos (first_weight n i))) (gap_within (g 0) (g 1) l0))
    (within_mul (within_self (pos (middle_weight n i))) (gap_within (g 1) (g 2) l1)))
    (within_mul (within_self (pos (last_weight n i))) (gap_within (g 2) (g 3) l2)))
    (at_most (first_weight n i) (middle_weight n i) (last_weight n i) s.weights_add_up))
  where
    -- (p + q + r) × G = 3 × n × n × G, at most n × n × n.
    at_most : (p q r : ℕ) → p + q + r ≡ 3 * n * n → p * G + q * G + r * G ≤ n * n * n
    at_most p q r e =
        let all : p * G + q * G + r * G ≡ (p + q + r) * G = omega arith in
        rw (all, e) (omega (arith, mul-le-mul_left (n * n) few))
