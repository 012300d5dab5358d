-- A step of a curve on one axis, from sample i to sample i + 1 of n, as a sum of the gaps between its points.
use Rattle.std.specs.Prelude.{◌≡◌, [], ◌∷◌, ℕ, suc, ◌+◌, ◌-◌, ◌*◌, ℤ, pos, ◌+ℤ◌, ◌-ℤ◌, ◌*ℤ◌}
use Rattle.bezier.specs.Exact.{value}

-- The steps after this one.
abbrev pub after : (n i : ℕ) → ℕ
after n i = n - suc i

module _ (n i : ℕ) where
  -- The weights of the gaps between points 0 and 1, 1 and 2, 2 and 3. As natural numbers they are not negative.
  unfoldable pub first_weight : ℕ
  first_weight = 3 * after n i * after n i + 3 * after n i + 1

  unfoldable pub middle_weight : ℕ
  middle_weight = 6 * i * after n i + 3 * i + 3 * after n i + 1

  unfoldable pub last_weight : ℕ
  last_weight = 3 * i * i + 3 * i + 1

-- From one value to another, up or down.
abbrev pub ◌to◌ : ℕ → ℕ → ℤ
v to w = pos w -ℤ pos v

infix 68 ◌to◌
-- Where g k is the coordinate of point k: the step, over n × n × n, is the sum of the gaps, up or down, by their weights,
-- and these add up to 3 × n × n.
pub record SumOfGaps (n i : ℕ) (g : ℕ → ℕ) : Type 0 where
  pub step : value (n ∷ []) g (i ∷ []) to value (n ∷ []) g (suc i ∷ []) ≡
      pos (first_weight n i) *ℤ (g 0 to g 1) +ℤ pos (middle_weight n i) *ℤ (g 1 to g 2) +ℤ
      pos (last_weight n i) *ℤ (g 2 to g 3)
  pub weights_add_up : first_weight n i + middle_weight n i + last_weight n i ≡ 3 * n * n
