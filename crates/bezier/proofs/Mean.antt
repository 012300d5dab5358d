-- An exact value is a mean of control values: the weights are not negative, so a value grows with the control values,
-- and they add up to the scale. So it lies between the smallest and the largest control value.
use mathlib.Core.Path.{◌≡◌, ◌∙◌, ap}
use mathlib.Core.List.{List, [], ◌∷◌}
use Prim.Native.Nat.{ℕ, ◌+◌, ◌-◌, ◌*◌, ◌≤◌, ◌<◌}
use native.Mathlib.Nat.{mul-le-mul_left, mul-le-mul_right}
use native.Mathlib.Omega.{arith}
use lib.Dec.{lit<}
use Rattle.bezier.specs.Exact.{blend, scale, points, value, Sample, no_index, index}

-- No weight is negative.
blend_grows : (n i : ℕ) {a b c d a' b' c' d' : ℕ} → a ≤ a' → b ≤ b' → c ≤ c' → d ≤ d' →
    blend n i a b c d ≤ blend n i a' b' c' d'
unfolding blend
blend_grows n i ha hb hc hd =
    omega (
      arith,
      mul-le-mul_left ((n - i) * (n - i) * (n - i)) ha,
      mul-le-mul_left (3 * i * (n - i) * (n - i)) hb,
      mul-le-mul_left (3 * i * i * (n - i)) hc,
      mul-le-mul_left (i * i * i) hd,
    )

-- (k + i)³ is the sum of the weights at n = k + i.
cube_of_sum : (k i m : ℕ) →
    k * k * k * m + 3 * i * k * k * m + 3 * i * i * k * m + i * i * i * m ≡ (k + i) * (k + i) * (k + i) * m
cube_of_sum k i m = omega arith

-- The weights add up to n × n × n.
pub blend_constant : {n i : ℕ} (m : ℕ) → i ≤ n → blend n i m m m m ≡ n * n * n * m
unfolding blend
blend_constant {n} {i} m h =
    let e : (n - i) + i ≡ n = omega arith in
    cube_of_sum (n - i) i m ∙ ap (λ l. l * l * l * m) e

-- Point number p of quarter k is one of the object's.
in_quarter : (k q p : ℕ) → k < 4 → p < q → k * q + p < 4 * q
in_quarter k q p hk hp = omega (arith, mul-le-mul_right q hk)

-- A value grows with the control values.
value_grows : (ns is : List ℕ) (g h : ℕ → ℕ) → ((k : ℕ) → k < points ns → g k ≤ h k) → value ns g is ≤ value ns h is
unfolding value points
value_grows [] is g h le = le 0 (lit< tt)
value_grows (n ∷ ns) [] g h le = omega arith
value_grows (n ∷ ns) (i ∷ is) g h le =
    let q : ℕ = points ns in
    let part : (k : ℕ) → k < 4 → value ns (λ p. g (k * q + p)) is ≤ value ns (λ p. h (k * q + p)) is =
    λ k hk. value_grows ns is (λ p. g (k * q + p)) (λ p. h (k * q + p))
    (λ p hp. le (k * q + p) (in_quarter k q p hk hp)) in
    blend_grows n i (part 0 (lit< tt)) (part 1 (lit< tt)) (part 2 (lit< tt)) (part 3 (lit< tt))

-- The same control values have the same values.
pub value_same : (ns is : List ℕ) (g h : ℕ → ℕ) → ((k : ℕ) → k < points ns → g k ≡ h k) → value ns g is ≡ value ns h is
value_same ns is g h e =
    omega (
      arith,
      value_grows ns is g h (λ k l. omega (arith, e k l)),
      value_grows ns is h g (λ k l. omega (arith, e k l)),
    )

-- Equal control values are every sample's value.
value_constant : {ns is : List ℕ} (m : ℕ) → Sample ns is → value ns (λ k. m) is ≡ scale ns * m
unfolding value scale
value_constant m no_index = omega arith
value_constant m (index {n} {ns = ns} h s) = rw (value_constant m s, blend_constant (scale ns * m) h) (omega arith)

module _ {ns is : List ℕ} (g : ℕ → ℕ) (m : ℕ) (s : Sample ns is) where
  -- No exact value is below the smallest control value.
  pub value_above : ((k : ℕ) → k < points ns → m ≤ g k) → scale ns * m ≤ value ns g is
  value_above h = rw (← value_constant m s) (value_grows ns is (λ k. m) g h)

  -- No exact value is above the largest control value.
  pub value_below : ((k : ℕ) → k < points ns → g k ≤ m) → value ns g is ≤ scale ns * m
  value_below h = rw (← value_constant m s) (value_grows ns is g (λ k. m) h)
