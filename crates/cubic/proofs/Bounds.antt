-- Bounds on the value and the differences of a blend with control values within Q, for indices from 0 to n: n³Q for the
-- value, which is a weighted mean, and 120n²Q for each difference. Both follow the shape of the expressions.
use Prim.Native.Nat.{ℕ, zero, suc, ◌+◌, ◌-◌, ◌*◌, ◌≤◌, ◌<◌}
use native.Mathlib.Nat.{le_trans, mul-le-mul, mul-le-mul_right}
use native.Mathlib.Omega.{arith}
use lib.IntN.{ℤ, pos, negsuc, nat_abs, ◌+ℤ◌, ◌*ℤ◌}
use Rattle.integers.specs.Magnitude.{Within}
use Rattle.integers.proofs.Magnitude.{within_add, within_mul, within_self, within_pos, within_weaken}
use Rattle.integers.proofs.Natural.{pos_sub}
use Rattle.bezier.specs.Exact.{blend}
use Rattle.bezier.proofs.Mean.{blend_constant}
use Rattle.cubic.specs.Blend.{blendℤ, samples, surface}
use Rattle.cubic.specs.Differences.{delta, differences_at}
use Rattle.cubic.specs.Basis.{dot}
use Rattle.cubic.specs.Room.{Each, Level, Startable, Fields}
use Rattle.cubic.proofs.Orders.{every_order}
use Rattle.cubic.proofs.Rows.{row_delta}
use Rattle.cubic.proofs.Across.{delta_same}
use Rattle.cubic.proofs.Closed.{coef3, coef2, coef1, coef0, first_closed, second_closed, third_closed}

-- An integer times one within Q.
multiple : {Q : ℕ} {q : ℤ} (z : ℤ) → Within Q q → Within (nat_abs z * Q) (z *ℤ q)
multiple z b = within_mul (within_self z) b

-- The coefficients of control values within Q.
module _ {Q : ℕ} {q0 q1 q2 q3 : ℤ} (e : Each Q q0 q1 q2 q3) where
  -- A row of the matrix times the control values.
  row_within : (a b c d : ℤ) →
      Within (nat_abs a * Q + nat_abs b * Q + nat_abs c * Q + nat_abs d * Q) (a *ℤ q0 +ℤ b *ℤ q1 +ℤ c *ℤ q2 +ℤ d *ℤ q3)
  row_within a b c d =
      within_add
      (within_add (within_add (multiple a e.first) (multiple b e.second)) (multiple c e.third))
      (multiple d e.fourth)

  pub coef3_within : Within (8 * Q) (coef3 q0 q1 q2 q3)
  unfolding dot
  coef3_within = within_weaken (row_within (negsuc 0) (pos 3) (negsuc 2) (pos 1)) (omega arith)

  pub coef2_within : Within (12 * Q) (coef2 q0 q1 q2 q3)
  unfolding dot
  coef2_within = within_weaken (row_within (pos 3) (negsuc 5) (pos 3) (pos 0)) (omega arith)

  pub coef1_within : Within (6 * Q) (coef1 q0 q1 q2 q3)
  unfolding dot
  coef1_within = within_weaken (row_within (negsuc 2) (pos 3) (pos 0) (pos 0)) (omega arith)

  pub coef0_within : Within Q (coef0 q0 q1 q2 q3)
  unfolding dot
  coef0_within = within_weaken (row_within (pos 1) (pos 0) (pos 0) (pos 0)) (omega arith)

-- The value is within n³Q: the weights are not negative and add up to n³.
value_within : {Q n i : ℕ} {q0 q1 q2 q3 : ℤ} → Each Q q0 q1 q2 q3 → i ≤ n →
    Within (n * n * n * Q) (samples (pos n) q0 q1 q2 q3 i)
unfolding samples blendℤ blend
value_within {Q} {n} {i} e h =
    let k : ℕ = n - i in
    rw (← blend_constant Q h, ← pos_sub h)
    (within_add
    (within_add
    (within_add
    (multiple (pos (k * k * k)) e.first)
    (multiple (pos (3 * i * k * k)) e.second))
    (multiple (pos (3 * i * i * k)) e.third))
    (multiple (pos (i * i * i)) e.fourth))

-- Where 1 ≤ L, a product grows with each factor L.
pub more_factors : (L Q : ℕ) → 1 ≤ L → (Q ≤ L * Q) × (L * Q ≤ L * L * Q)
more_factors L Q h =
    let a = mul-le-mul_right Q h in
    let b = mul-le-mul_right (L * Q) h in
    (omega (arith, a), omega (arith, b))

-- For counts and indices up to L, with 1 ≤ L.
module _ {L Q i : ℕ} {n q0 q1 q2 q3 : ℤ} (some : 1 ≤ L) (e : Each Q q0 q1 q2 q3) (count : Within L n) (h : i ≤ L) where
  abbrev index : Within L (pos i)
  index = within_pos h

  -- The first difference is within 120L²Q.
  first_within : Within (120 * (L * L * Q)) (delta 1 (samples n q0 q1 q2 q3) i)
  first_within =
      let f = more_factors L Q some in
      rw (first_closed n q0 q1 q2 q3 i)
      (within_weaken
      (within_add
      (within_add
      (within_mul (coef3_within e)
      (within_add (within_add (within_mul (multiple (pos 3) index) index) (multiple (pos 3) index)) (within_self (pos 1))))
      (within_mul (within_mul count (coef2_within e)) (within_add (multiple (pos 2) index) (within_self (pos 1)))))
      (within_mul (within_mul count count) (coef1_within e)))
      (omega arith))

  -- So is the second.
  second_within : Within (120 * (L * L * Q)) (delta 2 (samples n q0 q1 q2 q3) i)
  second_within =
      let f = more_factors L Q some in
      rw (second_closed n q0 q1 q2 q3 i)
      (within_weaken
      (within_add
      (within_mul (multiple (pos 6) (coef3_within e)) (within_add index (within_self (pos 1))))
      (within_mul (multiple (pos 2) count) (coef2_within e)))
      (omega arith))

  -- And the third.
  third_within : Within (120 * (L * L * Q)) (delta 3 (samples n q0 q1 q2 q3) i)
  third_within =
      let f = more_factors L Q some in
      rw (third_closed n q0 q1 q2 q3 i)
      (within_weaken (multiple (pos 6) (coef3_within e)) (omega arith))

-- At a level, every field is within R from sample 0 to sample n.
pub level_fields : {L Q R n i : ℕ} {q0 q1 q2 q3 : ℤ} → Level L Q R → Each Q q0 q1 q2 q3 → n ≤ L → i ≤ n →
    Fields R (differences_at (samples (pos n) q0 q1 q2 q3) i)
unfolding differences_at
level_fields {L} {Q} {n = n} l e hn hi =
    let h = le_trans hi hn in
    let cube : n * n * n * Q ≤ L * L * L * Q = mul-le-mul_right Q (mul-le-mul (mul-le-mul hn hn) hn) in
    record {
      value = within_weaken (value_within e hi) (le_trans cube l.values);
      d1 = within_weaken (first_within l.some e (within_pos hn) h) l.differences;
      d2 = within_weaken (second_within l.some e (within_pos hn) h) l.differences;
      d3 = within_weaken (third_within l.some e (within_pos hn) h) l.differences;
    }

-- And a cubic may start.
pub level_start : {L Q R n : ℕ} {q0 q1 q2 q3 : ℤ} → Level L Q R → Each Q q0 q1 q2 q3 → n ≤ L →
    Startable (pos n) q0 q1 q2 q3
level_start {L} {Q} {R} l e h =
    record { limit = L; size = Q; bound = R; level = l; count = within_pos h; controls = e }

-- A difference of order 0 to 3 is one of the fields, and these are the fields.
module _ {R : ℕ} (f : ℕ → ℤ) (i : ℕ) where
  pub field_within : Fields R (differences_at f i) → (k : ℕ) → k < 4 → Within R (delta k f i)
  unfolding differences_at delta
  field_within b zero h = b.value
  field_within b (suc zero) h = b.d1
  field_within b (suc (suc zero)) h = b.d2
  field_within b (suc (suc (suc zero))) h = b.d3
  field_within b (suc (suc (suc (suc k)))) h = absurd (omega arith)

  pub within_fields : ((k : ℕ) → k < 4 → Within R (delta k f i)) → Fields R (differences_at f i)
  unfolding differences_at delta
  within_fields w = every_order (λ k. delta k f i) w

-- Four sequences whose fields at i are within Q are control values of a surface.
module _ {Q : ℕ} (f0 f1 f2 f3 : ℕ → ℤ) (i : ℕ)
    (b0 : Fields Q (differences_at f0 i)) (b1 : Fields Q (differences_at f1 i))
    (b2 : Fields Q (differences_at f2 i)) (b3 : Fields Q (differences_at f3 i)) where
  pub differences_each : (k : ℕ) → k < 4 → Each Q (delta k f0 i) (delta k f1 i) (delta k f2 i) (delta k f3 i)
  differences_each k h = record {
    first = field_within f0 i b0 k h;
    second = field_within f1 i b1 k h;
    third = field_within f2 i b2 k h;
    fourth = field_within f3 i b3 k h;
  }

  -- Its differences along u, of order q, of those along t, of order k, are within R.
  pub surface_within : {L R m j : ℕ} → Level L Q R → m ≤ L → j ≤ m → (k q : ℕ) → k < 4 → q < 4 →
      Within R (delta q (λ b. delta k (λ a. surface (pos m) f0 f1 f2 f3 a b) i) j)
  surface_within {m = m} {j} l hm hj k q hk hq =
      rw (delta_same q (row_delta (pos m) f0 f1 f2 f3 k i) j)
      (field_within _ j (level_fields l (differences_each k hk) hm hj) q hq)
