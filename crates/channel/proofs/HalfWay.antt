-- The half-way value lies between its channels. Twice the lower channel is held, so it is at most the rounded sum; the
-- lower channel is held, so it is at most the rounded half of that; and likewise from above.
use mathlib.Core.Path.{◌≡◌, refl, sym, ap, ◌∙◌, subst}
use Prim.Native.Nat.{ℕ, zero, suc, ◌+◌, ◌-◌, ◌*◌, ◌^◌, ◌≤◌, ◌<◌}
use native.Mathlib.Nat.{le_refl, mul-pos, mul-le-mul_right, pow-succ'}
use native.Mathlib.Omega.{arith}
use mathlib.Core.Bool.{Bool, true, false, not, cond, ◌&&◌, true≢false}
use borrow.Author.Tests.{ltb-false, le-ltb}
use lib.IntN.{ℤ, pos, negsuc}
use lib.Dec.{T, ltb, lit<, eqb→eq}
use lib.Pow.{pow_pos}
use lib.Ieee.{Float, nan, inf, fin, up, down, binary32, round, sum, add, mul, le, fits}
use lib.Ieee.Exact.{HasValue}
use lib.Ieee.Scale.{grid}
use lib.Ieee.Positive.{num, den, den_pos}
use Rattle.channel.specs.Channel.{in_range}
use Rattle.channel.specs.HalfWay.{half32, minus_zero32, lower, higher}
use Rattle.channel.proofs.Order.{
  NonNegative,
  zero_size,
  le_fractions,
  le_or_ge,
  range_nonneg,
  range_le_one,
}
use Rattle.channel.proofs.Held.{
  Held,
  channel_held,
  double_held,
  round_value,
  round_nonneg,
  rounded_above,
  rounded_below,
  rounded_le_two,
}

-- A product with 0.5 is half of the fraction, rounded.
mul_half : (x : Float) (n d : ℕ) → HasValue x false n d
    → mul binary32 x half32 ≡ round binary32 false (num x * 1) (den x * 2)
unfolding mul
mul_half nan n d v = absurd v
mul_half (inf s) n d v = absurd v
mul_half (fin true m e) n d v = absurd (true≢false v.0)
mul_half (fin false m e) n d v = refl

-- The rounded sum of two fractions.
abbrev rounded_sum : ℕ → ℕ → ℕ → ℕ → Float
rounded_sum na da nb db = round binary32 false (na * db + nb * da) (da * db)

module _ (na da nb db : ℕ) (A : 0 < da) (B : 0 < db) (a-le : na ≤ da) (b-le : nb ≤ db) where
  -- The rounded sum.
  abbrev total : Float
  total = rounded_sum na da nb db

  -- The exact sum is at most 2.
  sum_le_two : na * db + nb * da ≤ 2 * (da * db)
  sum_le_two =
      let p : na * db ≤ da * db = mul-le-mul_right db a-le in
      let q : nb * da ≤ db * da = mul-le-mul_right da b-le in
      omega arith

  -- The rounded sum, halved, is at most 2.
  half_le_two : num total * 1 ≤ 2 * (den total * 2)
  half_le_two = let h = rounded_le_two (na * db + nb * da) (da * db) (mul-pos A B) sum_le_two in omega arith

  -- The half of the rounded sum is rounded once more.
  half_is : mul binary32 total half32 ≡ round binary32 false (num total * 1) (den total * 2)
  half_is =
      mul_half total (grid binary32 (na * db + nb * da) (da * db)) (2 ^ 149)
      (round_value (na * db + nb * da) (da * db) (mul-pos A B) sum_le_two)

  -- It is not below 0.
  half_nonneg : NonNegative (mul binary32 total half32)
  half_nonneg =
      subst NonNegative (sym half_is)
      (round_nonneg (num total * 1) (den total * 2) (mul-pos (den_pos total) (lit< tt)) half_le_two)

  -- A fraction at most both is at most the half, if it and its double are held.
  half_above : (n c : ℕ) → 0 < c → Held n c → Held (2 * n) c → n * da ≤ na * c → n * db ≤ nb * c
      → n * den (mul binary32 total half32) ≤ num (mul binary32 total half32) * c
  half_above n c C H H2 p q =
      let a : n * da * db ≤ na * c * db = mul-le-mul_right db p in
      let b : n * db * da ≤ nb * c * da = mul-le-mul_right da q in
      let l = rounded_above (2 * n) c (na * db + nb * da) (da * db) C (mul-pos A B) H2 sum_le_two (omega arith) in
      subst (λ (x : Float). n * den x ≤ num x * c) (sym half_is)
      (rounded_above n c (num total * 1) (den total * 2) C (mul-pos (den_pos total) (lit< tt)) H half_le_two
      (omega arith))

  -- A fraction at least both is at least the half, if it and its double are held.
  half_below : (n c : ℕ) → 0 < c → Held n c → Held (2 * n) c → na * c ≤ n * da → nb * c ≤ n * db
      → num (mul binary32 total half32) * c ≤ n * den (mul binary32 total half32)
  half_below n c C H H2 p q =
      let a : na * c * db ≤ n * da * db = mul-le-mul_right db p in
      let b : nb * c * da ≤ n * db * da = mul-le-mul_right da q in
      let l = rounded_below (2 * n) c (na * db + nb * da) (da * db) C (mul-pos A B) H2 sum_le_two (omega arith) in
      subst (λ (x : Float). num x * c ≤ n * den x) (sym half_is)
      (rounded_below n c (num total * 1) (den total * 2) C (mul-pos (den_pos total) (lit< tt)) H half_le_two
      (omega arith))

-- The bounds, from what holds of a channel that is at most both and of one that is at least both.
bounds : (a b r : Float) → NonNegative a → NonNegative b
    → ((num a * den b ≤ num b * den a) → T (le a r) × T (le r b))
    → ((num b * den a ≤ num a * den b) → T (le b r) × T (le r a))
    → T (le (lower a b) r) × T (le r (higher a b))
bounds a b r p q h k = go (le a b) (le_fractions a b p q).0 (le_or_ge a b p q)
  where
    go : (x : Bool) → (T x → num a * den b ≤ num b * den a) → (T (not x) → num b * den a ≤ num a * den b)
        → T (le (cond x a b) r) × T (le r (cond x b a))
    go true y n = h (y tt)
    go false y n = k (n tt)

-- The half of the rounded sum lies between.
half_of_sum : (a b : Float) → T (fits binary32 a) → T (fits binary32 b) → T (in_range a) → T (in_range b)
    → T (le (lower a b) (mul binary32 (rounded_sum (num a) (den a) (num b) (den b)) half32))
    × T (le (mul binary32 (rounded_sum (num a) (den a) (num b) (den b)) half32) (higher a b))
half_of_sum a b F G u v =
    let r = mul binary32 (rounded_sum (num a) (den a) (num b) (den b)) half32 in
    let p = range_nonneg a u in
    let q = range_nonneg b v in
    let i = range_le_one a u in
    let j = range_le_one b v in
    let n = half_nonneg (num a) (den a) (num b) (den b) (den_pos a) (den_pos b) i j in
    let low = half_above (num a) (den a) (num b) (den b) (den_pos a) (den_pos b) i j in
    let high = half_below (num a) (den a) (num b) (den b) (den_pos a) (den_pos b) i j in
    let aa = le_refl (num a * den a) in
    let bb = le_refl (num b * den b) in
    bounds a b r p q
    (λ h. (
      (le_fractions a r p n).1 (low (num a) (den a) (den_pos a) (channel_held a F u) (double_held a F u) aa h),
      (le_fractions r b n q).1 (high (num b) (den b) (den_pos b) (channel_held b G v) (double_held b G v) h bb),
    ))
    (λ h. (
      (le_fractions b r q n).1 (low (num b) (den b) (den_pos b) (channel_held b G v) (double_held b G v) h bb),
      (le_fractions r a n p).1 (high (num a) (den a) (den_pos a) (channel_held a F u) (double_held a F u) aa h),
    ))

-- A sum in which a minus stands only before 0, and not before both, is the rounded sum of the sizes.
sum_clear : (s t : Bool) (a b c : ℕ) → (T s → a ≡ 0) → (T t → b ≡ 0) → T (not (s && t))
    → sum binary32 s a t b c ≡ round binary32 false (a + b) c
unfolding sum
sum_clear true true a b c p q n = absurd n
sum_clear false false a b c p q n = refl
sum_clear true false a b c p q n = go (ltb a b) refl
  where
    go : (x : Bool) → ltb a b ≡ x
        → cond x (round binary32 false (b - a) c) (round binary32 (ltb b a) (a - b) c) ≡ round binary32 false (a + b) c
    go true h = let z = p tt in let e : b - a ≡ a + b = omega arith in rw e
    go false h =
        let z = p tt in
        let e : a - b ≡ a + b = omega (arith, ltb-false a b h) in
        let f : ltb b a ≡ false = le-ltb b a (omega arith) in
        rw (e, f)
sum_clear false true a b c p q n =
    let z = q tt in
    let e : a - b ≡ a + b = omega arith in
    let f : ltb a b ≡ false = le-ltb a b (omega arith) in
    rw (f, e)

-- The sum of two finite values.
add_is : (s : Bool) (m : ℕ) (e : ℤ) (t : Bool) (n : ℕ) (d : ℤ) → add binary32 (fin s m e) (fin t n d)
    ≡ sum binary32 s (m * up e * down d) t (n * up d * down e) (down e * down d)
unfolding add
add_is s m e t n d = refl

-- 2 ^ e is 1 only for the exponent 0.
pub exponent_zero : (e : ℤ) → up e * down e ≡ 1 → e ≡ pos 0
exponent_zero (pos zero) h = refl
exponent_zero (pos (suc k)) h = let z : ⊥ = omega (arith, h, pow_pos k, pow-succ' 2 k) in absurd z
exponent_zero (negsuc k) h = let z : ⊥ = omega (arith, h, pow_pos k, pow-succ' 2 k) in absurd z

-- An f32 with a minus whose significand is 0 is minus zero.
minus_zero_lem : (m : ℕ) (e : ℤ) → T (fits binary32 (fin true m e)) → m ≡ 0 → fin true m e ≡ minus_zero32
unfolding fits
minus_zero_lem zero e F z = ap (λ (x : ℤ). fin true 0 x) (exponent_zero e (eqb→eq (up e * down e) 1 F))
minus_zero_lem (suc m) e F z = let y : ⊥ = omega arith in absurd y

-- Two minus zeros give minus zero.
pub minus_zeros : mul binary32 (add binary32 minus_zero32 minus_zero32) half32 ≡ minus_zero32
unfolding mul add
minus_zeros = refl

-- What is shown: the half-way value is at least the lower channel and at most the higher.
abbrev Between : Float → Float → Type 0
Between a b =
    T (le (lower a b) (mul binary32 (add binary32 a b) half32))
    × T (le (mul binary32 (add binary32 a b) half32) (higher a b))

-- Between two minus zeros.
at_minus_zeros : Between minus_zero32 minus_zero32
unfolding mul add le
at_minus_zeros = (tt, tt)

-- Between two channels that are not both minus zero.
not_both : (s : Bool) (m : ℕ) (e : ℤ) (t : Bool) (n : ℕ) (d : ℤ) → T (fits binary32 (fin s m e))
    → T (fits binary32 (fin t n d)) → T (in_range (fin s m e)) → T (in_range (fin t n d)) → T (not (s && t))
    → Between (fin s m e) (fin t n d)
not_both s m e t n d F G u v k =
    let a = fin s m e in
    let b = fin t n d in
    let p : T s → m * up e * down d ≡ 0 = λ x. zero_size m (up e) (down d) (range_nonneg a u x) in
    let q : T t → n * up d * down e ≡ 0 = λ x. zero_size n (up d) (down e) (range_nonneg b v x) in
    let clear = sum_clear s t (m * up e * down d) (n * up d * down e) (down e * down d) p q k in
    subst (λ (x : Float). T (le (lower a b) (mul binary32 x half32)) × T (le (mul binary32 x half32) (higher a b)))
    (sym (add_is s m e t n d ∙ clear)) (half_of_sum a b F G u v)

-- The half-way value of two channels lies between them.
pub half_between : (a b : Float) → T (fits binary32 a) → T (fits binary32 b) → T (in_range a) → T (in_range b)
    → Between a b
half_between nan b F G u v = absurd (range_nonneg nan u)
half_between (inf s) b F G u v = absurd (range_nonneg (inf s) u)
half_between (fin s m e) nan F G u v = absurd (range_nonneg nan v)
half_between (fin s m e) (inf t) F G u v = absurd (range_nonneg (inf t) v)
half_between (fin true m e) (fin true n d) F G u v =
    rw (minus_zero_lem m e F (range_nonneg (fin true m e) u tt), minus_zero_lem n d G (range_nonneg (fin true n d) v tt))
    at_minus_zeros
half_between (fin true m e) (fin false n d) F G u v = not_both true m e false n d F G u v tt
half_between (fin false m e) (fin true n d) F G u v = not_both false m e true n d F G u v tt
half_between (fin false m e) (fin false n d) F G u v = not_both false m e false n d F G u v tt
