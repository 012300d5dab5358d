-- A hue in range: its whole part is 0 to 5, and the fractional part is exact and from 0 to below 1.
use mathlib.Core.Path.{◌≡◌, refl, sym, ap, ◌∙◌}
use Prim.Native.Nat.{ℕ, zero, suc, ◌+◌, ◌-◌, ◌*◌, ◌^◌, ◌≤◌, ◌<◌}
use native.Mathlib.Nat.{
  le_of_lt,
  le_of_suc-le-suc,
  lt_trans,
  sub-le,
  mul-sub,
  eq_of_mul-eq-mul_right,
  mul_comm,
  pow-le-pow_right,
  mul-lt-mul_of_pos_right,
  lt_of_mul-lt-mul_right,
  le_of_mul-le-mul_right,
  lt_of_not-le,
  lt_of_le_of_lt,
  mul_assoc,
  mul-pos,
  mul-le-mul_right,
  div-mul-le_self,
  lt-div-mul-add,
  div-lt_iff_lt-mul,
}
use native.Mathlib.Omega.{arith}
use mathlib.Core.Bool.{Bool, true, false, true≢false}
use borrow.Author.Tests.{ltb-true, ltb-false}
use lib.IntN.{pos}
use lib.Dec.{T, lit≤, lit<, lt→ltb}
use lib.Pow.{pow-add, pow_pos}
use lib.Ieee.{Float, nan, inf, fin, up, down, below, binary32, of_int, le, lt, fits, to_bits}
use lib.Ieee.Fits.{and_l, and_r, down_pos}
use lib.Ieee.Back.{round_whole}
use lib.Ieee.Exact.{HasValue}
use lib.Ieee.Positive.{num, den, den_pos}
use Rattle.decide.proofs.Truth.{true_of}
use Rattle.channel.specs.Channel.{in_range, zero32, one32}
use Rattle.channel.proofs.Order.{NonNegative, from_zero, zero_size, range_nonneg, value_nonneg, value_cross}
use Rattle.channel.proofs.Bits.{exponent_field, fraction_field, significand, exponent, significand_lt, bits_value}
use Rattle.channel.proofs.Held.{Held}
use Rattle.hsv.specs.Hue.{hue_in_range, six32}
use Rattle.hsv.specs.Channels.{whole_part, fractional_part}
use Rattle.hsv.proofs.Rounds.{held_times, sub_rounds, sub_range, rounds_exact}

-- ---- The order of a value from 0 up and a whole number, as `lt` finds it.
-- What a test of a against b tells: a < b where it holds, and b ≤ a where not.
abbrev pub Told : (answer : Bool) (a b : ℕ) → Type 0
Told true a b = a < b
Told false a b = b ≤ a

-- The test of ±a against b, with a minus only before 0.
signed_told : (s r : Bool) (a b : ℕ) → (T s → a ≡ 0) → below s a false b ≡ r → Told r a b
signed_told true true a b p e = let z = p tt in let l = ltb-true 0 (a + b) e in omega arith
signed_told true false a b p e = let l = ltb-false 0 (a + b) e in omega arith
signed_told false true a b p e = ltb-true a b e
signed_told false false a b p e = ltb-false a b e

-- The order of n / d and U / D, where U / D is the whole number c.
cross_told : (r : Bool) (n d U D c : ℕ) → 0 < D → U * 1 ≡ c * D → Told r (n * D) (U * d) → Told r n (c * d)
cross_told true n d U D c p e h =
    let a : U * 1 * d ≡ c * D * d = ap (λ (z : ℕ). z * d) e in
    lt_of_mul-lt-mul_right D (omega arith)
cross_told false n d U D c p e h =
    let a : U * 1 * d ≡ c * D * d = ap (λ (z : ℕ). z * d) e in
    let b : c * d * D ≤ n * D = omega arith in
    le_of_mul-le-mul_right b p

-- The test of h against a whole number c that is the f32 x.
pub whole_told : (h x : Float) (c : ℕ) (r : Bool) → NonNegative h → HasValue x false c 1 → lt h x ≡ r
    → Told r (num h) (c * den h)
unfolding lt
whole_told nan x c r p v e = absurd p
whole_told (inf s) x c r p v e = absurd p
whole_told (fin s m g) nan c r p v e = absurd v
whole_told (fin s m g) (inf t) c r p v e = absurd v
whole_told (fin s m g) (fin true n d) c r p v e = absurd (true≢false v.0)
whole_told (fin s m g) (fin false n d) c r p v e =
    cross_told r (m * up g) (down g) (n * up d) (down d) c (down_pos d) v.1
    (signed_told s r (m * up g * down d) (n * up d * down g) (λ k. zero_size m (up g) (down d) (p k)) e)

-- ---- The whole part and the fractional part.
-- A hue in range is finite, and not below 0.
pub hue_nonneg : (h : Float) → T (hue_in_range h) → NonNegative h
unfolding hue_in_range
hue_nonneg nan u = absurd u
hue_nonneg (inf true) u = absurd u
hue_nonneg (inf false) u = absurd u
hue_nonneg (fin s m e) u = from_zero s m e (and_l (le zero32 (fin s m e)) (lt (fin s m e) six32) u)

-- It is below 6.
pub hue_below_six : (h : Float) → T (hue_in_range h) → num h < 6 * den h
unfolding hue_in_range
hue_below_six h u =
    whole_told h six32 6 true (hue_nonneg h u) (refl, refl) (true_of (lt h six32) (and_r (le zero32 h) (lt h six32) u))

-- k is 0 to 5.
pub whole_part_le_five : (h : Float) → T (hue_in_range h) → whole_part h ≤ 5
whole_part_le_five h u = let l = (div-lt_iff_lt-mul (den_pos h)).1 (hue_below_six h u) in omega arith

-- k is at most h.
whole_part_le : (h : Float) → whole_part h * den h ≤ num h
whole_part_le h = div-mul-le_self (num h) (den h)

-- h is below k + 1.
whole_part_next : (h : Float) → num h < whole_part h * den h + den h
whole_part_next h = lt-div-mul-add (den_pos h)

-- k as an f32.
abbrev whole_part32 : Float → Float
whole_part32 h = of_int binary32 (pos (whole_part h))

-- k, a whole number up to 2 ^ 24, is an f32.
whole_part_value : (h : Float) → T (hue_in_range h) → HasValue (whole_part32 h) false (whole_part h) 1
unfolding of_int
whole_part_value h u = let l = whole_part_le_five h u in round_whole binary32 false (whole_part h) (omega arith)

-- It has the value k.
whole_part_cross : (h : Float) → T (hue_in_range h) → num (whole_part32 h) * 1 ≡ whole_part h * den (whole_part32 h)
whole_part_cross h u = value_cross (whole_part32 h) false (whole_part h) 1 (whole_part_value h u)

-- It is not below 0.
whole_part_nonneg : (h : Float) → T (hue_in_range h) → NonNegative (whole_part32 h)
whole_part_nonneg h u = value_nonneg (whole_part32 h) (whole_part h) 1 (whole_part_value h u)

-- The f32 k is at most h, and h at most 1 above it.
whole_below : (n d a c k : ℕ) → a * 1 ≡ k * c → k * d ≤ n → a * d ≤ n * c
whole_below n d a c k e h =
    let p : k * d * c ≤ n * c = mul-le-mul_right c h in
    let q : a * 1 * d ≡ k * c * d = ap (λ (z : ℕ). z * d) e in
    omega arith

whole_near : (n d a c k : ℕ) → a * 1 ≡ k * c → n < k * d + d → n * c ≤ a * d + d * c
whole_near n d a c k e h =
    let p : n * c ≤ (k * d + d) * c = mul-le-mul_right c (le_of_lt h) in
    let q : a * 1 * d ≡ k * c * d = ap (λ (z : ℕ). z * d) e in
    omega arith

-- f lies from 0 to 1.
pub fraction_range : (h : Float) → T (hue_in_range h) → T (in_range (fractional_part h))
fraction_range h u =
    let x = whole_part32 h in
    let e = whole_part_cross h u in
    sub_range h x (hue_nonneg h u) (whole_part_nonneg h u)
    (whole_below (num h) (den h) (num x) (den x) (whole_part h) e (whole_part_le h))
    (whole_near (num h) (den h) (num x) (den x) (whole_part h) e (whole_part_next h))

-- ---- The fractional part is exact.
-- A product below 6 D has a power of two of at most D, if the other factor is a significand.
power_small : (t X D : ℕ) → 0 < D → 2 * D ≤ X → (8388608 + t) * X < 6 * D → ⊥
power_small t X D p h k = let a : 8388608 * X ≤ (8388608 + t) * X = mul-le-mul_right X (omega arith) in omega arith

-- The exponent of a hue.
exponent_le : (x t : ℕ) → significand x t * 2 ^ exponent x < 6 * 2 ^ 149 → exponent x ≤ 149
exponent_le zero t h = lit≤ tt
exponent_le (suc x) t h =
    le_of_suc-le-suc
    (lt_of_not-le
    (λ (g : 150 ≤ x). power_small t (2 ^ x) (2 ^ 149) (pow_pos 149) (pow-le-pow_right (lit< tt) g) h))

-- n / d below 6 has below 6 D units, where D units make 1.
units_below : (n d U D : ℕ) → 0 < D → n < 6 * d → n * D ≡ U * d → U < 6 * D
units_below n d U D P h e =
    let a : n * D < 6 * d * D = mul-lt-mul_of_pos_right h P in
    lt_of_mul-lt-mul_right d (omega arith)

-- The units of n / d less those of k.
units_less : (n d k S A B D : ℕ) → n * D ≡ S * B * d → A * B ≡ D → (n - k * d) * D ≡ (S - k * A) * B * d
units_less n d k S A B D e f =
    let p = mul_comm (n - k * d) D ∙ mul-sub D n (k * d) in
    let q = mul_assoc (S - k * A) B d ∙ mul_comm (S - k * A) (B * d) ∙ mul-sub (B * d) S (k * A) in
    let g : k * d * (A * B) ≡ k * d * D = ap (λ (z : ℕ). k * d * z) f in
    p ∙ less D n (k * d) (B * d) S (k * A) (omega arith) (omega arith) ∙ sym q
  where
    less : (a b c x y z : ℕ) → a * b ≡ x * y → a * c ≡ x * z → a * b - a * c ≡ x * y - x * z
    less a b c x y z u v = rw (u, v)

-- h - k is held: k takes away no digit of h but whole ones.
fraction_held : (h : Float) → T (fits binary32 h) → T (hue_in_range h) → Held (num h - whole_part h * den h) (den h)
fraction_held h F u =
    let b = to_bits binary32 h in
    let S = significand (exponent_field b) (fraction_field b) in
    let P = exponent (exponent_field b) in
    let k = whole_part h in
    let v = bits_value h F (hue_nonneg h u) in
    let l = units_below (num h) (den h) (S * 2 ^ P) (2 ^ 149) (pow_pos 149) (hue_below_six h u) v in
    let p = exponent_le (exponent_field b) (fraction_field b) l in
    let g : 149 - P + P ≡ 149 = omega arith in
    let a : 2 ^ (149 - P) * 2 ^ P ≡ 2 ^ 149 = sym (pow-add 2 (149 - P) P) ∙ ap (λ (z : ℕ). 2 ^ z) g in
    record {
      digits = S - k * 2 ^ (149 - P);
      power = P;
      short = lt_of_le_of_lt (sub-le S (k * 2 ^ (149 - P))) (significand_lt (exponent_field b) b);
      small =
          lt_of_le_of_lt (mul-le-mul_right (2 ^ P) (sub-le S (k * 2 ^ (149 - P)))) (lt_trans l (lit< tt));
      equal = units_less (num h) (den h) k S (2 ^ (149 - P)) (2 ^ P) (2 ^ 149) v a;
    }

-- The difference of n / d and a / c, where a / c is k.
less_whole : (n d a c k : ℕ) → a * 1 ≡ k * c → n * c - a * d ≡ (n - k * d) * c
less_whole n d a c k e =
    let p = mul_comm (n - k * d) c ∙ mul-sub c n (k * d) in
    let g : a * 1 * d ≡ k * c * d = ap (λ (z : ℕ). z * d) e in
    same (n * c) (a * d) (c * n) (c * (k * d)) (mul_comm n c) (omega arith) ∙ sym p
  where
    same : (a b x y : ℕ) → a ≡ x → b ≡ y → a - b ≡ x - y
    same a b x y u v = rw (u, v)

-- From n / (d c), in lowest terms or not, to h: f + k = h.
fraction_sum : (n d c k r s : ℕ) → 0 < c → k * d ≤ n → r * (d * c) ≡ (n - k * d) * c * s → r * d + k * d * s ≡ n * s
fraction_sum n d c k r s C l e =
    let m = n - k * d in
    let p : r * d * c ≡ m * s * c = omega arith in
    let q : r * d ≡ m * s = eq_of_mul-eq-mul_right c C (r * d) (m * s) p in
    let g : (m + k * d) * s ≡ n * s = ap (λ (z : ℕ). z * s) (omega arith) in
    omega arith

-- f + k = h, cross-multiplied.
pub fraction_exact : (h : Float) → T (fits binary32 h) → T (hue_in_range h)
    → num (fractional_part h) * den h + whole_part h * den h * den (fractional_part h) ≡ num h * den (fractional_part h)
fraction_exact h F u =
    let x = whole_part32 h in
    let f = fractional_part h in
    let k = whole_part h in
    let e = whole_part_cross h u in
    let d = less_whole (num h) (den h) (num x) (den x) k e in
    let H = held_times (num h - k * den h) (den h) (num h * den x - num x * den h) (den h * den x) (den x) d refl
    (fraction_held h F u) in
    let R = sub_rounds h x (hue_nonneg h u) (whole_part_nonneg h u)
    (whole_below (num h) (den h) (num x) (den x) k e (whole_part_le h)) in
    let v = rounds_exact f (num h * den x - num x * den h) (den h * den x) (mul-pos (den_pos h) (den_pos x)) H R in
    fraction_sum (num h) (den h) (den x) k (num f) (den f) (den_pos x) (whole_part_le h)
    (v ∙ ap (λ (z : ℕ). z * den f) d)

-- A value from 0 up whose fraction is below 1.
below_one : (v : Float) → NonNegative v → num v < den v → T (lt v one32)
unfolding lt
below_one nan p h = absurd p
below_one (inf s) p h = absurd p
below_one (fin true m e) p h =
    let d = down_pos e in
    lt→ltb 0 (m * up e * 1 + 1 * down e) (omega arith)
below_one (fin false m e) p h = lt→ltb (m * up e * 1) (1 * down e) (omega arith)

-- f is below 1.
pub fraction_below_one : (h : Float) → T (fits binary32 h) → T (hue_in_range h) → T (lt (fractional_part h) one32)
fraction_below_one h F u =
    let f = fractional_part h in
    let g : num h * den f < (whole_part h * den h + den h) * den f = mul-lt-mul_of_pos_right (whole_part_next h) (den_pos f) in
    let e = fraction_exact h F u in
    below_one f (range_nonneg f (fraction_range h u)) (lt_of_mul-lt-mul_right (den h) (omega arith))
