-- Rounding keeps the order with the numbers that an f32 holds exactly: a held fraction at most another one is at most
-- what that one is rounded to, and likewise from above.
use mathlib.Core.Path.{◌≡◌, refl, sym, ap, ◌∙◌, subst}
use Prim.Native.Nat.{ℕ, suc, ◌*◌, ◌^◌, ◌≤◌, ◌<◌}
use native.Mathlib.Nat.{le_trans, le_of_eq, lt_of_le_of_lt, mul_assoc, mul_left_comm, mul-le-mul_left, pow-succ'}
use native.Mathlib.Omega.{arith}
use mathlib.Core.Bool.{Bool, true, false}
use lib.IntN.{pos}
use lib.Dec.{T, lit<}
use lib.Ieee.{Float, nan, inf, fin, binary32, round, le, fits, to_bits}
use lib.Ieee.Exact.{HasValue, round_exact}
use lib.Ieee.Scale.{finite, grid, round_val, round_under}
use lib.Ieee.Order.{transfer, round_mono}
use lib.Ieee.Positive.{num, den, den_pos}
use Rattle.channel.specs.Channel.{in_range, zero32}
use Rattle.channel.proofs.Order.{NonNegative, le_fractions, range_nonneg, fraction_le_one, value_nonneg, value_cross}
use Rattle.channel.proofs.Bits.{
  exponent_field,
  fraction_field,
  significand,
  exponent,
  units,
  significand_lt,
  bits_value,
}

-- The fraction n / d is a significand times a power of two, in units of 2 ^ -149, and no overflow.
pub record Held (n d : ℕ) : Type 0 where
  pub digits : ℕ
  pub power : ℕ
  pub short : digits < 2 ^ 24
  pub small : digits * 2 ^ power < 2 ^ 277
  pub equal : n * 2 ^ 149 ≡ digits * 2 ^ power * d

-- A channel from 0 to 1 is held.
pub channel_held : (v : Float) → T (fits binary32 v) → T (in_range v) → Held (num v) (den v)
channel_held v F u =
    let b = to_bits binary32 v in
    record {
      digits = significand (exponent_field b) (fraction_field b);
      power = exponent (exponent_field b);
      short = significand_lt (exponent_field b) b;
      small = lt_of_le_of_lt (fraction_le_one v (units b) (2 ^ 149) (bits_value v F (range_nonneg v u)) u) (lit< tt);
      equal = bits_value v F (range_nonneg v u);
    }

-- So is its double.
pub double_held : (v : Float) → T (fits binary32 v) → T (in_range v) → Held (2 * num v) (den v)
double_held v F u =
    let b = to_bits binary32 v in
    let q = significand (exponent_field b) (fraction_field b) in
    let j = exponent (exponent_field b) in
    let e : q * 2 ^ suc j ≡ 2 * units b = ap (λ (z : ℕ). q * z) (pow-succ' 2 j) ∙ mul_left_comm q 2 (2 ^ j) in
    let n : units b ≤ 2 ^ 149 = fraction_le_one v (units b) (2 ^ 149) (bits_value v F (range_nonneg v u)) u in
    record {
      digits = q;
      power = suc j;
      short = significand_lt (exponent_field b) b;
      small = lt_of_le_of_lt (le_trans (le_of_eq e) (mul-le-mul_left 2 n)) (lit< tt);
      equal =
          mul_assoc 2 (num v) (2 ^ 149) ∙ ap (λ (z : ℕ). 2 * z) (bits_value v F (range_nonneg v u)) ∙ sym (mul_assoc 2 (units b) (den v))
          ∙ ap (λ (z : ℕ). z * den v) (sym e);
    }

-- 2 is held.
two_held : Held 2 1
two_held = record { digits = 1; power = 150; short = lit< tt; small = lit< tt; equal = refl }

-- A held fraction is rounded to itself, with either sign.
pub held_value : (s : Bool) (n d : ℕ) → 0 < d → Held n d → HasValue (round binary32 s n d) s n d
held_value s n d D h = round_exact binary32 s n d h.digits h.power D h.short h.small h.equal

-- What lies between two finite values is finite.
between_finite : (lo x hi : Float) → T (finite lo) → T (finite hi) → T (le lo x) → T (le x hi) → T (finite x)
unfolding le
between_finite nan x hi p q h k = absurd p
between_finite (inf s) x hi p q h k = absurd p
between_finite (fin s m e) nan hi p q h k = absurd h
between_finite (fin s m e) (inf t) nan p q h k = absurd q
between_finite (fin s m e) (inf t) (inf r) p q h k = absurd q
between_finite (fin s m e) (inf true) (fin r n d) p q h k = absurd h
between_finite (fin s m e) (inf false) (fin r n d) p q h k = absurd k
between_finite (fin s m e) (fin t n d) hi p q h k = tt

-- 0 is rounded to 0.
pub round_zero : round binary32 false 0 1 ≡ zero32
unfolding round
round_zero = refl

-- 2 is rounded to 2.
round_two : round binary32 false 2 1 ≡ fin false 1 (pos 1)
unfolding round
round_two = refl

-- A fraction up to 2 is rounded to a finite value without a minus.
pub round_value : (n d : ℕ) → 0 < d → n ≤ 2 * d
    → HasValue (round binary32 false n d) false (grid binary32 n d) (2 ^ 149)
round_value n d D h =
    let r = round binary32 false n d in
    let a : 0 * d ≤ n * 1 = omega arith in
    let b : n * 1 ≤ 2 * d = omega arith in
    round_val binary32 n d
    (round_under binary32 n d
    (between_finite zero32 r (fin false 1 (pos 1)) tt tt
    (subst (λ (z : Float). T (le z r)) round_zero (round_mono binary32 0 1 n d (lit< tt) D a))
    (subst (λ (z : Float). T (le r z)) round_two (round_mono binary32 n d 2 1 D (lit< tt) b))))

-- It is not below 0.
pub round_nonneg : (n d : ℕ) → 0 < d → n ≤ 2 * d → NonNegative (round binary32 false n d)
round_nonneg n d D h = value_nonneg (round binary32 false n d) (grid binary32 n d) (2 ^ 149) (round_value n d D h)

-- A held fraction, rounded, is not below 0.
held_nonneg : (a c : ℕ) → 0 < c → Held a c → NonNegative (round binary32 false a c)
held_nonneg a c C H = value_nonneg (round binary32 false a c) a c (held_value false a c C H)

-- A held fraction that is at most another is at most the other rounded.
pub rounded_above : (a c n d : ℕ) → 0 < c → 0 < d → Held a c → n ≤ 2 * d → a * d ≤ n * c
    → a * den (round binary32 false n d) ≤ num (round binary32 false n d) * c
rounded_above a c n d C D H k h =
    let x = round binary32 false a c in
    let r = round binary32 false n d in
    transfer a (num r) c (den r) (num x) (num r) (den x) (den r) (den_pos x) (den_pos r)
    (sym (value_cross x false a c (held_value false a c C H))) refl
    ((le_fractions x r (held_nonneg a c C H) (round_nonneg n d D k)).0 (round_mono binary32 a c n d C D h))

-- A held fraction that is at least another is at least the other rounded.
pub rounded_below : (a c n d : ℕ) → 0 < c → 0 < d → Held a c → n ≤ 2 * d → n * c ≤ a * d
    → num (round binary32 false n d) * c ≤ a * den (round binary32 false n d)
rounded_below a c n d C D H k h =
    let x = round binary32 false a c in
    let r = round binary32 false n d in
    transfer (num r) a (den r) c (num r) (num x) (den r) (den x) (den_pos r) (den_pos x)
    refl (sym (value_cross x false a c (held_value false a c C H)))
    ((le_fractions r x (round_nonneg n d D k) (held_nonneg a c C H)).0 (round_mono binary32 n d a c D C h))

-- A fraction up to 2 is rounded to at most 2.
pub rounded_le_two : (n d : ℕ) → 0 < d → n ≤ 2 * d → num (round binary32 false n d) ≤ 2 * den (round binary32 false n d)
rounded_le_two n d D h =
    let k : n * 1 ≤ 2 * d = omega arith in
    let l = rounded_below 2 1 n d (lit< tt) D two_held h k in
    omega (arith, l)
