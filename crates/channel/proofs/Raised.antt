-- A dark channel is raised to 1/128: both are in cell 0. The raised channel has no minus, and its exponent's field is 120
-- to 127.
use mathlib.Core.Path.{◌≡◌, refl, sym, ap, ◌∙◌, subst}
use Prim.Native.Nat.{ℕ, zero, suc, ◌-◌, ◌*◌, ◌/◌, ◌^◌, ◌≤◌, ◌<◌}
use native.Mathlib.Nat.{
  le_trans,
  lt_of_le_of_lt,
  lt_of_lt_of_le,
  lt_of_not-le,
  not-le_of_lt,
  le_of_suc-le-suc,
  le-add_right,
  mul-le-mul,
  mul-le-mul_left,
  mul-le-mul_right,
  mul-lt-mul_of_pos_right,
  le_of_mul-le-mul_right,
  mod-eq_of_lt,
}
use native.Mathlib.Omega.{arith}
use mathlib.Core.Bool.{Bool, true, false, not}
use lib.Dec.{T, lit≤, lit<}
use lib.Pow.{pow_pos, pow_mono}
use lib.Ieee.{Float, binary32, le, to_bits, fits}
use lib.Ieee.Positive.{num, den, den_pos}
use Rattle.rounding.specs.Nearest.{Owns}
use Rattle.rounding.proofs.Nearest.{nearest_only}
use Rattle.channel.specs.Channel.{in_range}
use Rattle.channel.specs.Coordinate.{coordinate_of}
use Rattle.channel.proofs.Order.{
  le_fractions,
  le_or_ge,
  range_nonneg,
  fraction_le_one,
}
use Rattle.channel.proofs.Bits.{
  exponent_field,
  fraction_field,
  significand,
  exponent,
  units,
  significand_lt,
  bits_value,
  bits_plus,
}

-- A side up to 64 is a factor of at most 63.
pub factor_le : (S : ℕ) → S ≤ 64 → S - 1 ≤ 63
factor_le S h = omega arith

-- A value n / d of which 63 times is at most a half is in cell 0 at every side.
dark_owns : (n d S : ℕ) → 0 < d → n * 126 ≤ d → S ≤ 64 → Owns d 0 (n * (S - 1))
dark_owns n d S D h g =
    let q : n * (S - 1) ≤ n * 63 = mul-le-mul_left n (factor_le S g) in
    record { above = omega arith; up_to = omega arith }

-- That holds of every value up to one of which it holds.
dark_below : (n d p q : ℕ) → 0 < q → n * q ≤ p * d → p * 126 ≤ q → n * 126 ≤ d
dark_below n d p q Q l h =
    let a : p * 126 * d ≤ q * d = mul-le-mul_right d h in
    le_of_mul-le-mul_right {m = n * 126} {n = d} (omega arith) Q

-- A value from one that is from 1/128 is from 1/128.
from_above : (n d p q : ℕ) → 0 < q → q ≤ p * 128 → p * d ≤ n * q → d ≤ n * 128
from_above n d p q Q h l =
    let a : q * d ≤ p * 128 * d = mul-le-mul_right d h in
    le_of_mul-le-mul_right {m = d} {n = n * 128} (omega arith) Q

-- A channel v is raised to u, a channel from 1/128 in the same cell.
pub record Raised (v u : Float) : Type 0 where
  pub large : den u ≤ num u * 128
  pub held : T (fits binary32 u)
  pub range : T (in_range u)
  pub cell : (S : ℕ) → S ≤ 64 → coordinate_of S u ≡ coordinate_of S v

-- A dark channel is in cell 0.
dark : (v : Float) (S : ℕ) → num v * 126 ≤ den v → S ≤ 64 → coordinate_of S v ≡ 0
unfolding coordinate_of
dark v S h g = nearest_only (den_pos v) (dark_owns (num v) (den v) S (den_pos v) h g)

-- A channel up to k is raised to k, if k is from 1/128 and 63 × k at most a half.
pub raised_small : {u k : Float} (v : Float) → u ≡ k → den k ≤ num k * 128 → T (fits binary32 k) → T (in_range k)
    → num k * 126 ≤ den k → T (in_range v) → le v k ≡ true → Raised v u
raised_small {k} v w l F r b h e =
    let p = (le_fractions v k (range_nonneg v h) (range_nonneg k r)).0 (subst T (sym e) tt) in
    let a = dark_below (num v) (den v) (num k) (den k) (den_pos k) p b in
    rw w (record { large = l; held = F; range = r; cell = λ S g. dark k S b g ∙ sym (dark v S a g) })

-- A channel above k stays, if k is from 1/128.
pub raised_large : (v k : Float) → le v k ≡ false → den k ≤ num k * 128 → T (in_range k) → T (fits binary32 v) → T (in_range v)
    → Raised v v
raised_large v k e l r F h =
    let a = le_or_ge v k (range_nonneg v h) (range_nonneg k r) (subst (λ (b : Bool). T (not b)) (sym e) tt) in
    record {
      large = from_above (num v) (den v) (num k) (den k) (den_pos k) l a;
      held = F;
      range = h;
      cell = λ S g. refl;
    }

-- An exponent's field below 120 is an exponent of at most 118.
exponent_le : (x : ℕ) → x < 120 → exponent x ≤ 118
exponent_le zero h = lit≤ tt
exponent_le (suc x) h = omega arith

-- It stands for less than 1/128.
units_lt : (b : ℕ) → exponent_field b < 120 → units b < 2 ^ 142
units_lt b h =
    let x = exponent_field b in
    lt_of_le_of_lt (mul-le-mul_left (significand x (fraction_field b)) (pow_mono (exponent_le x h)))
    (lt_of_lt_of_le (mul-lt-mul_of_pos_right (significand_lt x b) (pow_pos 118)) (lit≤ tt))

-- An exponent's field of 128 or more stands for more than 1.
above_one : (x b : ℕ) → 128 ≤ x → significand x (fraction_field b) * 2 ^ exponent x ≤ 2 ^ 149 → ⊥
above_one zero b h k = not-le_of_lt (lit< tt) h
above_one (suc x) b h k =
    let l : 127 ≤ x = omega arith in
    not-le_of_lt {n = 8388608 * 2 ^ 127} {m = 2 ^ 149} (lit< tt)
    (le_trans (mul-le-mul (le-add_right 8388608 (fraction_field b)) (pow_mono l)) k)

-- A fraction n / d from 1/128 is q / 128 D for a q from D.
from_small : (n d q D : ℕ) → 0 < d → d ≤ n * 128 → n * (128 * D) ≡ q * d → D ≤ q
from_small n d q D h l e =
    let k : d * D ≤ n * 128 * D = mul-le-mul_right D l in
    le_of_mul-le-mul_right {m = D} {n = q} (omega arith) h

-- The exponent's field of a channel from 1/128.
module _ (u : Float) (F : T (fits binary32 u)) (h : T (in_range u)) (l : den u ≤ num u * 128) where
  -- It is at least 120.
  pub field_ge : 120 ≤ exponent_field (to_bits binary32 u)
  field_ge =
      let b = to_bits binary32 u in
      le_of_suc-le-suc
      (lt_of_not-le
      (λ (k : exponent_field b < 120).
      not-le_of_lt (units_lt b k)
      (from_small (num u) (den u) (units b) (2 ^ 142) (den_pos u) l (bits_value u F (range_nonneg u h)))))

  -- It is at most 127.
  pub field_le : exponent_field (to_bits binary32 u) ≤ 127
  field_le =
      let b = to_bits binary32 u in
      le_of_suc-le-suc
      (lt_of_not-le
      (λ (k : 128 ≤ exponent_field b).
      above_one (exponent_field b) b k (fraction_le_one u (units b) (2 ^ 149) (bits_value u F (range_nonneg u h)) h)))

  -- The channel is above 0, so the field is all of the pattern above the fraction's.
  pub field_is : exponent_field (to_bits binary32 u) ≡ to_bits binary32 u / 8388608
  field_is =
      let d = den_pos u in
      let p : 0 < num u = omega arith in
      ap (λ (z : ℕ). z / 8388608) (mod-eq_of_lt (bits_plus u F (range_nonneg u h) p))
