-- The number that the bits of a value from 0 up stand for: a significand times a power of two, in units of 2 ^ -149.
use mathlib.Core.Path.{◌≡◌, refl, sym, ◌∙◌, subst}
use Prim.Native.Nat.{ℕ, zero, suc, ◌+◌, ◌*◌, ◌/◌, ◌%◌, ◌^◌, ◌≤◌, ◌<◌}
use native.Mathlib.Nat.{lt_of_not-le}
use native.Mathlib.Omega.{arith}
use mathlib.Core.Bool.{Bool, true, false, cond}
use lib.Dec.{T, leb, eqb, le→leb}
use lib.Ieee.{Float, nan, inf, binary32, odd, of_fields, of_bits, to_bits, fits}
use lib.Ieee.Bits.{of_bits-to_bits}
use lib.Ieee.Exact.{HasValue, odd_sign}
use lib.Ieee.Positive.{num, den}
use Rattle.channel.proofs.Order.{NonNegative, value_minus, value_cross}

-- The exponent's field of a bit pattern.
abbrev pub exponent_field : ℕ → ℕ
exponent_field b = b % 2147483648 / 8388608

-- The fraction's field of a bit pattern.
abbrev pub fraction_field : ℕ → ℕ
fraction_field b = b % 8388608

-- The significand: the fraction's field, with a leading digit unless the exponent's field is 0.
abbrev pub significand : ℕ → ℕ → ℕ
significand zero t = t
significand (suc x) t = 8388608 + t

-- The exponent, counted from the smallest.
abbrev pub exponent : ℕ → ℕ
exponent zero = 0
exponent (suc x) = x

-- A pattern's number of units.
abbrev pub units : ℕ → ℕ
units b = significand (exponent_field b) (fraction_field b) * 2 ^ exponent (exponent_field b)

-- A significand has at most 24 binary digits.
pub significand_lt : (x b : ℕ) → significand x (fraction_field b) < 2 ^ 24
significand_lt zero b = omega arith
significand_lt (suc x) b = omega arith

-- The sign and the value of three fields.
fields_has : (s : Bool) (x t : ℕ) → NonNegative (of_fields binary32 s x t)
    → HasValue (of_fields binary32 s x t) s (significand x t * 2 ^ exponent x) (2 ^ 149)
unfolding of_fields
fields_has s zero t h = odd_sign 24 s t 0 149
fields_has s (suc x) t h = go (eqb (suc x) 255) (eqb t 0) h
  where
    go : (a b : Bool) → NonNegative (cond a (cond b (inf s) nan) (odd 24 s (8388608 + t) x 149))
        → HasValue (cond a (cond b (inf s) nan) (odd 24 s (8388608 + t) x 149)) s ((8388608 + t) * 2 ^ x) (2 ^ 149)
    go true true k = absurd k
    go true false k = absurd k
    go false b k = odd_sign 24 s (8388608 + t) x 149

-- A pattern is read by its fields.
of_bits_fields : (b : ℕ) → of_bits binary32 b ≡ of_fields binary32 (leb 2147483648 b) (exponent_field b) (fraction_field b)
unfolding of_bits
of_bits_fields b = refl

-- A value that is not below 0 has the sign and as many units as its bits say.
bits_has : (v : Float) → T (fits binary32 v) → NonNegative v
    → HasValue v (leb 2147483648 (to_bits binary32 v)) (units (to_bits binary32 v)) (2 ^ 149)
bits_has v F h =
    let b = to_bits binary32 v in
    let e = sym (of_bits_fields b) ∙ of_bits-to_bits binary32 v F in
    subst (λ (w : Float). HasValue w (leb 2147483648 b) (units b) (2 ^ 149)) e
    (fields_has (leb 2147483648 b) (exponent_field b) (fraction_field b)
    (subst NonNegative (sym e) h))

-- Its value, cross-multiplied.
pub bits_value : (v : Float) → T (fits binary32 v) → NonNegative v
    → num v * 2 ^ 149 ≡ units (to_bits binary32 v) * den v
bits_value v F h =
    let b = to_bits binary32 v in
    value_cross v (leb 2147483648 b) (units b) (2 ^ 149) (bits_has v F h)

-- No number is 0 and above 0.
zero_above : (n : ℕ) → n ≡ 0 → 0 < n → ⊥
zero_above n h k = omega arith

-- A value above 0 has no minus.
pub bits_plus : (v : Float) → T (fits binary32 v) → NonNegative v → 0 < num v → to_bits binary32 v < 2147483648
bits_plus v F h p =
    let b = to_bits binary32 v in
    lt_of_not-le
    (λ (k : 2147483648 ≤ b).
    let s = le→leb 2147483648 b k in
    zero_above (num v) (value_minus v (leb 2147483648 b) (units b) (2 ^ 149) (bits_has v F h) h s) p)
