-- The coordinate from the bits of the raised channel: twice the product rounded up, then halved.
use mathlib.Core.Path.{◌≡◌, sym, ap, ◌∙◌}
use Prim.Native.Nat.{ℕ, zero, suc, ◌+◌, ◌-◌, ◌*◌, ◌/◌, ◌^◌, ◌≤◌, ◌<◌}
use native.Mathlib.Nat.{
  le_of_lt,
  not-le_of_lt,
  mul_assoc,
  mul_right_comm,
  mul-pos,
  mul-le-mul,
  mul-le-mul_right,
  eq_of_mul-eq-mul_right,
  div-mul-le_self,
  lt-div-mul-add,
}
use native.Mathlib.Omega.{arith}
use lib.Dec.{T, lit<}
use lib.Pow.{pow-add, pow_pos}
use lib.Ieee.{Float, binary32, to_bits}
use lib.Ieee.Positive.{num, den, den_pos}
use Rattle.rounding.specs.Nearest.{Owns}
use Rattle.rounding.proofs.Half.{within_half_below}
use Rattle.rounding.proofs.Owns.{owns_equal}
use Rattle.rounding.proofs.Nearest.{nearest_only, nearest_within_half}
use Rattle.channel.specs.Channel.{in_range}
use Rattle.channel.specs.Coordinate.{coordinate_of}
use Rattle.channel.proofs.Order.{range_nonneg, range_le_one}
use Rattle.channel.proofs.Bits.{exponent_field, fraction_field, significand, exponent, significand_lt, bits_value}
use Rattle.channel.proofs.Raised.{factor_le, Raised, field_ge, field_le, field_is}

-- The cell of w / 2H is half of w / H rounded up, for a w above 0.
owns_halved : (w H : ℕ) → 0 < w → 0 < H → Owns (2 * H) (((w - 1) / H + 1) / 2) w
owns_halved w H W P =
    let t = (w - 1) / H in
    let c = (t + 1) / 2 in
    let l : t * H ≤ w - 1 = div-mul-le_self (w - 1) H in
    let u : w - 1 < t * H + H = lt-div-mul-add P in
    let a : 2 * c * H ≤ (t + 1) * H = mul-le-mul_right H (omega arith) in
    let b : (t + 1) * H ≤ (2 * c + 1) * H = mul-le-mul_right H (omega arith) in
    go t c l u a b
  where
    go : (t c : ℕ) → t * H ≤ w - 1 → w - 1 < t * H + H → 2 * c * H ≤ (t + 1) * H → (t + 1) * H ≤ (2 * c + 1) * H
        → Owns (2 * H) c w
    go t c l u a b = record { above = omega arith; up_to = omega arith }

-- The same value times the factor, as two fractions.
times_factor : (n d m e k : ℕ) → n * d ≡ m * e → n * k * d ≡ m * k * e
times_factor n d m e k h = mul_right_comm n k d ∙ ap (λ (z : ℕ). z * k) h ∙ mul_right_comm m e k

-- The significand times the factor fits 30 binary digits.
pub product_le : (b S : ℕ) → S ≤ 64 → (8388608 + fraction_field b) * (S - 1) ≤ 1056964608
product_le b S h = mul-le-mul (le_of_lt (significand_lt 1 b)) (factor_le S h)

-- 2 ^ 149 in two parts.
parts : (x : ℕ) → x ≤ 148 → 2 * 2 ^ (148 - x) * 2 ^ x ≡ 2 ^ 149
parts x h =
    let e : 148 - x + x ≡ 148 = omega arith in
    mul_assoc 2 (2 ^ (148 - x)) (2 ^ x) ∙ ap (λ (z : ℕ). 2 * z) (sym (pow-add 2 (148 - x) x) ∙ ap (λ (z : ℕ). 2 ^ z) e)

-- A fraction q P / d P is q / d.
reduce : (n e q P d D : ℕ) → 0 < P → d * P ≡ D → n * D ≡ q * P * e → n * d ≡ q * e
reduce n e q P d D h k v =
    eq_of_mul-eq-mul_right P h (n * d) (q * e) (mul_assoc n d P ∙ ap (λ (z : ℕ). n * z) k ∙ v ∙ mul_right_comm q P e)

-- The cell from the side and two fields.
abbrev cell_of : ℕ → ℕ → ℕ → ℕ
cell_of S x t = (((8388608 + t) * (S - 1) - 1) / 2 ^ (149 - x) + 1) / 2

-- It owns the value of a significand and an exponent from 120 to 127.
field_owns : (n e S x t : ℕ) → 0 < e → 2 ≤ S → 120 ≤ x → x ≤ 127 → n * 2 ^ 149 ≡ significand x t * 2 ^ exponent x * e
    → Owns e (cell_of S x t) (n * (S - 1))
field_owns n e S zero t E l g h r = absurd (not-le_of_lt (lit< tt) g)
field_owns n e S (suc x) t E l g h r =
    let q = 8388608 + t in
    let H = 2 ^ (149 - suc x) in
    let k : 148 - x ≡ 149 - suc x = omega arith in
    let d : 2 * H * 2 ^ x ≡ 2 ^ 149 = ap (λ (y : ℕ). 2 * 2 ^ y * 2 ^ x) (sym k) ∙ parts x (omega arith) in
    let w : 0 < q * (S - 1) = mul-pos (omega arith) (omega arith) in
    owns_equal (mul-pos (lit< tt) (pow_pos (149 - suc x))) E
    (times_factor n (2 * H) q e (S - 1) (reduce n e q (2 ^ x) (2 * H) (2 ^ 149) (pow_pos x) d r))
    (owns_halved (q * (S - 1)) H w (pow_pos (149 - suc x)))

-- The coordinate of a channel is below the side.
pub coordinate_below : (S : ℕ) (v : Float) → 2 ≤ S → T (in_range v) → coordinate_of S v < S
unfolding coordinate_of
coordinate_below S v l u =
    let p : num v * (S - 1) ≤ den v * (S - 1) = mul-le-mul_right (S - 1) (range_le_one v u) in
    let near = nearest_within_half (den_pos v) (num v * (S - 1)) in
    let k = within_half_below (den v) (coordinate_of S v) (num v * (S - 1)) (S - 1) (den_pos v) near p in
    omega arith

-- The coordinate of a channel v that is raised to u.
pub raised_coordinate : (S : ℕ) (v u : Float) → 2 ≤ S → S ≤ 64 → Raised v u
    → cell_of S (to_bits binary32 u / 8388608) (fraction_field (to_bits binary32 u)) ≡ coordinate_of S v
unfolding coordinate_of
raised_coordinate S v u l g r =
    let b = to_bits binary32 u in
    let F = r.held in
    let k = r.range in
    let m = r.large in
    let o =
    field_owns (num u) (den u) S (exponent_field b) (fraction_field b) (den_pos u) l
    (field_ge u F k m) (field_le u F k m) (bits_value u F (range_nonneg u k)) in
    sym (nearest_only (den_pos u) (rw (field_is u F k m) at o)) ∙ r.cell S g
