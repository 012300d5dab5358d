-- The values from 0 up, minus zero among them, are ordered as their fractions are: the minus stands only before 0.
use mathlib.Core.Path.{◌≡◌, refl, sym, ap, ◌∙◌, subst}
use mathlib.Core.Logic.{inl, inr, ◌↔◌}
use Prim.Native.Nat.{ℕ, ◌+◌, ◌*◌, ◌≤◌, ◌<◌}
use native.Mathlib.Nat.{
  le_trans,
  le_of_eq,
  le_of_lt,
  lt_of_not-le,
  eq-or-lt_of_le,
  eq-zero-or-pos,
  zero-mul,
  mul_comm,
  mul-pos,
  mul-le-mul_right,
  le_of_mul-le-mul_right,
}
use native.Mathlib.Omega.{arith}
use mathlib.Core.Bool.{Bool, true, false, not, ◌&&◌, ◌||◌}
use lib.IntN.{ℤ}
use lib.Dec.{T, T_not, ltb, eqb, eqb→eq, ltb→lt, lt→ltb}
use lib.Ieee.{Float, nan, inf, fin, up, down, below, level, le, is_nan}
use lib.Ieee.Fits.{up_pos, and_i, and_l, and_r, eq→eqb}
use lib.Ieee.Exact.{HasValue}
use lib.Ieee.Positive.{num, den, den_pos}
use Rattle.decide.proofs.Truth.{either}
use Rattle.channel.specs.Channel.{zero32, one32, in_range}

-- Finite, and not below 0.
abbrev pub NonNegative : Float → Type 0
NonNegative nan = ⊥
NonNegative (inf s) = ⊥
NonNegative (fin s m e) = T s → m ≡ 0

-- Two zeros are level, whatever their signs.
zeros_level : (r : Bool) (a b : ℕ) → a ≡ b → a ≡ 0 → T (eqb a b && (r || eqb a 0))
zeros_level r a b e z = and_i (eqb a b) (r || eqb a 0) (eq→eqb e) ((either r (eqb a 0)).1 (inr (eq→eqb z)))

-- ±a at most ±b, with a minus only before 0, says that a ≤ b.
signed→le : (s t : Bool) (a b : ℕ) → (T s → a ≡ 0) → (T t → b ≡ 0) → T (below s a t b || level s a t b) → a ≤ b
signed→le false false a b p q h =
    elim ((either (ltb a b) (eqb a b && true)).0 h) [
      | inl u ↦ le_of_lt (ltb→lt a b u)
      | inr u ↦ le_of_eq (eqb→eq a b (and_l (eqb a b) true u))
    ]
signed→le false true a b p q h = le_of_eq (eqb→eq a b (and_l (eqb a b) (false || eqb a 0) h))
signed→le true false a b p q h = let z = p tt in omega arith
signed→le true true a b p q h = let z = p tt in omega arith

-- The other way round.
le→signed : (s t : Bool) (a b : ℕ) → (T s → a ≡ 0) → (T t → b ≡ 0) → a ≤ b → T (below s a t b || level s a t b)
le→signed false false a b p q h =
    elim (eq-or-lt_of_le h) [
      | inl e ↦ (either (ltb a b) (eqb a b && true)).1 (inr (and_i (eqb a b) true (eq→eqb e) tt))
      | inr l ↦ (either (ltb a b) (eqb a b && true)).1 (inl (lt→ltb a b l))
    ]
le→signed false true a b p q h = let z = q tt in zeros_level false a b (omega arith) (omega arith)
le→signed true false a b p q h =
    let z = p tt in
    elim (eq-or-lt_of_le h) [
      | inl e ↦ (either (ltb 0 (a + b)) (eqb a b && (false || eqb a 0))).1 (inr (zeros_level false a b e z))
      | inr l ↦ (either (ltb 0 (a + b)) (eqb a b && (false || eqb a 0))).1 (inl (lt→ltb 0 (a + b) (omega arith)))
    ]
le→signed true true a b p q h =
    let y = p tt in
    let z = q tt in
    (either (ltb b a) (eqb a b && true)).1 (inr (and_i (eqb a b) true (eq→eqb {a = a} {b = b} (omega arith)) tt))

-- ±a is at most ±b, with a minus only before 0, exactly where a ≤ b.
signed_le : (s t : Bool) (a b : ℕ) → (T s → a ≡ 0) → (T t → b ≡ 0) → T (below s a t b || level s a t b) ↔ (a ≤ b)
signed_le s t a b p q = (signed→le s t a b p q, le→signed s t a b p q)

-- A product is 0 where its first factor is.
pub zero_size : (m u d : ℕ) → m ≡ 0 → m * u * d ≡ 0
zero_size m u d z = ap (λ (x : ℕ). x * u * d) z ∙ ap (λ (x : ℕ). x * d) (zero-mul u) ∙ zero-mul d

-- A product with a factor above 0 is 0 only where the other is.
pub size_zero : (m u : ℕ) → 0 < u → m * u ≡ 0 → m ≡ 0
size_zero m u h e = elim (eq-zero-or-pos m) [ inl z ↦ z | inr p ↦ let k = mul-pos p h in omega arith ]

-- The order of two values is that of their fractions.
pub le_fractions : (x y : Float) → NonNegative x → NonNegative y → T (le x y) ↔ (num x * den y ≤ num y * den x)
unfolding le
le_fractions nan y p q = absurd p
le_fractions (inf s) y p q = absurd p
le_fractions (fin s m e) nan p q = absurd q
le_fractions (fin s m e) (inf t) p q = absurd q
le_fractions (fin s m e) (fin t n d) p q =
    signed_le s t (m * up e * down d) (n * up d * down e)
    (λ k. zero_size m (up e) (down d) (p k)) (λ k. zero_size n (up d) (down e) (q k))

-- Two values in order, either way.
pub le_or_ge : (x y : Float) → NonNegative x → NonNegative y → T (not (le x y)) → num y * den x ≤ num x * den y
le_or_ge x y p q n =
    le_of_lt (lt_of_not-le (λ (g : num x * den y ≤ num y * den x). T_not (le x y) n ((le_fractions x y p q).1 g)))

-- A finite value that 0 is at most.
pub from_zero : (s : Bool) (m : ℕ) (e : ℤ) → T (le zero32 (fin s m e)) → T s → m ≡ 0
unfolding le
from_zero false m e h k = absurd k
from_zero true m e h k =
    let z = and_l (eqb (0 * down e) (m * up e * 1)) (false || eqb (0 * down e) 0) h in
    size_zero m (up e) (up_pos e) (omega (arith, eqb→eq (0 * down e) (m * up e * 1) z))

-- A channel from 0 to 1 is finite, and not below 0.
pub range_nonneg : (v : Float) → T (in_range v) → NonNegative v
unfolding in_range
range_nonneg nan h = absurd h
range_nonneg (inf true) h = absurd h
range_nonneg (inf false) h = absurd h
range_nonneg (fin s m e) h = from_zero s m e (and_l (le zero32 (fin s m e)) (le (fin s m e) one32) h)

-- Its fraction is at most 1.
pub range_le_one : (v : Float) → T (in_range v) → num v ≤ den v
unfolding in_range
range_le_one v h =
    let l = and_r (le zero32 v) (le v one32) h in
    omega (arith, (le_fractions v one32 (range_nonneg v h) (λ k. absurd k)).0 l)

-- A value that is not below 0 and whose fraction is at most 1 lies from 0 to 1.
pub range_of : (v : Float) → NonNegative v → num v ≤ den v → T (in_range v)
unfolding in_range
range_of v p h =
    let a : 0 * den v ≤ num v * 1 = omega arith in
    let b : num v * 1 ≤ 1 * den v = omega arith in
    and_i (le zero32 v) (le v one32) ((le_fractions zero32 v (λ k. refl) p).1 a)
    ((le_fractions v one32 p (λ k. absurd k)).1 b)

-- A channel from 0 to 1 is no NaN.
pub range_no_nan : (v : Float) → T (in_range v) → T (not (is_nan v))
unfolding in_range is_nan
range_no_nan nan h = absurd h
range_no_nan (inf s) h = tt
range_no_nan (fin s m e) h = tt

-- A fraction n / d that equals a channel from 0 to 1 is at most 1.
pub fraction_le_one : (v : Float) (n d : ℕ) → num v * d ≡ n * den v → T (in_range v) → n ≤ d
fraction_le_one v n d e h =
    le_of_mul-le-mul_right
    (le_trans (le_of_eq (sym e)) (le_trans (mul-le-mul_right d (range_le_one v h)) (le_of_eq (mul_comm (den v) d))))
    (den_pos v)

-- A value that equals a fraction without a minus is not below 0.
pub value_nonneg : (v : Float) (n d : ℕ) → HasValue v false n d → NonNegative v
value_nonneg nan n d h = absurd h
value_nonneg (inf t) n d h = absurd h
value_nonneg (fin t m e) n d h = λ k. absurd (subst T h.0 k)

-- A value that is not below 0 and has a minus is 0.
pub value_minus : (v : Float) (s : Bool) (n d : ℕ) → HasValue v s n d → NonNegative v → T s → num v ≡ 0
value_minus nan s n d h p k = absurd h
value_minus (inf t) s n d h p k = absurd h
value_minus (fin t m e) s n d h p k = ap (λ (z : ℕ). z * up e) (p (subst T (sym h.0) k)) ∙ zero-mul (up e)

-- A value and a fraction that it equals, cross-multiplied.
pub value_cross : (v : Float) (s : Bool) (n d : ℕ) → HasValue v s n d → num v * d ≡ n * den v
value_cross nan s n d h = absurd h
value_cross (inf t) s n d h = absurd h
value_cross (fin t m e) s n d h = h.1
