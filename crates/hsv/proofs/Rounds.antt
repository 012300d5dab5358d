-- Products and differences of values from 0 up: each is the exact result rounded once, with a minus only before 0. So a
-- result from 0 to 1 is rounded to a value from 0 to 1, and a result that an f32 holds is kept.
use mathlib.Core.Path.{◌≡◌, refl, sym, ap, ◌∙◌, subst}
use Prim.Native.Nat.{ℕ, ◌+◌, ◌-◌, ◌*◌, ◌^◌, ◌≤◌, ◌<◌}
use native.Mathlib.Nat.{zero-mul, mul-zero, mul_assoc, mul_right_comm, mul-pos, mul-le-mul}
use native.Mathlib.Omega.{arith}
use borrow.Author.Tests.{le-ltb}
use mathlib.Core.Bool.{Bool, true, false, not}
use lib.Dec.{T, lit<}
use lib.Ieee.{Float, nan, inf, fin, up, down, unlike, binary32, round, sum, sub, mul, le}
use lib.Ieee.Fits.{and_i, up_pos}
use lib.Ieee.Exact.{HasValue}
use lib.Ieee.Order.{round_mono}
use lib.Ieee.Positive.{num, den, den_pos}
use Rattle.channel.specs.Channel.{in_range, zero32, one32}
use Rattle.channel.proofs.Order.{NonNegative, zero_size, size_zero, range_nonneg, range_le_one, range_of, value_cross}
use Rattle.channel.proofs.Held.{Held, held_value, round_zero}

-- r is n / c, rounded once.
pub record Rounds (r : Float) (n c : ℕ) : Type 0 where
  pub minus : Bool
  pub rounded : r ≡ round binary32 minus n c
  pub zero : T minus → n ≡ 0

-- 1 is rounded to 1.
pub round_one : round binary32 false 1 1 ≡ one32
unfolding round
round_one = refl

-- 0 is held.
pub zero_held : (n c : ℕ) → n ≡ 0 → Held n c
zero_held n c z =
    record {
      digits = 0;
      power = 0;
      short = lit< tt;
      small = lit< tt;
      equal = ap (λ (x : ℕ). x * 2 ^ 149) z ∙ zero-mul (2 ^ 149) ∙ sym (zero-mul c);
    }

-- A held fraction stays held with both terms multiplied.
pub held_times : (n d m c e : ℕ) → m ≡ n * e → c ≡ d * e → Held n d → Held m c
held_times n d m c e p q h =
    record {
      digits = h.digits;
      power = h.power;
      short = h.short;
      small = h.small;
      equal =
          ap (λ (z : ℕ). z * 2 ^ 149) p ∙ mul_right_comm n e (2 ^ 149) ∙ ap (λ (z : ℕ). z * e) h.equal
          ∙ mul_assoc (h.digits * 2 ^ h.power) d e ∙ ap (λ (z : ℕ). h.digits * 2 ^ h.power * z) (sym q);
    }

-- What has the value 0 lies from 0 to 1.
zero_range : (v : Float) (s : Bool) (n c : ℕ) → 0 < c → HasValue v s n c → n ≡ 0 → T (in_range v)
zero_range nan s n c C h z = absurd h
zero_range (inf t) s n c C h z = absurd h
zero_range (fin t m e) s n c C h z =
    let a : m * up e * c ≡ 0 = h.1 ∙ ap (λ (x : ℕ). x * down e) z ∙ zero-mul (down e) in
    let b : m * up e ≡ 0 = size_zero (m * up e) c C a in
    range_of (fin t m e) (λ k. size_zero m (up e) (up_pos e) b) (omega arith)

-- A fraction from 0 to 1 is rounded to a value from 0 to 1.
round_range : (s : Bool) (n c : ℕ) → 0 < c → n ≤ c → (T s → n ≡ 0) → T (in_range (round binary32 s n c))
unfolding in_range
round_range false n c C h z =
    let r = round binary32 false n c in
    and_i (le zero32 r) (le r one32)
    (subst (λ (x : Float). T (le x r)) round_zero (round_mono binary32 0 1 n c (lit< tt) C (omega arith)))
    (subst (λ (x : Float). T (le r x)) round_one (round_mono binary32 n c 1 1 C (lit< tt) (omega arith)))
round_range true n c C h z = zero_range (round binary32 true n c) true n c C (held_value true n c C (zero_held n c (z tt))) (z tt)

-- So is what rounds it.
rounds_range : (r : Float) (n c : ℕ) → 0 < c → n ≤ c → Rounds r n c → T (in_range r)
rounds_range r n c C h R =
    subst (λ (x : Float). T (in_range x)) (sym R.rounded) (round_range R.minus n c C h R.zero)

-- What rounds a held fraction has its value.
pub rounds_exact : (r : Float) (n c : ℕ) → 0 < c → Held n c → Rounds r n c → num r * c ≡ n * den r
rounds_exact r n c C H R =
    let x = round binary32 R.minus n c in
    subst (λ (y : Float). num y * c ≡ n * den y) (sym R.rounded)
    (value_cross x R.minus n c (held_value R.minus n c C H))

-- A product of two sizes is 0 where an unlike sign stands before it.
unlike_zero : (s t : Bool) (a b : ℕ) → (T s → a ≡ 0) → (T t → b ≡ 0) → T (unlike s t) → a * b ≡ 0
unlike_zero true t a b p q h = ap (λ (x : ℕ). x * b) (p tt) ∙ zero-mul b
unlike_zero false true a b p q h = ap (λ (x : ℕ). a * x) (q tt) ∙ mul-zero a
unlike_zero false false a b p q h = absurd h

-- A product.
pub mul_rounds : (x y : Float) → NonNegative x → NonNegative y → Rounds (mul binary32 x y) (num x * num y) (den x * den y)
unfolding mul
mul_rounds nan y p q = absurd p
mul_rounds (inf s) y p q = absurd p
mul_rounds (fin s m e) nan p q = absurd q
mul_rounds (fin s m e) (inf t) p q = absurd q
mul_rounds (fin s m e) (fin t n d) p q =
    record {
      minus = unlike s t;
      rounded = refl;
      zero =
          unlike_zero s t (m * up e) (n * up d) (λ k. ap (λ (x : ℕ). x * up e) (p k) ∙ zero-mul (up e))
          (λ k. ap (λ (x : ℕ). x * up d) (q k) ∙ zero-mul (up d));
    }

-- ±a / c less ±b / c, with a minus only before 0.
sum_rounds : (s t : Bool) (a b c : ℕ) → (T s → a ≡ 0) → (T t → b ≡ 0) → b ≤ a
    → Rounds (sum binary32 s a (not t) b c) (a - b) c
unfolding sum
sum_rounds false false a b c p q h =
    record { minus = false; rounded = rw (le-ltb a b h); zero = λ k. absurd k }
sum_rounds false true a b c p q h =
    let z = q tt in
    let e : a + b ≡ a - b = omega arith in
    record { minus = false; rounded = ap (λ (x : ℕ). round binary32 false x c) e; zero = λ k. absurd k }
sum_rounds true false a b c p q h =
    let z = p tt in
    let e : a + b ≡ a - b = omega arith in
    record { minus = true; rounded = ap (λ (x : ℕ). round binary32 true x c) e; zero = λ k. omega arith }
sum_rounds true true a b c p q h =
    let z = p tt in
    let l : a ≤ b = omega arith in
    record { minus = false; rounded = rw (le-ltb a b h, le-ltb b a l); zero = λ k. absurd k }

-- A difference.
pub sub_rounds : (x y : Float) → NonNegative x → NonNegative y → num y * den x ≤ num x * den y
    → Rounds (sub binary32 x y) (num x * den y - num y * den x) (den x * den y)
unfolding sub
sub_rounds nan y p q h = absurd p
sub_rounds (inf s) y p q h = absurd p
sub_rounds (fin s m e) nan p q h = absurd q
sub_rounds (fin s m e) (inf t) p q h = absurd q
sub_rounds (fin s m e) (fin t n d) p q h =
    sum_rounds s t (m * up e * down d) (n * up d * down e) (down e * down d)
    (λ k. zero_size m (up e) (down d) (p k)) (λ k. zero_size n (up d) (down e) (q k)) h

-- A product of values from 0 to 1 lies from 0 to 1, whatever the rounding.
pub mul_range : (x y : Float) → T (in_range x) → T (in_range y) → T (in_range (mul binary32 x y))
mul_range x y u v =
    rounds_range (mul binary32 x y) (num x * num y) (den x * den y) (mul-pos (den_pos x) (den_pos y))
    (mul-le-mul (range_le_one x u) (range_le_one y v)) (mul_rounds x y (range_nonneg x u) (range_nonneg y v))

-- So does the difference of two values from 0 up that are at most 1 apart.
pub sub_range : (x y : Float) → NonNegative x → NonNegative y → num y * den x ≤ num x * den y
    → num x * den y ≤ num y * den x + den x * den y → T (in_range (sub binary32 x y))
sub_range x y p q h k =
    rounds_range (sub binary32 x y) (num x * den y - num y * den x) (den x * den y) (mul-pos (den_pos x) (den_pos y))
    (omega arith) (sub_rounds x y p q h)

-- So does 1 less a value from 0 to 1.
pub one_less_range : (x : Float) → T (in_range x) → T (in_range (sub binary32 one32 x))
one_less_range x u =
    let l = range_le_one x u in
    sub_range one32 x (λ k. absurd k) (range_nonneg x u) (omega arith) (omega arith)
