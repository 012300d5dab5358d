-- An f32 is written in one way: two with the same sign and the same value are equal.
use mathlib.Core.Path.{◌≡◌, refl, sym, ap, ◌∙◌}
use Prim.Native.Nat.{ℕ, zero, suc, ◌*◌, ◌%◌, ◌^◌, ◌<◌}
use native.Mathlib.Nat.{eq_of_mul-eq-mul_right, suc_inj, mul-pos, zero-lt-suc, pow-succ'}
use native.Mathlib.Omega.{arith}
use mathlib.Core.Bool.{Bool, ◌&&◌}
use lib.IntN.{ℤ, pos, negsuc}
use lib.Dec.{T, eqb, ltb, leb, eqb→eq}
use lib.Ieee.{Float, nan, inf, fin, up, down, binary32, fits}
use lib.Ieee.Fits.{and_l, up_pos, down_pos}
use lib.Ieee.Exact.{HasValue}
use Rattle.channel.proofs.HalfWay.{exponent_zero}

-- No odd number is twice another.
odd_even : (m n X Y : ℕ) → m % 2 ≡ 1 → Y ≡ 2 * X → m ≡ n * Y → ⊥
odd_even m n X Y o f e = let g : n * Y ≡ n * (2 * X) = ap (λ (z : ℕ). n * z) f in omega arith

-- Two is divided out on both sides.
halved : (m n X Y A B : ℕ) → A ≡ 2 * X → B ≡ 2 * Y → m * A ≡ n * B → m * X ≡ n * Y
halved m n X Y A B f g e =
    let p : m * A ≡ m * (2 * X) = ap (λ (z : ℕ). m * z) f in
    let q : n * B ≡ n * (2 * Y) = ap (λ (z : ℕ). n * z) g in
    omega arith

-- An odd number times a power of two has but one such form.
odd_powers : (m n a b : ℕ) → m % 2 ≡ 1 → n % 2 ≡ 1 → m * 2 ^ a ≡ n * 2 ^ b → (m ≡ n) × (a ≡ b)
odd_powers m n zero zero o p e = (omega arith, refl)
odd_powers m n zero (suc b) o p e = absurd (odd_even m n (2 ^ b) (2 ^ suc b) o (pow-succ' 2 b) (omega arith))
odd_powers m n (suc a) zero o p e = absurd (odd_even n m (2 ^ a) (2 ^ suc a) p (pow-succ' 2 a) (omega arith))
odd_powers m n (suc a) (suc b) o p e =
    let r = odd_powers m n a b o p
    (halved m n (2 ^ a) (2 ^ b) (2 ^ suc a) (2 ^ suc b) (pow-succ' 2 a) (pow-succ' 2 b) e) in
    (r.0, ap suc r.1)

-- So has an odd number times 2 ^ e, where e may be negative.
odd_scaled : (m n : ℕ) (e g : ℤ) → m % 2 ≡ 1 → n % 2 ≡ 1 → m * up e * down g ≡ n * up g * down e → (m ≡ n) × (e ≡ g)
odd_scaled m n (pos a) (pos b) o p h =
    let r = odd_powers m n a b o p (omega arith) in
    (r.0, ap pos r.1)
odd_scaled m n (pos a) (negsuc b) o p h =
    absurd (odd_even n (m * 2 ^ a) (2 ^ b) (2 ^ suc b) p (pow-succ' 2 b) (omega arith))
odd_scaled m n (negsuc a) (pos b) o p h =
    absurd (odd_even m (n * 2 ^ b) (2 ^ a) (2 ^ suc a) o (pow-succ' 2 a) (omega arith))
odd_scaled m n (negsuc a) (negsuc b) o p h =
    let r = odd_powers m n (suc b) (suc a) o p (omega arith) in
    (r.0, ap negsuc (sym (suc_inj r.1)))

-- The significand of an f32 other than 0 is odd.
fits_odd : (s : Bool) (m : ℕ) (e : ℤ) → T (fits binary32 (fin s (suc m) e)) → suc m % 2 ≡ 1
unfolding fits
fits_odd s m e h =
    let a = eqb (suc m % 2) 1 in
    let b = ltb (suc m) (2 ^ 24) in
    let c = leb (down e) (2 ^ 149) in
    let d = ltb (suc m * up e) (2 ^ 128 * down e) in
    eqb→eq (suc m % 2) 1 (and_l a b (and_l (a && b) c (and_l (a && b && c) d h)))

-- The exponent of 0 is 0.
fits_zero : (s : Bool) (e : ℤ) → T (fits binary32 (fin s zero e)) → e ≡ pos 0
unfolding fits
fits_zero s e h = exponent_zero e (eqb→eq (up e * down e) 1 h)

-- Two values equal to one fraction are equal, cross-multiplied.
same_value : (a b c d n k : ℕ) → 0 < k → a * k ≡ n * b → c * k ≡ n * d → a * d ≡ c * b
same_value a b c d n k K p q =
    let u : a * k * d ≡ n * b * d = ap (λ (z : ℕ). z * d) p in
    let v : c * k * b ≡ n * d * b = ap (λ (z : ℕ). z * b) q in
    eq_of_mul-eq-mul_right k K (a * d) (c * b) (omega arith)

-- A product of factors above 0 is not 0.
not_zero : (a b c x y : ℕ) → 0 < b → 0 < c → 0 * x * y ≡ suc a * b * c → ⊥
not_zero a b c x y p q e = let g = mul-pos (mul-pos (zero-lt-suc a) p) q in omega arith

-- An f32 with the sign s and the value n / k is unique.
pub value_unique : (x y : Float) (s : Bool) (n k : ℕ) → 0 < k → T (fits binary32 x) → T (fits binary32 y)
    → HasValue x s n k → HasValue y s n k → x ≡ y
value_unique nan y s n k K p q h j = elim h [ ]
value_unique (inf _) y s n k K p q h j = elim h [ ]
value_unique (fin t zero e) nan s n k K p q h j = elim j [ ]
value_unique (fin t zero e) (inf _) s n k K p q h j = elim j [ ]
value_unique (fin t (suc m) e) nan s n k K p q h j = elim j [ ]
value_unique (fin t (suc m) e) (inf _) s n k K p q h j = elim j [ ]
value_unique (fin t zero e) (fin u zero g) s n k K p q h j =
    λ i. fin ((h.0 ∙ sym j.0) i) zero ((fits_zero t e p ∙ sym (fits_zero u g q)) i)
value_unique (fin t zero e) (fin u (suc m) g) s n k K p q h j =
    absurd
    (not_zero m (up g) (down e) (up e) (down g) (up_pos g) (down_pos e)
    (same_value (0 * up e) (down e) (suc m * up g) (down g) n k K h.1 j.1))
value_unique (fin t (suc m) e) (fin u zero g) s n k K p q h j =
    absurd
    (not_zero m (up e) (down g) (up g) (down e) (up_pos e) (down_pos g)
    (same_value (0 * up g) (down g) (suc m * up e) (down e) n k K j.1 h.1))
value_unique (fin t (suc m) e) (fin u (suc l) g) s n k K p q h j =
    let r = odd_scaled (suc m) (suc l) e g (fits_odd t m e p) (fits_odd u l g q)
    (same_value (suc m * up e) (down e) (suc l * up g) (down g) n k K h.1 j.1) in
    λ i. fin ((h.0 ∙ sym j.0) i) (r.0 i) (r.1 i)
