-- Polynomials with integer coefficients in Horner's form: their sums and products compute, and the value of a sum or
-- product is the sum or product of the values.
use mathlib.Core.Path.{◌≡◌, refl, sym, ◌∙◌, ap, ap₂}
use mathlib.Core.Bool.{Bool, true, false, cond}
use Prim.Native.Nat.{ℕ, compare, Ordering}
use native.Mathlib.Omega.{arith}
use lib.Dec.{T, eqb, eqb→eq, compare_is_eq}
use lib.IntN.{ℤ, pos, negsuc, neg_ℤ, ◌+ℤ◌, ◌*ℤ◌, +ℤ_idl, +ℤ_idr, zero-*ℤ}
use Rattle.integers.proofs.Difference.{val_of, zval}

-- `horner p x q` is p · x + q, where x is the number of a variable; q has variables above x only, and p none below x.
pub data Poly : Type 0 where
  constant : ℤ → Poly
  horner : Poly → ℕ → Poly → Poly

-- The test whether an integer is zero.
abbrev is_zeroℤ : ℤ → Bool
is_zeroℤ (pos n) = eqb n 0
is_zeroℤ (negsuc n) = false

-- The test whether a polynomial is the constant zero.
abbrev pub is_zero : Poly → Bool
is_zero (constant c) = is_zeroℤ c
is_zero (horner p x q) = false

-- The polynomial p · x + q, without the variable where p is zero.
abbrev sparse : Poly → ℕ → Poly → Poly
sparse p x q = cond (is_zero p) q (horner p x q)

-- One of three, of which only that one is computed.
abbrev pick : Ordering → (Unit {0} → Poly) → (Unit {0} → Poly) → (Unit {0} → Poly) → Poly
pick Ordering.lt a b c = a tt
pick Ordering.eq a b c = b tt
pick Ordering.gt a b c = c tt

-- The polynomial of one variable.
abbrev pub variable : ℕ → Poly
variable k = horner (constant (pos 1)) k (constant (pos 0))

-- The sum of a constant and a polynomial.
abbrev add_constant : ℤ → Poly → Poly
add_constant a (constant b) = constant (a +ℤ b)
add_constant a (horner p x q) = horner p x (add_constant a q)

-- The sum of p · x + q and a polynomial, where `plus-p` adds p and `plus-q` adds q.
abbrev add_horner : (plus-p plus-q : Poly → Poly) → Poly → ℕ → Poly → Poly → Poly
add_horner plus-p plus-q p x q (constant b) = horner p x (plus-q (constant b))
add_horner plus-p plus-q p x q (horner p' y q') =
    pick (compare x y)
    (λ _. horner p x (plus-q (horner p' y q')))
    (λ _. sparse (plus-p p') x (plus-q q'))
    (λ _. horner p' y (add_horner plus-p plus-q p x q q'))

-- The sum of two polynomials.
abbrev pub add : Poly → Poly → Poly
add (constant a) r = add_constant a r
add (horner p x q) r = add_horner (λ s. add p s) (λ s. add q s) p x q r

-- A polynomial times a constant that is not zero.
abbrev scale_nonzero : ℤ → Poly → Poly
scale_nonzero a (constant b) = constant (a *ℤ b)
scale_nonzero a (horner p x q) = horner (scale_nonzero a p) x (scale_nonzero a q)

-- A polynomial times a constant.
abbrev scale : ℤ → Poly → Poly
scale a r = elim (is_zeroℤ a) [ true ↦ constant (pos 0) | false ↦ scale_nonzero a r ]

-- The negative of a polynomial.
abbrev pub negate : Poly → Poly
negate r = scale_nonzero (negsuc 0) r

-- A polynomial times a variable.
abbrev mul_variable : ℕ → Poly → Poly
mul_variable x (constant b) = sparse (constant b) x (constant (pos 0))
mul_variable x (horner p y q) =
    pick (compare x y)
    (λ _. horner (horner p y q) x (constant (pos 0)))
    (λ _. horner (horner p y q) x (constant (pos 0)))
    (λ _. horner (mul_variable x p) y (mul_variable x q))

-- The product of two polynomials.
abbrev pub mul : Poly → Poly → Poly
mul (constant a) r = scale a r
mul (horner p x q) r = add (mul_variable x (mul p r)) (mul q r)

-- Identities of Horner's form: its sum with another, its sum with r and its product with r, from either side.
module _ (p p' q q' x : ℤ) where
  horner-+ : (p +ℤ p') *ℤ x +ℤ (q +ℤ q') ≡ (p *ℤ x +ℤ q) +ℤ (p' *ℤ x +ℤ q')
  horner-+ = rw (val_of p, val_of p', val_of q, val_of q', val_of x) (simp zval (omega arith))

module _ (p q x r : ℤ) where
  horner-+-right : p *ℤ x +ℤ (q +ℤ r) ≡ (p *ℤ x +ℤ q) +ℤ r
  horner-+-right = rw (val_of p, val_of q, val_of x, val_of r) (simp zval (omega arith))

  horner-+-left : p *ℤ x +ℤ (r +ℤ q) ≡ r +ℤ (p *ℤ x +ℤ q)
  horner-+-left = rw (val_of p, val_of q, val_of x, val_of r) (simp zval (omega arith))

  horner-*-left : (r *ℤ p) *ℤ x +ℤ r *ℤ q ≡ r *ℤ (p *ℤ x +ℤ q)
  horner-*-left = rw (val_of p, val_of q, val_of x, val_of r) (simp zval (omega arith))

  horner-*-right : (p *ℤ r) *ℤ x +ℤ q *ℤ r ≡ (p *ℤ x +ℤ q) *ℤ r
  horner-*-right = rw (val_of p, val_of q, val_of x, val_of r) (simp zval (omega arith))

-- One times an integer is the integer.
one-*ℤ : (a : ℤ) → pos 1 *ℤ a ≡ a
one-*ℤ a = rw (val_of a) (simp zval (omega arith))

-- Minus one times an integer is its negative.
minus_one-*ℤ : (a : ℤ) → negsuc 0 *ℤ a ≡ neg_ℤ a
minus_one-*ℤ a = rw (val_of a) (simp zval (omega arith))

-- An integer that passes the test is zero.
is_zeroℤ-is : (z : ℤ) → T (is_zeroℤ z) → z ≡ pos 0
is_zeroℤ-is (pos n) t = ap pos (eqb→eq n 0 t)
is_zeroℤ-is (negsuc n) t = absurd t

-- What holds of all three holds of the one that is picked; the second may use that the numbers are equal.
pick_all : (Q : Poly → Type 0) (o : Ordering) (a b c : Unit {0} → Poly) →
    Q (a tt) → (T (compare_is_eq o) → Q (b tt)) → Q (c tt) → Q (pick o a b c)
pick_all Q Ordering.lt a b c f g h = f
pick_all Q Ordering.eq a b c f g h = g tt
pick_all Q Ordering.gt a b c f g h = h

-- What holds of both arms holds of the one that is taken; the first may use that the test is true.
cond_all : (Q : Poly → Type 0) (t : Bool) (a b : Poly) → (T t → Q a) → Q b → Q (cond t a b)
cond_all Q true a b f g = f tt
cond_all Q false a b f g = g

module _ (at : ℕ → ℤ) where
  -- The value of a polynomial where variable k has the value `at k`.
  pub value : Poly → ℤ
  value (constant c) = c
  value (horner p x q) = value p *ℤ at x +ℤ value q

  -- A constant has itself as its value.
  pub constant_value : (c : ℤ) → value (constant c) ≡ c
  unfolding value
  constant_value c = refl

  -- A variable has the value that is given to it.
  pub variable_value : (k : ℕ) → value (variable k) ≡ at k
  unfolding value
  variable_value k = +ℤ_idr (pos 1 *ℤ at k) ∙ one-*ℤ (at k)

  -- A polynomial that is zero by the test has the value zero.
  pub is_zero_value : (p : Poly) → T (is_zero p) → value p ≡ pos 0
  unfolding value
  is_zero_value (constant c) t = is_zeroℤ-is c t
  is_zero_value (horner p x q) t = absurd t

  -- Leaving out a variable with the factor zero keeps the value.
  sparse_value : (p : Poly) (x : ℕ) (q : Poly) → value (sparse p x q) ≡ value p *ℤ at x +ℤ value q
  unfolding value
  sparse_value p x q =
      cond_all (λ r. value r ≡ value p *ℤ at x +ℤ value q) (is_zero p) q (horner p x q)
      (λ t. sym (rw (is_zero_value p t, zero-*ℤ (at x)) (+ℤ_idl (value q))))
      refl

  -- The value of a sum with a constant.
  add_constant_value : (a : ℤ) (r : Poly) → value (add_constant a r) ≡ a +ℤ value r
  unfolding value
  add_constant_value a (constant b) = refl
  add_constant_value a (horner p x q) = rw (add_constant_value a q) (horner-+-left (value p) (value q) (at x) a)

  -- The value of a sum with p · x + q, from the values of sums with p and with q.
  add_horner_value : (plus-p plus-q : Poly → Poly) (p : Poly) (x : ℕ) (q : Poly) →
      ((r : Poly) → value (plus-p r) ≡ value p +ℤ value r) →
      ((r : Poly) → value (plus-q r) ≡ value q +ℤ value r) →
      (r : Poly) → value (add_horner plus-p plus-q p x q r) ≡ value (horner p x q) +ℤ value r
  unfolding value
  add_horner_value plus-p plus-q p x q hp hq (constant b) =
      rw (hq (constant b)) (horner-+-right (value p) (value q) (at x) b)
  add_horner_value plus-p plus-q p x q hp hq (horner p' y q') =
      pick_all (λ r. value r ≡ value (horner p x q) +ℤ value (horner p' y q')) (compare x y)
      (λ _. horner p x (plus-q (horner p' y q')))
      (λ _. sparse (plus-p p') x (plus-q q'))
      (λ _. horner p' y (add_horner plus-p plus-q p x q q'))
      (rw (hq (horner p' y q')) (horner-+-right (value p) (value q) (at x) (value (horner p' y q'))))
      (λ t.
      sparse_value (plus-p p') x (plus-q q') ∙
      ap₂ (λ u v. u *ℤ at x +ℤ v) (hp p') (hq q') ∙
      horner-+ (value p) (value p') (value q) (value q') (at x) ∙
      ap (λ k. (value p *ℤ at x +ℤ value q) +ℤ (value p' *ℤ at k +ℤ value q')) (eqb→eq x y t))
      (ap (λ z. value p' *ℤ at y +ℤ z) (add_horner_value plus-p plus-q p x q hp hq q') ∙
      horner-+-left (value p') (value q') (at y) (value (horner p x q)))

  -- The value of a sum is the sum of the values.
  pub add_value : (p r : Poly) → value (add p r) ≡ value p +ℤ value r
  unfolding value
  add_value (constant a) r = add_constant_value a r
  add_value (horner p x q) r =
      add_horner_value (λ s. add p s) (λ s. add q s) p x q (λ s. add_value p s) (λ s. add_value q s) r

  -- The value of a polynomial times a constant, factor by factor.
  scale_nonzero_value : (a : ℤ) (r : Poly) → value (scale_nonzero a r) ≡ a *ℤ value r
  unfolding value
  scale_nonzero_value a (constant b) = refl
  scale_nonzero_value a (horner p x q) =
      rw (scale_nonzero_value a p, scale_nonzero_value a q) (horner-*-left (value p) (value q) (at x) a)

  -- The value of a negated polynomial is the negated value.
  pub negate_value : (r : Poly) → value (negate r) ≡ neg_ℤ (value r)
  negate_value r = scale_nonzero_value (negsuc 0) r ∙ minus_one-*ℤ (value r)

  -- The value of a polynomial times a constant.
  scale_value : (a : ℤ) (r : Poly) → value (scale a r) ≡ a *ℤ value r
  unfolding value
  scale_value a r = by_test (is_zeroℤ a) (is_zeroℤ-is a)
    where
      by_test : (t : Bool) → (T t → a ≡ pos 0) →
          value (elim t [ true ↦ constant (pos 0) | false ↦ scale_nonzero a r ]) ≡ a *ℤ value r
      by_test true h = sym (ap (λ z. z *ℤ value r) (h tt) ∙ zero-*ℤ (value r))
      by_test false h = scale_nonzero_value a r

  -- The value of a polynomial times a variable.
  mul_variable_value : (x : ℕ) (r : Poly) → value (mul_variable x r) ≡ value r *ℤ at x
  unfolding value
  mul_variable_value x (constant b) = sparse_value (constant b) x (constant (pos 0)) ∙ +ℤ_idr (b *ℤ at x)
  mul_variable_value x (horner p y q) =
      pick_all (λ r. value r ≡ value (horner p y q) *ℤ at x) (compare x y)
      (λ _. horner (horner p y q) x (constant (pos 0)))
      (λ _. horner (horner p y q) x (constant (pos 0)))
      (λ _. horner (mul_variable x p) y (mul_variable x q))
      (+ℤ_idr (value (horner p y q) *ℤ at x))
      (λ _. +ℤ_idr (value (horner p y q) *ℤ at x))
      (ap₂ (λ u v. u *ℤ at y +ℤ v) (mul_variable_value x p) (mul_variable_value x q) ∙
      horner-*-right (value p) (value q) (at y) (at x))

  -- The value of a product is the product of the values.
  pub mul_value : (p r : Poly) → value (mul p r) ≡ value p *ℤ value r
  unfolding value
  mul_value (constant a) r = scale_value a r
  mul_value (horner p x q) r =
      add_value (mul_variable x (mul p r)) (mul q r) ∙
      ap₂ (λ u v. u +ℤ v) (mul_variable_value x (mul p r) ∙ ap (λ z. z *ℤ at x) (mul_value p r)) (mul_value q r) ∙
      horner-*-right (value p) (value q) (at x) (value r)
