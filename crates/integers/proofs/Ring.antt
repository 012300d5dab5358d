-- A solver for equations of the commutative ring of integers: `solve ρ a b tt` shows that two expressions are equal,
-- where the polynomial of their difference computes to zero.
use mathlib.Core.Path.{◌≡◌, sym, ◌∙◌, ap, ap₂}
use mathlib.Core.List.{List}
use Prim.Native.Nat.{ℕ}
use native.Mathlib.Omega.{arith}
use lib.Dec.{T}
use lib.IntN.{ℤ, pos, neg_ℤ, ◌+ℤ◌, ◌-ℤ◌, ◌*ℤ◌}
use lib.ListN.{get_or}
use Rattle.integers.proofs.Difference.{val_of, zval}
use Rattle.integers.proofs.Polynomial.{Poly, constant, variable, is_zero, add, negate, mul, value}
use Rattle.integers.proofs.Polynomial.{is_zero_value, constant_value, variable_value}
use Rattle.integers.proofs.Polynomial.{add_value, negate_value, mul_value}

infixl 6 ◌⊕◌ ◌⊖◌
infixl 7 ◌⊗◌
infix 8 ⊝◌
-- An expression of the ring: `var k` is entry k of the list of values.
pub data Expr : Type 0 where
  var : ℕ → Expr
  con : ℤ → Expr
  ◌⊕◌ : Expr → Expr → Expr
  ◌⊖◌ : Expr → Expr → Expr
  ◌⊗◌ : Expr → Expr → Expr
  ⊝◌ : Expr → Expr

-- The integer that an expression stands for.
abbrev pub eval : List ℤ → Expr → ℤ
eval ρ (var k) = get_or ρ k (pos 0)
eval ρ (con z) = z
eval ρ (a ⊕ b) = eval ρ a +ℤ eval ρ b
eval ρ (a ⊖ b) = eval ρ a -ℤ eval ρ b
eval ρ (a ⊗ b) = eval ρ a *ℤ eval ρ b
eval ρ (⊝ a) = neg_ℤ (eval ρ a)

-- The polynomial of an expression.
abbrev pub normal : Expr → Poly
normal (var k) = variable k
normal (con z) = constant z
normal (a ⊕ b) = add (normal a) (normal b)
normal (a ⊖ b) = add (normal a) (negate (normal b))
normal (a ⊗ b) = mul (normal a) (normal b)
normal (⊝ a) = negate (normal a)

-- Integers are equal where their difference is zero.
pub equal_if_difference_zero : (a b : ℤ) → a -ℤ b ≡ pos 0 → a ≡ b
equal_if_difference_zero a b = rw (val_of a, val_of b) (simp zval (omega arith))

module _ (ρ : List ℤ) where
  -- The value of variable k.
  abbrev at : ℕ → ℤ
  at k = get_or ρ k (pos 0)

  -- An expression and its polynomial have one value.
  normal_value : (e : Expr) → value at (normal e) ≡ eval ρ e
  normal_value (var k) = variable_value at k
  normal_value (con z) = constant_value at z
  normal_value (a ⊕ b) = add_value at (normal a) (normal b) ∙ ap₂ (λ u v. u +ℤ v) (normal_value a) (normal_value b)
  normal_value (a ⊖ b) =
      add_value at (normal a) (negate (normal b)) ∙
      ap₂ (λ u v. u +ℤ v) (normal_value a) (negate_value at (normal b) ∙ ap neg_ℤ (normal_value b))
  normal_value (a ⊗ b) = mul_value at (normal a) (normal b) ∙ ap₂ (λ u v. u *ℤ v) (normal_value a) (normal_value b)
  normal_value (⊝ a) = negate_value at (normal a) ∙ ap neg_ℤ (normal_value a)

  -- Two expressions are equal where the polynomial of their difference is zero.
  pub solve : (a b : Expr) → T (is_zero (normal (a ⊖ b))) → eval ρ a ≡ eval ρ b
  solve a b t =
      equal_if_difference_zero (eval ρ a) (eval ρ b)
      (sym (normal_value (a ⊖ b)) ∙ is_zero_value at (normal (a ⊖ b)) t)
