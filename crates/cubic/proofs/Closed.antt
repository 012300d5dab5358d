-- The value and the differences of a blend as polynomials in the index. The one identity on the control values is
-- `blend-polynomial`; each difference then follows from the one before.
use mathlib.Core.Path.{◌≡◌, ◌∙◌, ap, ap₂}
use mathlib.Core.List.{List, [], ◌∷◌}
use Prim.Native.Nat.{ℕ, suc}
use native.Mathlib.Omega.{arith}
use lib.IntN.{ℤ, pos, negsuc, ◌+ℤ◌, ◌-ℤ◌, ◌*ℤ◌, +ℤ_invr}
use Rattle.integers.proofs.Ring.{Expr, var, con, ◌⊕◌, ◌⊖◌, ◌⊗◌, eval, solve}
use Rattle.cubic.specs.Basis.{dot}
use Rattle.cubic.specs.Blend.{blendℤ, samples}
use Rattle.cubic.specs.Differences.{delta, differences_at, IsCubic}

-- The index after i.
pos_suc : (i : ℕ) → pos (suc i) ≡ pos i +ℤ pos 1
pos_suc i = ap pos (omega arith)

-- The coefficients of the powers 3, 2, 1, 0 of the parameter: the rows of the basis matrix times the control values.
module _ (q0 q1 q2 q3 : ℤ) where
  abbrev pub coef3 : ℤ
  coef3 = dot (negsuc 0 ∷ pos 3 ∷ negsuc 2 ∷ pos 1 ∷ []) q0 q1 q2 q3

  abbrev pub coef2 : ℤ
  coef2 = dot (pos 3 ∷ negsuc 5 ∷ pos 3 ∷ pos 0 ∷ []) q0 q1 q2 q3

  abbrev pub coef1 : ℤ
  coef1 = dot (negsuc 2 ∷ pos 3 ∷ pos 0 ∷ pos 0 ∷ []) q0 q1 q2 q3

  abbrev pub coef0 : ℤ
  coef0 = dot (pos 1 ∷ pos 0 ∷ pos 0 ∷ pos 0 ∷ []) q0 q1 q2 q3

-- The polynomials as expressions: n is var 0, the coefficients are a3 to a0, and i is the index.
module _ (a3 a2 a1 a0 : Expr) where
  abbrev n : Expr
  n = var 0

  abbrev value : Expr → Expr
  value i = a3 ⊗ i ⊗ i ⊗ i ⊕ n ⊗ a2 ⊗ i ⊗ i ⊕ n ⊗ n ⊗ a1 ⊗ i ⊕ n ⊗ n ⊗ n ⊗ a0

  abbrev first : Expr → Expr
  first i =
      a3 ⊗ (con (pos 3) ⊗ i ⊗ i ⊕ con (pos 3) ⊗ i ⊕ con (pos 1)) ⊕
      n ⊗ a2 ⊗ (con (pos 2) ⊗ i ⊕ con (pos 1)) ⊕ n ⊗ n ⊗ a1

  abbrev second : Expr → Expr
  second i = con (pos 6) ⊗ a3 ⊗ (i ⊕ con (pos 1)) ⊕ con (pos 2) ⊗ n ⊗ a2

  abbrev third : Expr → Expr
  third i = con (pos 6) ⊗ a3

-- With the coefficients as var 1 to var 4; the index will be var 5.
abbrev of : (Expr → Expr → Expr → Expr → Expr → Expr) → Expr → Expr
of p i = p (var 1) (var 2) (var 3) (var 4) i

module _ (n q0 q1 q2 q3 : ℤ) where
  -- The values of the variables.
  abbrev at : ℤ → List ℤ
  at i = n ∷ coef3 q0 q1 q2 q3 ∷ coef2 q0 q1 q2 q3 ∷ coef1 q0 q1 q2 q3 ∷ coef0 q0 q1 q2 q3 ∷ i ∷ []

  -- The blend as a polynomial in the index.
  blend_polynomial : (i : ℤ) → blendℤ n i q0 q1 q2 q3 ≡ eval (at i) (of value (var 5))
  unfolding blendℤ dot
  blend_polynomial i =
      let u : Expr = var 0 ⊖ var 5 in
      let j : Expr = var 5 in
      let row : ℤ → ℤ → ℤ → ℤ → Expr = λ a b c d. con a ⊗ var 1 ⊕ con b ⊗ var 2 ⊕ con c ⊗ var 3 ⊕ con d ⊗ var 4 in
      solve (n ∷ q0 ∷ q1 ∷ q2 ∷ q3 ∷ i ∷ [])
      (u ⊗ u ⊗ u ⊗ var 1 ⊕ con (pos 3) ⊗ j ⊗ u ⊗ u ⊗ var 2 ⊕ con (pos 3) ⊗ j ⊗ j ⊗ u ⊗ var 3 ⊕ j ⊗ j ⊗ j ⊗ var 4)
      (value
      (row (negsuc 0) (pos 3) (negsuc 2) (pos 1))
      (row (pos 3) (negsuc 5) (pos 3) (pos 0))
      (row (negsuc 2) (pos 3) (pos 0) (pos 0))
      (row (pos 1) (pos 0) (pos 0) (pos 0)) j) tt

  abbrev P : ℕ → ℤ
  P = samples n q0 q1 q2 q3

  -- A polynomial at the index after i.
  after : (p : Expr → Expr → Expr → Expr → Expr → Expr) (i : ℕ) →
      eval (at (pos (suc i))) (of p (var 5)) ≡ eval (at (pos i +ℤ pos 1)) (of p (var 5))
  after p i = ap (λ z. eval (at z) (of p (var 5))) (pos_suc i)

  -- The value at index i.
  value_closed : (i : ℕ) → P i ≡ eval (at (pos i)) (of value (var 5))
  unfolding samples
  value_closed i = blend_polynomial (pos i)

  -- The first difference.
  pub first_closed : (i : ℕ) → delta 1 P i ≡ eval (at (pos i)) (of first (var 5))
  unfolding delta
  first_closed i =
      ap₂ (λ a b. a -ℤ b) (value_closed (suc i) ∙ after value i) (value_closed i) ∙
      solve (at (pos i)) (of value (var 5 ⊕ con (pos 1)) ⊖ of value (var 5)) (of first (var 5)) tt

  -- The second difference.
  pub second_closed : (i : ℕ) → delta 2 P i ≡ eval (at (pos i)) (of second (var 5))
  unfolding delta
  second_closed i =
      ap₂ (λ a b. a -ℤ b) (first_closed (suc i) ∙ after first i) (first_closed i) ∙
      solve (at (pos i)) (of first (var 5 ⊕ con (pos 1)) ⊖ of first (var 5)) (of second (var 5)) tt

  -- The third difference, which is the same everywhere.
  pub third_closed : (i : ℕ) → delta 3 P i ≡ eval (at (pos i)) (of third (var 5))
  unfolding delta
  third_closed i =
      ap₂ (λ a b. a -ℤ b) (second_closed (suc i) ∙ after second i) (second_closed i) ∙
      solve (at (pos i)) (of second (var 5 ⊕ con (pos 1)) ⊖ of second (var 5)) (of third (var 5)) tt

  -- So the samples of a blend are a cubic.
  pub samples_cubic : IsCubic P
  unfolding delta
  samples_cubic = record {
    fourth = λ i.
        ap₂ (λ a b. a -ℤ b) (third_closed (suc i)) (third_closed i) ∙ +ℤ_invr (pos 6 *ℤ coef3 q0 q1 q2 q3);
  }

  -- Equation 22: its matrix times the coefficients is the value and the differences at index 0, with n taken out of
  -- each row step by step.
  pub start_differences : differences_at P 0 ≡
      record {
        value = n *ℤ (n *ℤ (n *ℤ coef0 q0 q1 q2 q3));
        d1 = coef3 q0 q1 q2 q3 +ℤ n *ℤ (coef2 q0 q1 q2 q3 +ℤ n *ℤ coef1 q0 q1 q2 q3);
        d2 = pos 6 *ℤ coef3 q0 q1 q2 q3 +ℤ n *ℤ (pos 2 *ℤ coef2 q0 q1 q2 q3);
        d3 = pos 6 *ℤ coef3 q0 q1 q2 q3;
      }
  unfolding differences_at
  start_differences =
      let ρ : List ℤ = at (pos 0) in
      let m : Expr = var 0 in
      let i : Expr = con (pos 0) in
      rw (
        value_closed 0 ∙ solve ρ (of value i) (m ⊗ (m ⊗ (m ⊗ var 4))) tt,
        first_closed 0 ∙ solve ρ (of first i) (var 1 ⊕ m ⊗ (var 2 ⊕ m ⊗ var 3)) tt,
        second_closed 0 ∙ solve ρ (of second i) (con (pos 6) ⊗ var 1 ⊕ m ⊗ (con (pos 2) ⊗ var 2)) tt,
        third_closed 0,
      )
