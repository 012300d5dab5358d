-- The blend is linear in the control values, so it commutes with differences, and blends along two parameters may be
-- taken in either order.
use mathlib.Core.Path.{◌≡◌, refl, sym, ◌∙◌, ap₂}
use mathlib.Core.List.{List, [], ◌∷◌}
use Prim.Native.Nat.{ℕ, zero, suc, ◌+◌}
use lib.IntN.{ℤ, pos, ◌-ℤ◌, ◌*ℤ◌}
use Rattle.integers.proofs.Ring.{Expr, var, con, ◌⊕◌, ◌⊖◌, ◌⊗◌, solve}
use Rattle.cubic.specs.Blend.{blendℤ}
use Rattle.cubic.specs.Differences.{delta}

-- The weights of index i of n.
module _ (n i : ℤ) where
  abbrev w0 : ℤ
  w0 = (n -ℤ i) *ℤ (n -ℤ i) *ℤ (n -ℤ i)

  abbrev w1 : ℤ
  w1 = pos 3 *ℤ i *ℤ (n -ℤ i) *ℤ (n -ℤ i)

  abbrev w2 : ℤ
  w2 = pos 3 *ℤ i *ℤ i *ℤ (n -ℤ i)

  abbrev w3 : ℤ
  w3 = i *ℤ i *ℤ i

-- The sum with the weights that are the variables w to w + 3.
abbrev weighted : (w : ℕ) → Expr → Expr → Expr → Expr → Expr
weighted w a b c d = var w ⊗ a ⊕ var (w + 1) ⊗ b ⊕ var (w + 2) ⊗ c ⊕ var (w + 3) ⊗ d

module _ (n i : ℤ) where
  module _ (a b c d a' b' c' d' : ℤ) where
    abbrev ρ : List ℤ
    ρ = w0 n i ∷ w1 n i ∷ w2 n i ∷ w3 n i ∷ a ∷ b ∷ c ∷ d ∷ a' ∷ b' ∷ c' ∷ d' ∷ []

    -- The blend of differences is the difference of the blends.
    blend_sub : blendℤ n i (a -ℤ a') (b -ℤ b') (c -ℤ c') (d -ℤ d') ≡ blendℤ n i a b c d -ℤ blendℤ n i a' b' c' d'
    unfolding blendℤ
    blend_sub =
        solve ρ (weighted 0 (var 4 ⊖ var 8) (var 5 ⊖ var 9) (var 6 ⊖ var 10) (var 7 ⊖ var 11))
        (weighted 0 (var 4) (var 5) (var 6) (var 7) ⊖ weighted 0 (var 8) (var 9) (var 10) (var 11)) tt

  -- A common factor of the control values is one of the blend.
  pub blend_scale : (k a b c d : ℤ) → blendℤ n i (k *ℤ a) (k *ℤ b) (k *ℤ c) (k *ℤ d) ≡ k *ℤ blendℤ n i a b c d
  unfolding blendℤ
  blend_scale k a b c d =
      solve (w0 n i ∷ w1 n i ∷ w2 n i ∷ w3 n i ∷ a ∷ b ∷ c ∷ d ∷ k ∷ [])
      (weighted 0 (var 8 ⊗ var 4) (var 8 ⊗ var 5) (var 8 ⊗ var 6) (var 8 ⊗ var 7))
      (var 8 ⊗ weighted 0 (var 4) (var 5) (var 6) (var 7)) tt

  -- The blend of zeros.
  pub blend_zero : blendℤ n i (pos 0) (pos 0) (pos 0) (pos 0) ≡ pos 0
  unfolding blendℤ
  blend_zero =
      let o : Expr = con (pos 0) in
      solve (w0 n i ∷ w1 n i ∷ w2 n i ∷ w3 n i ∷ []) (weighted 0 o o o o) o tt

-- Blends along two parameters may be taken in either order.
pub blend_exchange : (n i m j : ℤ) (a b c d : ℕ → ℤ) →
    blendℤ n i
    (blendℤ m j (a 0) (a 1) (a 2) (a 3))
    (blendℤ m j (b 0) (b 1) (b 2) (b 3))
    (blendℤ m j (c 0) (c 1) (c 2) (c 3))
    (blendℤ m j (d 0) (d 1) (d 2) (d 3)) ≡
    blendℤ m j
    (blendℤ n i (a 0) (b 0) (c 0) (d 0))
    (blendℤ n i (a 1) (b 1) (c 1) (d 1))
    (blendℤ n i (a 2) (b 2) (c 2) (d 2))
    (blendℤ n i (a 3) (b 3) (c 3) (d 3))
unfolding blendℤ
blend_exchange n i m j a b c d =
    let u : (k : ℕ) → Expr = λ k. weighted 4 (var k) (var (k + 1)) (var (k + 2)) (var (k + 3)) in
    let v : (k : ℕ) → Expr = λ k. weighted 0 (var k) (var (k + 4)) (var (k + 8)) (var (k + 12)) in
    solve
    (w0 n i ∷ w1 n i ∷ w2 n i ∷ w3 n i ∷ w0 m j ∷ w1 m j ∷ w2 m j ∷ w3 m j ∷
    a 0 ∷ a 1 ∷ a 2 ∷ a 3 ∷ b 0 ∷ b 1 ∷ b 2 ∷ b 3 ∷ c 0 ∷ c 1 ∷ c 2 ∷ c 3 ∷ d 0 ∷ d 1 ∷ d 2 ∷ d 3 ∷ [])
    (weighted 0 (u 8) (u 12) (u 16) (u 20)) (weighted 4 (v 8) (v 9) (v 10) (v 11)) tt

-- Differences commute with the blend of four sequences.
pub delta_blend : (m j : ℤ) (k : ℕ) (f0 f1 f2 f3 : ℕ → ℤ) (i : ℕ) →
    delta k (λ l. blendℤ m j (f0 l) (f1 l) (f2 l) (f3 l)) i ≡
    blendℤ m j (delta k f0 i) (delta k f1 i) (delta k f2 i) (delta k f3 i)
unfolding delta
delta_blend m j zero f0 f1 f2 f3 i = refl
delta_blend m j (suc k) f0 f1 f2 f3 i =
    ap₂ (λ a b. a -ℤ b) (delta_blend m j k f0 f1 f2 f3 (suc i)) (delta_blend m j k f0 f1 f2 f3 i) ∙
    sym (blend_sub m j (delta k f0 (suc i)) (delta k f1 (suc i)) (delta k f2 (suc i)) (delta k f3 (suc i))
    (delta k f0 i) (delta k f1 i) (delta k f2 i) (delta k f3 i))
