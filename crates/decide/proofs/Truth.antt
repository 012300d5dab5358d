-- `T b` says that the test b is true. What it says of tests joined by and, or and not, and of tests on numbers.
use mathlib.Core.Path.{◌≡◌, refl, sym, ◌∙◌, subst}
use mathlib.Core.Logic.{◌↔◌, ◌⊎◌, inl, inr, ⊎_elim}
use mathlib.Core.Bool.{Bool, true, false, ◌&&◌, ◌||◌}
use Prim.Native.Nat.{ℕ, ◌≤◌, ◌<◌}
use native.Mathlib.Omega.{arith}
use lib.Dec.{T, leb, ltb, eqb, leb→le, le→leb, ltb→lt, lt→ltb, eqb→eq, eqb_refl}

-- Both tests are true.
pub both : (a b : Bool) → T (a && b) ↔ (T a × T b)
both true b = (λ t. (tt, t), λ p. p.1)
both false b = (λ t. absurd t, λ p. p.0)

-- One of the tests is true.
pub either : (a b : Bool) → T (a || b) ↔ (T a ⊎ T b)
either true b = (λ t. inl tt, λ p. tt)
either false b = (λ t. inr t, λ p. elim p [ inl t ↦ absurd t | inr t ↦ t ])

-- Neither test is true.
pub neither : (a b : Bool) → (¬ T (a || b)) ↔ ((¬ T a) × (¬ T b))
neither true b = (λ f. absurd (f tt), λ p t. p.0 tt)
neither false b = (λ f. (λ t. t, f), λ p t. p.1 t)

-- Where one test or the other would do and neither does, both are false.
pub both_false : (a b : Bool) → (a || b) ≡ false → (a ≡ false) × (b ≡ false)
both_false true b e = (e, cc)
both_false false b e = (refl, e)

-- A test is true or it is not.
pub decided : (b : Bool) → T b ⊎ (¬ T b)
decided true = inl tt
decided false = inr (λ t. t)

-- A test that is not true is false.
pub false_of : (b : Bool) → ¬ T b → b ≡ false
false_of true f = absurd (f tt)
false_of false f = refl

-- A test that is true is `true`.
pub true_of : (b : Bool) → T b → b ≡ true
true_of true t = refl
true_of false t = absurd t

-- Two tests, each true where the other is, are the same.
pub same_test : (a b : Bool) → (T a → T b) → (T b → T a) → a ≡ b
same_test true b f g = sym (true_of b (f tt))
same_test false b f g = sym (false_of b g)

-- The test is false exactly where it is not true.
pub false_iff : (b : Bool) → (b ≡ false) ↔ (¬ T b)
false_iff b = (λ e. subst (λ c. ¬ T c) (sym e) (λ t. t), false_of b)

module _ (m n : ℕ) where
  -- The test of "at most".
  pub at_most : T (leb m n) ↔ (m ≤ n)
  at_most = (leb→le m n, le→leb m n)

  -- The test of "less".
  pub less : T (ltb m n) ↔ (m < n)
  less = (ltb→lt m n, lt→ltb m n)

  -- The test of "equal".
  pub equal : T (eqb m n) ↔ (m ≡ n)
  equal = (eqb→eq m n, λ e. subst (λ k. T (eqb m k)) e (eqb_refl m))

  -- The test of "at most" that is not true.
  pub not_at_most : ¬ T (leb m n) → n < m
  not_at_most f = let g : ¬ (m ≤ n) = λ h. f (le→leb m n h) in omega arith

  -- The test of "less" that is not true.
  pub not_less : ¬ T (ltb m n) → n ≤ m
  not_less f = let g : ¬ (m < n) = λ h. f (lt→ltb m n h) in omega arith

-- Two tests of "at most" agree where the orders do.
pub at_most_agrees : (a b c d : ℕ) → (a ≤ b → c ≤ d) → (b < a → d < c) → leb a b ≡ leb c d
at_most_agrees a b c d f g =
    ⊎_elim (λ t. true_of (leb a b) t ∙ sym (true_of (leb c d) (le→leb c d (f (leb→le a b t)))))
    (λ n. false_of (leb a b) n ∙
    sym (false_of (leb c d) (λ t. let h = g (not_at_most a b n) in omega (arith, leb→le c d t))))
    (decided (leb a b))
