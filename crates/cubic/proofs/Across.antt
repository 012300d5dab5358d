-- Differences along one parameter and along another commute, so that values which are cubics along each parameter stay so
-- under differences. Nothing here knows how many parameters there are: a function of several is taken two at a time.
use mathlib.Core.Path.{◌≡◌, refl, ◌∙◌, ap, ap₂}
use mathlib.Core.List.{[], ◌∷◌}
use Prim.Native.Nat.{ℕ, zero, suc}
use lib.IntN.{ℤ, pos, ◌-ℤ◌}
use Rattle.integers.proofs.Ring.{var, ◌⊖◌, solve}
use Rattle.cubic.specs.Differences.{delta, IsCubic}

-- The differences of what is 0 are 0.
pub delta_none : (k i : ℕ) → delta k (λ q. pos 0) i ≡ pos 0
unfolding delta
delta_none zero i = refl
delta_none (suc k) i = rw (delta_none k (suc i), delta_none k i)

-- Sequences that are the same have the same differences.
pub delta_same : (k : ℕ) {f g : ℕ → ℤ} → ((q : ℕ) → f q ≡ g q) → (i : ℕ) → delta k f i ≡ delta k g i
unfolding delta
delta_same zero e i = e i
delta_same (suc k) e i = ap₂ (λ a b. a -ℤ b) (delta_same k e (suc i)) (delta_same k e i)

less_less : (a b c d : ℤ) → (a -ℤ b) -ℤ (c -ℤ d) ≡ (a -ℤ c) -ℤ (b -ℤ d)
less_less a b c d =
    solve (a ∷ b ∷ c ∷ d ∷ []) ((var 0 ⊖ var 1) ⊖ (var 2 ⊖ var 3)) ((var 0 ⊖ var 2) ⊖ (var 1 ⊖ var 3)) tt

-- The differences of one sequence less another.
pub delta_less : (k : ℕ) (f g : ℕ → ℤ) (i : ℕ) → delta k (λ q. f q -ℤ g q) i ≡ delta k f i -ℤ delta k g i
unfolding delta
delta_less zero f g i = refl
delta_less (suc k) f g i =
    ap₂ (λ a b. a -ℤ b) (delta_less k f g (suc i)) (delta_less k f g i) ∙
    less_less (delta k f (suc i)) (delta k g (suc i)) (delta k f i) (delta k g i)

-- Those of the sequence from index 1 on.
pub delta_later : (k : ℕ) (f : ℕ → ℤ) (i : ℕ) → delta k (λ q. f (suc q)) i ≡ delta k f (suc i)
unfolding delta
delta_later zero f i = refl
delta_later (suc k) f i = ap₂ (λ a b. a -ℤ b) (delta_later k f (suc i)) (delta_later k f i)

-- The differences of the first differences are those of the next order.
pub delta_steps : (k : ℕ) (f : ℕ → ℤ) (i : ℕ) → delta k (λ q. f (suc q) -ℤ f q) i ≡ delta (suc k) f i
unfolding delta
delta_steps k f i = delta_less k (λ q. f (suc q)) f i ∙ ap (λ a. a -ℤ delta k f i) (delta_later k f i)

-- Differences along two parameters may be taken in either order.
pub delta_exchange : (k q : ℕ) (P : ℕ → ℕ → ℤ) (i j : ℕ) →
    delta q (λ b. delta k (λ a. P a b) i) j ≡ delta k (λ a. delta q (P a) j) i
unfolding delta
delta_exchange zero q P i j = refl
delta_exchange (suc k) q P i j =
    delta_less q (λ b. delta k (λ a. P a b) (suc i)) (λ b. delta k (λ a. P a b) i) j ∙
    ap₂ (λ a b. a -ℤ b) (delta_exchange k q P (suc i) j) (delta_exchange k q P i j)

-- One cubic less another is a cubic, and so is a cubic from index 1 on.
pub less_cubic : {f g : ℕ → ℤ} → IsCubic f → IsCubic g → IsCubic (λ q. f q -ℤ g q)
less_cubic {f} {g} c d = record { fourth = λ i. delta_less 4 f g i ∙ rw (c.fourth i, d.fourth i) }

pub later_cubic : {f : ℕ → ℤ} → IsCubic f → IsCubic (λ q. f (suc q))
later_cubic {f} c = record { fourth = λ i. delta_later 4 f i ∙ c.fourth (suc i) }

-- Where each sequence along one parameter is a cubic, so are their differences along another.
pub delta_cubic : {P : ℕ → ℕ → ℤ} → ((a : ℕ) → IsCubic (P a)) → (k i : ℕ) → IsCubic (λ b. delta k (λ a. P a b) i)
delta_cubic {P} c k i = record {
  fourth = λ j. delta_exchange k 4 P i j ∙ delta_same k (λ a. (c a).fourth j) i ∙ delta_none k i;
}
