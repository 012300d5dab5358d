-- The tests of `Some` in words: each is true exactly where an index or an element that passes exists.
use mathlib.Core.Path.{◌≡◌, refl, subst}
use mathlib.Core.Logic.{◌↔◌, ◌⊎◌, inl, inr, ⊎_elim}
use mathlib.Core.Bool.{Bool, true, false, ◌||◌}
use mathlib.Core.List.{List, [], ◌∷◌}
use Prim.Native.Nat.{ℕ, zero, suc, ◌<◌}
use native.Mathlib.Omega.{arith}
use lib.Dec.{T, ltb, ltb→lt, lt→ltb}
use lib.ListN.{length, get_or}
use Rattle.decide.specs.Some.{some_below, some_of}
use Rattle.decide.proofs.Truth.{either, decided}

-- An index below suc n is below n or is n.
pub below_or_last : {i n : ℕ} → i < suc n → (i < n) ⊎ (i ≡ n)
below_or_last {i} {n} h =
    ⊎_elim (λ t. inl (ltb→lt i n t)) (λ f. inr (let g : ¬ (i < n) = λ l. f (lt→ltb i n l) in omega arith))
    (decided (ltb i n))

module _ (p : ℕ → Bool) where
  found_below : (n : ℕ) → T (some_below n p) → (i : ℕ) × (i < n) × T (p i)
  unfolding some_below
  found_below zero t = absurd t
  found_below (suc n) t =
      ⊎_elim (λ u. let w = found_below n u in (w.0, omega (arith, w.1), w.2)) (λ u. (n, omega arith, u))
      ((either (some_below n p) (p n)).0 t)

  seen_below : (n : ℕ) {i : ℕ} → i < n → T (p i) → T (some_below n p)
  unfolding some_below
  seen_below zero h t = absurd (omega arith)
  seen_below (suc n) h t =
      (either (some_below n p) (p n)).1
      (⊎_elim (λ l. inl (seen_below n l t)) (λ e. inr (subst (λ j. T (p j)) e t)) (below_or_last h))

  -- Some index below n passes.
  pub some_below_lem : (n : ℕ) → T (some_below n p) ↔ ((i : ℕ) × (i < n) × T (p i))
  some_below_lem n = (found_below n, λ w. seen_below n w.1 w.2)

  found_of_lem : (l : List ℕ) → T (some_of p l) → (k : ℕ) × (k < length l) × T (p (get_or l k 0))
  unfolding some_of
  found_of_lem [] t = absurd t
  found_of_lem (a ∷ l) t =
      ⊎_elim (λ u. (0, omega arith, u)) (λ u. let w = found_of_lem l u in (suc w.0, omega (arith, w.1), w.2))
      ((either (p a) (some_of p l)).0 t)

  seen_of : (l : List ℕ) (k : ℕ) → k < length l → T (p (get_or l k 0)) → T (some_of p l)
  unfolding some_of
  seen_of [] k h t = absurd (omega arith)
  seen_of (a ∷ l) zero h t = (either (p a) (some_of p l)).1 (inl t)
  seen_of (a ∷ l) (suc k) h t = (either (p a) (some_of p l)).1 (inr (seen_of l k (omega arith) t))

  -- Some element of the list passes.
  pub some_of_lem : (l : List ℕ) → T (some_of p l) ↔ ((k : ℕ) × (k < length l) × T (p (get_or l k 0)))
  some_of_lem l = (found_of_lem l, λ w. seen_of l w.0 w.1 w.2)

-- A test joined to false is the test.
or-false : (b : Bool) → (b || false) ≡ b
or-false true = refl
or-false false = refl

-- Of a list of one element it is that one, and of a list of three one of these.
pub some_of_one : (p : ℕ → Bool) (a : ℕ) → some_of p (a ∷ []) ≡ p a
unfolding some_of
some_of_one p a = or-false (p a)

pub some_of_three : (p : ℕ → Bool) (a b c : ℕ) → some_of p (a ∷ b ∷ c ∷ []) ≡ (p a || p b || p c)
unfolding some_of
some_of_three p a b c = joined (p a) (p b) (p c)
  where
    joined : (x y z : Bool) → (x || (y || (z || false))) ≡ (x || y || z)
    joined true y z = refl
    joined false true z = refl
    joined false false z = or-false z
