-- Each integer is a difference of two naturals, `val p n` = p − n, so a statement on integers becomes one on
-- naturals: a linear fact on x and y is proved by `rw (val_of x, val_of y) (simp zval (omega arith))`. Its hypotheses
-- are premises of the goal, and not bound left of the equals sign, so that they are rewritten too.
use mathlib.Core.Path.{◌≡◌, sym, ap, subst}
use mathlib.Core.Logic.{◌↔◌}
use mathlib.Core.Bool.{Bool, true, false, not, cond}
use Prim.Native.Nat.{ℕ, zero, suc, ◌+◌, ◌*◌, ◌-◌, ◌<◌, ◌≤◌}
use native.Mathlib.Omega.{arith}
use lib.Dec.{T, ltb, leb, ltb→lt, nltb→le, leb→le, le→leb, lt→ltb}
use lib.IntN.{ℤ, pos, negsuc, neg_ℤ, nat_abs, sub_ℕ, ◌+ℤ◌, ◌*ℤ◌}
use lib.Signed.{le_z, lt_z, ◌≤ℤ◌, ◌<ℤ◌}
use borrow.Author.Tests.{le-leb, lt-leb}
use Rattle.decide.proofs.Truth.{at_most_agrees}
use Rattle.integers.specs.Magnitude.{Within}

-- The integer p − n.
pub val : ℕ → ℕ → ℤ
val p n = sub_ℕ p n

-- The larger of z and 0.
abbrev pub pos_part : ℤ → ℕ
pos_part (pos n) = n
pos_part (negsuc n) = 0

-- The larger of −z and 0.
abbrev pub neg_part : ℤ → ℕ
neg_part (pos n) = 0
neg_part (negsuc n) = suc n

-- `IsDiff p n z` says that z is p − n, by the sign of z.
data IsDiff (p n : ℕ) : ℤ → Type 0 where
  above : (k : ℕ) → p ≡ n + k → IsDiff p n (pos k)
  below : (k : ℕ) → n ≡ p + suc k → IsDiff p n (negsuc k)

-- The difference of two naturals, by the outcome of their comparison.
diff_cases : (p n : ℕ) (t : Bool) → (T t → p < n) → (T (not t) → n ≤ p) →
    IsDiff p n (cond t (negsuc (n - suc p)) (pos (p - n)))
diff_cases p n true f g = below (n - suc p) (let h : p < n = f tt in omega arith)
diff_cases p n false f g = above (p - n) (let h : n ≤ p = g tt in omega arith)

-- The function `sub_ℕ` takes the difference.
diff : (p n : ℕ) → IsDiff p n (sub_ℕ p n)
diff p n = diff_cases p n (ltb p n) (ltb→lt p n) (nltb→le p n)

-- The two naturals decide the integer.
same : {p n : ℕ} {x y : ℤ} → IsDiff p n x → IsDiff p n y → x ≡ y
same (above k e) (above l f) = ap pos (omega arith)
same (above k e) (below l f) = absurd (omega arith)
same (below k e) (above l f) = absurd (omega arith)
same (below k e) (below l f) = ap negsuc (omega arith)

-- Two pairs with the same difference stand for the same integer.
shift : {a b p n : ℕ} {z : ℤ} → a + n ≡ p + b → IsDiff a b z → IsDiff p n z
shift h (above k e) = above k (omega arith)
shift h (below k e) = below k (omega arith)

-- An integer is the difference of its two parts.
diff_parts : (z : ℤ) → IsDiff (pos_part z) (neg_part z) z
diff_parts (pos n) = above n (omega arith)
diff_parts (negsuc n) = below n (omega arith)

-- A natural is its difference from zero.
diff_pos : (k : ℕ) → IsDiff k 0 (pos k)
diff_pos k = above k (omega arith)

-- The negative of p − n is n − p.
diff_neg : {p n : ℕ} {x : ℤ} → IsDiff p n x → IsDiff n p (neg_ℤ x)
diff_neg (above zero e) = above zero (omega arith)
diff_neg (above (suc k) e) = below k (omega arith)
diff_neg (below k e) = above (suc k) (omega arith)

-- Differences are added part by part.
diff-+ : {p n q m : ℕ} {x y : ℤ} → IsDiff p n x → IsDiff q m y → IsDiff (p + q) (n + m) (x +ℤ y)
diff-+ (above k e) (above l f) = above (k + l) (omega arith)
diff-+ (above k e) (below l f) = shift (omega arith) (diff k (suc l))
diff-+ (below k e) (above l f) = shift (omega arith) (diff l (suc k))
diff-+ (below k e) (below l f) = below (suc (k + l)) (omega arith)

-- Differences are multiplied crosswise.
diff-* : {p n q m : ℕ} {x y : ℤ} → IsDiff p n x → IsDiff q m y → IsDiff (p * q + n * m) (p * m + n * q) (x *ℤ y)
diff-* {p} {n} {q} {m} (above k e) (above l f) = above (k * l) (rw (e, f) (omega arith))
diff-* {p} {n} {q} {m} (above k e) (below l f) = shift (rw (e, f) (omega arith)) (diff_neg (diff_pos (k * suc l)))
diff-* {p} {n} {q} {m} (below k e) (above l f) = shift (rw (e, f) (omega arith)) (diff_neg (diff_pos (suc k * l)))
diff-* {p} {n} {q} {m} (below k e) (below l f) = above (suc k * suc l) (rw (e, f) (omega arith))

-- Two differences are tested for ≤ by their crosswise sums.
diff_le_z : {p n q m : ℕ} {x y : ℤ} → IsDiff p n x → IsDiff q m y → le_z x y ≡ leb (p + m) (q + n)
diff_le_z {p} {n} {q} {m} (above k e) (above l f) = at_most_agrees k l (p + m) (q + n) (omega arith) (omega arith)
diff_le_z {p} {n} {q} {m} (above k e) (below l f) = sym (lt-leb (p + m) (q + n) (omega arith))
diff_le_z {p} {n} {q} {m} (below k e) (above l f) = sym (le-leb (p + m) (q + n) (omega arith))
diff_le_z {p} {n} {q} {m} (below k e) (below l f) = at_most_agrees l k (p + m) (q + n) (omega arith) (omega arith)

-- Two differences are tested for < by their crosswise sums.
diff_lt_z : {p n q m : ℕ} {x y : ℤ} → IsDiff p n x → IsDiff q m y → lt_z x y ≡ ltb (p + m) (q + n)
diff_lt_z {p} {n} {q} {m} (above k e) (above l f) = at_most_agrees (suc k) l (suc (p + m)) (q + n) (omega arith) (omega arith)
diff_lt_z {p} {n} {q} {m} (above k e) (below l f) = sym (lt-leb (suc (p + m)) (q + n) (omega arith))
diff_lt_z {p} {n} {q} {m} (below k e) (above l f) = sym (le-leb (suc (p + m)) (q + n) (omega arith))
diff_lt_z {p} {n} {q} {m} (below k e) (below l f) = at_most_agrees (suc l) k (suc (p + m)) (q + n) (omega arith) (omega arith)

-- Two pairs of one integer have equal crosswise sums.
diff-≡ : {p n q m : ℕ} {x : ℤ} → IsDiff p n x → IsDiff q m x → p + m ≡ q + n
diff-≡ (above k e) (above l f) = omega arith
diff-≡ (below k e) (below l f) = omega arith

-- The magnitude of p − n is at most M where p and n differ by at most M.
diff_within : {M p n : ℕ} {x : ℤ} → IsDiff p n x → (nat_abs x ≤ M) ↔ ((p ≤ n + M) × (n ≤ p + M))
diff_within (above k e) = omega arith
diff_within (below k e) = omega arith

-- Each integer is a difference.
pub val_of : (z : ℤ) → z ≡ val (pos_part z) (neg_part z)
unfolding val
val_of z = same (diff_parts z) (diff (pos_part z) (neg_part z))

-- A natural, as a difference.
pub val_pos : (k : ℕ) → pos k ≡ val k 0
unfolding val
val_pos k = same (diff_pos k) (diff k 0)

-- A negative number, as a difference.
pub val_negsuc : (k : ℕ) → negsuc k ≡ val 0 (suc k)
unfolding val
val_negsuc k = same (below k (omega arith)) (diff 0 (suc k))

-- The negative of a natural, as a difference: `neg_ℤ (pos k)` is stuck on k, and shows no `pos k` to rewrite.
pub val_negpos : (k : ℕ) → neg_ℤ (pos k) ≡ val 0 k
unfolding val
val_negpos k = same (diff_neg (diff_pos k)) (diff 0 k)

-- The negative of a difference.
pub val_neg : (p n : ℕ) → neg_ℤ (val p n) ≡ val n p
unfolding val
val_neg p n = same (diff_neg (diff p n)) (diff n p)

module _ (p n q m : ℕ) where
  -- The sum of two differences.
  pub val-+ : val p n +ℤ val q m ≡ val (p + q) (n + m)
  unfolding val
  val-+ = same (diff-+ (diff p n) (diff q m)) (diff (p + q) (n + m))

  -- The product of two differences.
  pub val-* : val p n *ℤ val q m ≡ val (p * q + n * m) (p * m + n * q)
  unfolding val
  val-* = same (diff-* (diff p n) (diff q m)) (diff (p * q + n * m) (p * m + n * q))

  -- Two differences are equal where the crosswise sums are.
  pub val-≡ : (val p n ≡ val q m) ↔ (p + m ≡ q + n)
  unfolding val
  val-≡ = (λ h. diff-≡ (diff p n) (subst (IsDiff q m) (sym h) (diff q m)), λ h. same (shift h (diff p n)) (diff q m))

  -- The test of ≤ on differences is the test on the crosswise sums.
  pub val_le_z : le_z (val p n) (val q m) ≡ leb (p + m) (q + n)
  unfolding val
  val_le_z = diff_le_z (diff p n) (diff q m)

  -- The test of < on differences is the test on the crosswise sums.
  pub val_lt_z : lt_z (val p n) (val q m) ≡ ltb (p + m) (q + n)
  unfolding val
  val_lt_z = diff_lt_z (diff p n) (diff q m)

  -- The order ≤ of differences is that of the crosswise sums.
  pub val-≤ : (val p n ≤ℤ val q m) ↔ (p + m ≤ q + n)
  val-≤ = (
    λ h. leb→le (p + m) (q + n) (subst T val_le_z h.le),
    λ h. record { le = subst T (sym val_le_z) (le→leb (p + m) (q + n) h) },
  )

  -- The order < of differences is that of the crosswise sums.
  pub val-< : (val p n <ℤ val q m) ↔ (p + m < q + n)
  val-< = (
    λ h. ltb→lt (p + m) (q + n) (subst T val_lt_z h.lt),
    λ h. record { lt = subst T (sym val_lt_z) (lt→ltb (p + m) (q + n) h) },
  )

-- A difference has magnitude at most M where its two naturals differ by at most M.
pub val_within : (M p n : ℕ) → Within M (val p n) ↔ ((p ≤ n + M) × (n ≤ p + M))
unfolding val
val_within M p n = (λ h. (diff_within (diff p n)).0 h.size, λ h. record { size = (diff_within (diff p n)).1 h })

-- The rules by which `simp` turns a statement on differences into one on naturals.
pub ruleset zval =
    (val_pos, val_negsuc, val_negpos, val_neg, val-+, val-*, val-≡, val_le_z, val_lt_z, val-≤, val-<, val_within)
