-- `moves` meets its contract: both numbers are shifted by as much, so that they have no sign, and their difference wraps exactly
-- where the remainder lies below the lowest that stays.
use Rattle.std.proofs.Common.{◌≡◌, ℕ, ◌+◌, ◌-◌, ◌%◌, ◌^◌, ◌<◌, ◌≤◌, ◌||◌, ltb, leb, ℤ, pos, ◌+ℤ◌, ◌-ℤ◌, sym, ap, ◌∙◌, subst, ⊎_elim, arith, lit<, rules}
use lib.Signed.{lt_z, le_z}
use Rattle.integers.specs.Magnitude.{Within}
use Rattle.integers.proofs.Difference.{val, pos_part, neg_part, val_of, val_within, zval}
use Rattle.integers.proofs.Natural.{pos_sub}
use Rattle.decide.proofs.Truth.{decided, same_test, less, not_less, at_most, true_of, false_of}
use Rattle.cubic.specs.declared.axis.Axis.{Axis}
use Rattle.cubic.specs.Differences.{Cubic, next_of}
use Rattle.cubic.proofs.Fits.{Holds, read, add, add_fits, sub, sub_fits, literal}
use Rattle.scan.proofs.Natural.{natural_held}
use Rattle.path.specs.Step.{moves_next, Moving}
use Rattle.path.proofs.Held.{next_held}
use Rattle.path.proofs.step.moves.Goals as goal

-- Where 0 stands.
abbrev zero : ℕ
zero = 2 ^ 61

-- A remainder, shifted.
shift : (p n : ℕ) → n ≤ p + zero → val p n +ℤ pos zero ≡ pos (p + zero - n)
shift p n h = simp zval (omega (arith, h))

shifted : (v : ℤ) → Within zero v → (k : ℕ) × (v +ℤ pos zero ≡ pos k) × (k ≤ 2 ^ 62)
shifted v w =
    let p : ℕ = pos_part v in
    let n : ℕ = neg_part v in
    let b = (val_within zero p n).0 (subst (Within zero) (val_of v) w) in
    (p + zero - n, ap (◌+ℤ pos zero) (val_of v) ∙ shift p n b.1, omega (arith, b.0, b.1))

-- The decision's tests of the shifted remainder.
above : (v : ℤ) (n k : ℕ) → v +ℤ pos zero ≡ pos k → lt_z (pos n) v ≡ ltb (n + zero) k
above v n k =
    rw (val_of v) (simp zval (λ e. same_test _ (ltb (n + zero) k)
    (λ t. (less (n + zero) k).1 (omega (arith, e, (less (n + neg_part v) (pos_part v + 0)).0 t)))
    (λ t. (less (n + neg_part v) (pos_part v + 0)).1 (omega (arith, e, (less (n + zero) k).0 t)))))

below : (v : ℤ) (n k : ℕ) → v +ℤ pos zero ≡ pos k → le_z v (pos 0 -ℤ pos n) ≡ leb (k + n) zero
below v n k =
    rw (val_of v) (simp zval (λ e. same_test _ (leb (k + n) zero)
    (λ t. (at_most (k + n) zero).1 (omega (arith, e, (at_most (pos_part v + (0 + n)) (0 + 0 + neg_part v)).0 t)))
    (λ t. (at_most (pos_part v + (0 + n)) (0 + 0 + neg_part v)).1 (omega (arith, e, (at_most (k + n) zero).0 t)))))

-- The one test.
one_test : (n k r : ℕ) → n ≤ 2 ^ 60 → k ≤ 2 ^ 62 → r < 2 ^ 64 → (r + (zero + 1 - n)) % 2 ^ 64 ≡ k →
    leb (n + n) r ≡ (ltb (n + zero) k || leb (k + n) zero)
one_test n k r small most fits e =
    ⊎_elim
    (λ t. let a = (less (n + zero) k).0 t in
    rw (true_of (ltb (n + zero) k) t) (true_of (leb (n + n) r) ((at_most (n + n) r).1 (omega (arith, e, small, most, fits, a)))))
    (λ f. let a = not_less (n + zero) k f in
    rw (false_of (ltb (n + zero) k) f)
    (same_test (leb (n + n) r) (leb (k + n) zero)
    (λ t. (at_most (k + n) zero).1 (omega (arith, e, small, most, fits, a, (at_most (n + n) r).0 t)))
    (λ t. (at_most (n + n) r).1 (omega (arith, e, small, most, fits, a, (at_most (k + n) zero).0 t)))))
    (decided (ltb (n + zero) k))

-- What the machine holds: the next remainder, and the scale.
module _ {N : ℤ} {a : Axis} (m : Moving N a) where
  scale : Holds (2 ^ 60) (pos m.size) (read N)
  scale = natural_held m.is m.small (lit< tt)

  lowest_is : read (pos (zero + 1) -ℤ read N) ≡ pos (zero + 1 - m.size)
  lowest_is = let small = m.small in (sub (literal (zero + 1)) scale (lit< tt)).same ∙ sym (pos_sub (omega arith))

  two_is : read (read N +ℤ read N) ≡ pos (m.size + m.size)
  two_is = (add scale scale (lit< tt)).same

  module _ {n : Cubic} (e : n ≡ next_of a.cubic) where
    value : Holds (2 ^ 60 + 2 ^ 60) (next_of a.cubic).value (read n.value)
    value = next_held m.cubic e

    place : (k : ℕ) × ((next_of a.cubic).value +ℤ pos zero ≡ pos k) × (k ≤ 2 ^ 62)
    place = shifted (next_of a.cubic).value value.size

    value_is : read (read n.value +ℤ pos zero) ≡ pos place.0
    value_is = (add value (literal zero) (lit< tt)).same ∙ place.1

pub overflow_add-value : goal.overflow_add-value
overflow_add-value c = add_fits (value c.requires c.next-next.ensures) (literal zero) (lit< tt)

pub overflow_cast-value : goal.overflow_cast-value
overflow_cast-value c =
    let p = place c.requires c.next-next.ensures in
    rw (value_is c.requires c.next-next.ensures) (tt, record { fits = omega (arith, p.2) })

pub overflow_sub-lowest : goal.overflow_sub-lowest
overflow_sub-lowest c = sub_fits (literal (zero + 1)) (scale c.requires) (lit< tt)

pub overflow_cast-lowest : goal.overflow_cast-lowest
overflow_cast-lowest c = rw (lowest_is c.requires) (tt, record { fits = omega arith })

pub overflow_add-result : goal.overflow_add-result
overflow_add-result c = add_fits (scale c.requires) (scale c.requires) (lit< tt)

pub overflow_cast-result : goal.overflow_cast-result
overflow_cast-result c = rw (two_is c.requires) (tt, record { fits = omega (arith, c.requires.small) })

pub returns : goal.returns
unfolding moves_next
returns c =
    let m = c.requires in
    let e = c.next-next.ensures in
    let v : ℤ = (next_of c.args.axis.cubic).value in
    let k = place m e in
    let fits : c.wrapping_sub_usize.result < 2 ^ 64 = search rules in
    let wraps = rw (lowest_is m, value_is m e) at c.wrapping_sub_usize.ensures.value in
    rw (two_is m, m.is, above v m.size k.0 k.1, below v m.size k.0 k.1)
    (one_test m.size k.0 c.wrapping_sub_usize.result m.small k.2 fits wraps)
