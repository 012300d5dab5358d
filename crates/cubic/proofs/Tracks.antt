-- The machine follows the values: what an axis tracks it still tracks after equation 8 and after the decision, so after a
-- step. From the cell that owns a value, the decision ends in the cell that owns the next, at most one cell from it.
use mathlib.Core.Path.{◌≡◌, refl, sym, ◌∙◌, ap, ap₂}
use mathlib.Core.Logic.{◌↔◌}
use mathlib.Core.Bool.{Bool, true, false, cond}
use Prim.Native.Nat.{ℕ, zero, suc, ◌+◌, ◌*◌, ◌≤◌, ◌<◌, zero-le}
use native.Mathlib.Omega.{arith}
use lib.IntN.{ℤ, pos, ◌+ℤ◌, ◌-ℤ◌, ◌*ℤ◌, +ℤ_idl}
use lib.Signed.{lt_z, le_z, ◌<ℤ◌, ◌≤ℤ◌}
use Rattle.integers.specs.Magnitude.{Within}
use Rattle.integers.proofs.Difference.{val_of, zval}
use Rattle.integers.proofs.Test.{lt_z_true, lt_z_false, le_z_true, le_z_false}
use Rattle.rounding.specs.Nearest.{Owns, AtMostOneApart}
use Rattle.rounding.proofs.Owns.{owns_unique, move_up, move_down}
use Rattle.cubic.specs.declared.axis.Axis.{Axis}
use Rattle.cubic.specs.Differences.{Cubic, delta, differences_at, next_of, IsCubic}
use Rattle.cubic.specs.Axis.{with_value, start_of, row_of, settle_of, step_of}
use Rattle.cubic.specs.Tracks.{Doubles, Tracks, Remainder}
use Rattle.cubic.proofs.Next.{delta_next, third_same}

-- Linear facts of a remainder x with x + A = B.
module _ (x : ℤ) (s A B : ℕ) where
  above : pos s <ℤ x → x +ℤ pos A ≡ pos B → A + s < B
  above = rw (val_of x) (simp zval (omega arith))

  below : x ≤ℤ (pos 0 -ℤ pos s) → x +ℤ pos A ≡ pos B → B + s ≤ A
  below = rw (val_of x) (simp zval (omega arith))

  between : x +ℤ pos A ≡ pos B → (((pos 0 -ℤ pos s) <ℤ x) × (x ≤ℤ pos s)) ↔ ((A < B + s) × (B ≤ A + s))
  between = rw (val_of x) (simp zval (omega arith))

-- One cell up and one cell down.
module _ (h x : ℤ) (s c : ℕ) where
  up_place : h *ℤ pos c +ℤ h ≡ h *ℤ pos (suc c)
  up_place = rw (val_of h) (simp zval (omega arith))

  down_place : h *ℤ pos (suc c) -ℤ h ≡ h *ℤ pos c
  down_place = rw (val_of h) (simp zval (omega arith))

  up_remainder : (x -ℤ (pos s +ℤ pos s)) +ℤ pos (2 * (s * suc c)) ≡ x +ℤ pos (2 * (s * c))
  up_remainder = rw (val_of x) (simp zval (omega arith))

  down_remainder : (x +ℤ (pos s +ℤ pos s)) +ℤ pos (2 * (s * c)) ≡ x +ℤ pos (2 * (s * suc c))
  down_remainder = rw (val_of x) (simp zval (omega arith))

-- The next value beside the same coordinate.
next_remainder : (x d a : ℤ) → (x +ℤ d) +ℤ a ≡ (x +ℤ a) +ℤ d
next_remainder x d a = rw (val_of x, val_of d, val_of a) (simp zval (omega arith))

-- A start in the cell of point 0, which is sample 0.
pub start_tracks : {n s : ℕ} {h : ℤ} {f : ℕ → ℕ} {P : ℕ → ℤ} {c : Cubic} (p : ℕ) → Doubles n f P → f 0 ≡ s * p →
    c ≡ differences_at P 0 → Tracks s h P 0 p (start_of h (pos p) c)
unfolding start_of differences_at
start_tracks {s} p d e q = record {
  place = refl;
  remainder = +ℤ_idl (pos (2 * (s * p))) ∙ ap (λ v. pos (2 * v)) (sym e) ∙ sym (d.agrees 0 zero-le);
  first = ap (λ c. c.d1) q;
  second = ap (λ c. c.d2) q;
  third = ap (λ c. c.d3) q;
}

-- A row of the values P, from the walk along u through its first column, at row j: coordinate and remainder are the walk's,
-- and the three cubics beside it have the differences along t.
pub row_tracks : {s p : ℕ} {h : ℤ} {a : Axis} (b c d : Cubic) (P : (i j : ℕ) → ℤ) (j : ℕ) → Tracks s h (P 0) j p a →
    b.value ≡ delta 1 (λ i. P i j) 0 → c.value ≡ delta 2 (λ i. P i j) 0 → d.value ≡ delta 3 (λ i. P i j) 0 →
    Tracks s h (λ i. P i j) 0 p (row_of a b c d)
row_tracks b c d P j t e1 e2 e3 =
    record { place = t.place; remainder = t.remainder; first = e1; second = e2; third = e3 }

module _ {s : ℕ} {h : ℤ} {P : ℕ → ℤ} {i c : ℕ} {a : Axis} (t : Tracks s h P i c a) where
  -- The next value and differences, with the coordinate as it was.
  next_tracks : IsCubic P → Tracks s h P (suc i) c (record { at = a.at; cubic = next_of a.cubic })
  unfolding next_of delta
  next_tracks q = record {
    place = t.place;
    remainder =
        next_remainder a.cubic.value a.cubic.d1 (pos (2 * (s * c))) ∙
        ap₂ (λ x y. x +ℤ y) t.remainder t.first ∙
        delta_next P i 0;
    first = ap₂ (λ x y. x +ℤ y) t.first t.second ∙ delta_next P i 1;
    second = ap₂ (λ x y. x +ℤ y) t.second t.third ∙ delta_next P i 2;
    third = t.third ∙ third_same P i q;
  }

  -- The remainder lies above -N, up to N, exactly where the coordinate owns the value.
  pub remainder_owns : (v : ℕ) → P i ≡ pos (2 * v) → Remainder s a.cubic.value ↔ Owns s c v
  remainder_owns v e =
      let b = between a.cubic.value s (2 * (s * c)) (2 * v) (t.remainder ∙ e) in (
        λ r. let w = b.0 (r.above, r.up_to) in record { above = w.0; up_to = w.1 },
        λ o. let w = b.1 (o.above, o.up_to) in record { above = w.0; up_to = w.1 },
      )

  -- From the cell that owns v, the decision on a value w at most one cell from v ends in the cell that owns w.
  pub settle_tracks : {v w d : ℕ} → Owns s c v → AtMostOneApart s v w → Owns s d w → P i ≡ pos (2 * w) →
      Tracks s h P i d (settle_of (pos s) h a)
  unfolding settle_of
  settle_tracks {v} {w} {d} from near to e = by_tests (lt_z (pos s) x) (le_z x (pos 0 -ℤ pos s)) refl refl
    where
      x : ℤ
      x = a.cubic.value

      sum : x +ℤ pos (2 * (s * c)) ≡ pos (2 * w)
      sum = t.remainder ∙ e

      down : (c : ℕ) → Tracks s h P i c a → Owns s c v → 2 * w + s ≤ 2 * (s * c) →
          Tracks s h P i d (record { at = a.at -ℤ h; cubic = with_value (x +ℤ (pos s +ℤ pos s)) a.cubic })
      down zero u o l = let low = o.above in let near_down = near.down in absurd (omega arith)
      down (suc k) u o l =
          rw (owns_unique to (move_down o near l))
          (record {
            place = ap (λ z. z -ℤ h) u.place ∙ down_place h x s k;
            remainder = down_remainder h x s k ∙ u.remainder;
            first = u.first;
            second = u.second;
            third = u.third;
          })

      by_tests : (p q : Bool) → lt_z (pos s) x ≡ p → le_z x (pos 0 -ℤ pos s) ≡ q →
          Tracks s h P i d
          (cond p (record { at = a.at +ℤ h; cubic = with_value (x -ℤ (pos s +ℤ pos s)) a.cubic })
          (cond q (record { at = a.at -ℤ h; cubic = with_value (x +ℤ (pos s +ℤ pos s)) a.cubic }) a))
      by_tests true q f g =
          rw (owns_unique to (move_up from near (above x s (2 * (s * c)) (2 * w) (lt_z_true f) sum)))
          (record {
            place = ap (λ z. z +ℤ h) t.place ∙ up_place h x s c;
            remainder = up_remainder h x s c ∙ t.remainder;
            first = t.first;
            second = t.second;
            third = t.third;
          })
      by_tests false true f g = down c t from (below x s (2 * (s * c)) (2 * w) (le_z_true g) sum)
      by_tests false false f g =
          rw (owns_unique to ((remainder_owns w e).0 (record { above = le_z_false g; up_to = lt_z_false f }))) t

-- Such a remainder is within N.
size : (s : ℕ) (x : ℤ) → (pos 0 -ℤ pos s) <ℤ x → x ≤ℤ pos s → Within s x
size s x = rw (val_of x) (simp zval (omega arith))

pub remainder_within : {s : ℕ} {x : ℤ} → Remainder s x → Within s x
remainder_within {s} {x} r = size s x r.above r.up_to

-- A step to the next value, at most one cell from the last.
module _ {n s c d : ℕ} {h : ℤ} {f : ℕ → ℕ} {P : ℕ → ℤ} (q : Doubles n f P) {i : ℕ} (l : i < n) {a : Axis}
    (from : Owns s c (f i)) (near : AtMostOneApart s (f i) (f (suc i))) (to : Owns s d (f (suc i))) (t : Tracks s h P i c a) where
  -- From the cell that owns the last value it leads to the cell that owns the next.
  pub step_tracks : Tracks s h P (suc i) d (step_of (pos s) h a)
  unfolding step_of
  step_tracks = settle_tracks (next_tracks t q.cubic) from near to (q.agrees (suc i) l)

  -- The remainder is then above -N, up to N: it is never -N.
  pub step_remainder : Remainder s (step_of (pos s) h a).cubic.value
  step_remainder = (remainder_owns step_tracks (f (suc i)) (q.agrees (suc i) l)).1 to
