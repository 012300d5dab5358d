-- The chosen count is accepted and no smaller one is, so it is the smallest; and it is at most three times the largest gap, or
-- 1 if all points agree.
use mathlib.Core.Path.{◌≡◌, refl, sym, ◌∙◌, subst}
use mathlib.Core.Logic.{⊎_elim}
use mathlib.Core.Bool.{Bool, true, false, cond, true≢false}
use mathlib.Core.List.{List}
use Prim.Native.Nat.{ℕ, zero, suc, ◌+◌, ◌*◌, ◌≤◌, ◌<◌}
use native.Mathlib.Omega.{arith}
use lib.Dec.{leb, ltb}
use lib.ListN.{length, get_or-eq_default}
use Rattle.decide.proofs.Truth.{decided, at_most, not_at_most, less, not_less}
use Rattle.cube.specs.Cube.{Axis}
use Rattle.drawing.specs.declared.Choice.{Choice}
use Rattle.drawing.specs.declared.Choice.TheVariants.{Over}
use Rattle.drawing.specs.Object.{curve, offset, coordinate, exact}
use Rattle.drawing.specs.Refusals.{steps_too_long}
use Rattle.gaps.specs.Gaps.{gap, gap_after, largest_gap, ends_apart}
use Rattle.gaps.proofs.Largest.{some_as_large}
use Rattle.gaps.proofs.Quits.{quits_where, quits_short}
use Rattle.gaps.proofs.Ends.{ends_refused}
use Rattle.scan.specs.Column.{Below64}
use Rattle.chosen.specs.Chosen.{refuses_count, first_accepted, chosen}
use Rattle.chosen.specs.Search.{enough}

module _ (points : List ℕ) where
  -- Mark and choice do not matter to the curve rule.
  pub by_curve : (n mark : ℕ) (choice : Choice) → refuses_count points n ≡ steps_too_long (curve n points mark choice)
  unfolding refuses_count steps_too_long exact
  by_curve n mark choice = refl

  -- One try: the count is accepted, or refused and passed over.
  try : (tries n : ℕ) (P : ℕ → Type 0) → (refuses_count points n ≡ true → P (first_accepted points tries (suc n))) →
      (refuses_count points n ≡ false → P n) → P (first_accepted points (suc tries) n)
  unfolding first_accepted
  try tries n P later here = by_test (refuses_count points n) later here
    where
      by_test : (b : Bool) → (b ≡ true → P (first_accepted points tries (suc n))) → (b ≡ false → P n) →
          P (cond b (first_accepted points tries (suc n)) n)
      by_test true later here = later refl
      by_test false later here = here refl

  -- A count from n on is n, or comes later.
  first_or_later : {n m : ℕ} → n ≤ m → (P : Type 0) → (n ≡ m → P) → (suc n ≤ m → P) → P
  first_or_later {n} {m} l P here later =
      ⊎_elim (λ t. later ((less n m).0 t)) (λ f. here (omega (arith, l, not_less n m f))) (decided (ltb n m))

  -- A count that is accepted is not passed over.
  finds : (tries n m : ℕ) → n ≤ m → m ≤ n + tries → refuses_count points m ≡ false →
      refuses_count points (first_accepted points tries n) ≡ false
  unfolding first_accepted
  finds zero n m l h e = subst (λ k. refuses_count points k ≡ false) (omega arith) e
  finds (suc tries) n m l h e =
      try tries n (λ k. refuses_count points k ≡ false)
      (λ r. first_or_later l _
      (λ s. absurd (true≢false (sym r ∙ subst (λ k. refuses_count points k ≡ false) (sym s) e)))
      (λ g. finds tries (suc n) m g (omega arith) e))
      (λ r. r)

  -- A count that is passed over is refused.
  passed_over : (tries n m : ℕ) → n ≤ m → m < first_accepted points tries n → refuses_count points m ≡ true
  unfolding first_accepted
  passed_over zero n m l h = absurd (omega arith)
  passed_over (suc tries) n m l h =
      try tries n (λ k. m < k → refuses_count points m ≡ true)
      (λ r below. first_or_later l _
      (λ s. subst (λ k. refuses_count points k ≡ true) s r)
      (λ g. passed_over tries (suc n) m g below))
      (λ r below. absurd (omega arith)) h

  from_first : (tries n : ℕ) → n ≤ first_accepted points tries n
  unfolding first_accepted
  from_first zero n = omega arith
  from_first (suc tries) n =
      try tries n (λ k. n ≤ k) (λ r. omega (arith, from_first tries (suc n))) (λ r. omega arith)

  -- Three times the largest gap is accepted, and 1 where that is 0.
  pub enough_accepted : refuses_count points (enough points) ≡ false
  unfolding refuses_count
  enough_accepted = quits_short points (enough points) 0 Over ((quits_where points (enough points)).1 (omega arith))

  -- The chosen count is one that is accepted, from 1 on,
  pub from_1 : 1 ≤ chosen points
  unfolding chosen
  from_1 = from_first (3 * largest_gap points) 1

  pub is_accepted : refuses_count points (chosen points) ≡ false
  unfolding chosen
  is_accepted =
      finds (3 * largest_gap points) 1 (enough points) (omega arith) (omega arith) enough_accepted

  -- and no smaller one is.
  pub none_smaller : (n : ℕ) → 1 ≤ n → n < chosen points → refuses_count points n ≡ true
  unfolding chosen
  none_smaller n l h = passed_over (3 * largest_gap points) 1 n l h

  -- There is one such count.
  pub smallest_is : (n : ℕ) → 1 ≤ n → refuses_count points n ≡ false →
      ((m : ℕ) → 1 ≤ m → m < n → refuses_count points m ≡ true) → n ≡ chosen points
  smallest_is n l e below =
      ⊎_elim (λ t. absurd (true≢false (sym (none_smaller n l ((less n (chosen points)).0 t)) ∙ e)))
      (λ f. ⊎_elim
      (λ t. absurd (true≢false (sym (below (chosen points) from_1 ((less (chosen points) n).0 t)) ∙ is_accepted)))
      (λ g. omega (arith, not_less n (chosen points) f, not_less (chosen points) n g))
      (decided (ltb (chosen points) n)))
      (decided (ltb n (chosen points)))

  -- It is at most what is always enough.
  pub at_most_enough : chosen points ≤ enough points
  at_most_enough =
      ⊎_elim (λ t. (at_most (chosen points) (enough points)).0 t)
      (λ f. absurd (true≢false
      (sym (none_smaller (enough points) (omega arith) (not_at_most (chosen points) (enough points) f)) ∙ enough_accepted)))
      (decided (leb (chosen points) (enough points)))

  -- Counts below the distance from the first point to the last are refused, so that it is at most what is enough.
  pub below_ends : (n : ℕ) → 1 ≤ n → n < ends_apart points → refuses_count points n ≡ true
  unfolding refuses_count
  below_ends n l h = ends_refused points n 0 Over l h

  pub ends_enough : ends_apart points ≤ enough points
  ends_enough =
      ⊎_elim (λ t. (at_most (ends_apart points) (enough points)).0 t)
      (λ f. absurd (true≢false
      (sym (below_ends (enough points) (omega arith) (not_at_most (ends_apart points) (enough points) f)) ∙ enough_accepted)))
      (decided (leb (ends_apart points) (enough points)))

  -- Coordinates up to 63 have gaps up to 63.
  module _ (small : Below64 points) where
    coordinate_small : (a : Axis) (k : ℕ) → coordinate points a k ≤ 63
    unfolding coordinate
    coordinate_small a k =
        ⊎_elim (λ t. small (3 * k + offset a) ((less (3 * k + offset a) (length points)).0 t))
        (λ f. rw (get_or-eq_default points 0 {n = 3 * k + offset a} (not_less (3 * k + offset a) (length points) f)) (omega arith))
        (decided (ltb (3 * k + offset a) (length points)))

    pub enough_189 : enough points ≤ 189
    unfolding gap_after gap
    enough_189 =
        let w = some_as_large points in
        let g = coordinate_small w.0 w.1 in
        let h = coordinate_small w.0 (suc w.1) in
        omega (arith, w.3, g, h)

    pub at_most_189 : chosen points ≤ 189
    at_most_189 = omega (arith, at_most_enough, enough_189)
