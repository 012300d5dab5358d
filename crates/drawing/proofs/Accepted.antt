-- What acceptance says in words, both ways: each test of the order is turned into its inequality or into "no long
-- step".
use mathlib.Core.Path.{◌≡◌, refl}
use mathlib.Core.Logic.{◌↔◌, ⊎_elim}
use mathlib.Core.Bool.{Bool, true, false, not, true≢false}
use mathlib.Core.List.{List}
use Prim.Native.Nat.{ℕ, ◌*◌, ◌≤◌, ◌<◌}
use native.Mathlib.Omega.{arith}
use lib.Dec.{T, T_not, not_T, ltb, eqb}
use lib.ListN.{length, get_or}
use Rattle.decide.specs.Some.{some_of}
use Rattle.decide.specs.Refusal.{accepted, first_that}
use Rattle.decide.proofs.Truth.{neither, not_less, less, equal, true_of, false_of, false_iff, decided}
use Rattle.decide.proofs.Some.{some_of_lem}
use Rattle.decide.proofs.FirstThat.{NoneApplies, accepted_none}
use Rattle.neighbours.specs.Steps.{too_long, LongStep}
use Rattle.neighbours.proofs.Long.{too_long_lem}
use Rattle.cube.specs.Cube.{Axis, volume}
use Rattle.drawing.specs.Object.{Object, scale_of, exact}
use Rattle.drawing.specs.Refusals.{count_out, coordinate_out, steps_too_long, order, draw_verdict, list_verdict, check_verdict}
use Rattle.drawing.specs.Refusals.{sample_count, Drawable}
use Rattle.cube.proofs.Words.{side_in_lem, some_axis_lem}

-- 13 does not apply to a count.
pub count_in : (most n : ℕ) → (¬ T (count_out most n)) ↔ ((1 ≤ n) × (n ≤ most))
unfolding count_out
count_in most n = (
  λ f. let p = (neither (eqb n 0) (ltb most n)).0 f in
      let z : ¬ (n ≡ 0) = λ e. p.0 ((equal n 0).1 e) in
      (omega arith, not_less most n p.1),
  λ h. (neither (eqb n 0) (ltb most n)).1
      (λ t. omega (arith, (equal n 0).0 t, h.0), λ t. omega (arith, (less most n).0 t, h.1)),
)

-- 14 does not apply to a coordinate.
pub coordinate_in : (S c : ℕ) → (¬ T (coordinate_out S c)) ↔ (c < S)
unfolding coordinate_out
coordinate_in S c = (
  λ f. ⊎_elim (λ t. (less c S).0 t) (λ u. absurd (f (not_T (ltb c S) u))) (decided (ltb c S)),
  λ h t. T_not (ltb c S) t ((less c S).1 h),
)

-- 15 applies: some axis has a long step.
pub steps_too_long_lem : (o : Object) → T (steps_too_long o) ↔ ((a : Axis) × LongStep (scale_of o) o.counts (exact o a))
unfolding steps_too_long
steps_too_long_lem o = (
  λ t. let w = (some_axis_lem (λ a. too_long (scale_of o) o.counts (exact o a))).0 t in
      (w.0, (too_long_lem (scale_of o) o.counts (exact o w.0)).0 w.1),
  λ w. (some_axis_lem (λ a. too_long (scale_of o) o.counts (exact o a))).1
      (w.0, (too_long_lem (scale_of o) o.counts (exact o w.0)).1 w.1),
)

module _ (p : ℕ → Bool) (l : List ℕ) where
  -- No element of the list passes.
  none_of : (some_of p l ≡ false) ↔ ((k : ℕ) → k < length l → ¬ T (p (get_or l k 0)))
  none_of = (
    λ e k h t. (false_iff (some_of p l)).0 e ((some_of_lem p l).1 (k, h, t)),
    λ g. false_of (some_of p l) (λ t. let w = (some_of_lem p l).0 t in g w.0 w.1 w.2),
  )

-- 13, 21 and 12 do not apply, in words.
pub counts_in : (most : ℕ) (counts : List ℕ) →
    (some_of (count_out most) counts ≡ false) ↔
    (((k : ℕ) → k < length counts → 1 ≤ get_or counts k 0) × ((k : ℕ) → k < length counts → get_or counts k 0 ≤ most))
counts_in most counts =
    let none = none_of (count_out most) counts in (
      λ e. (λ k h. ((count_in most _).0 (none.0 e k h)).0, λ k h. ((count_in most _).0 (none.0 e k h)).1),
      λ w. none.1 (λ k h. (count_in most _).1 (w.0 k h, w.1 k h)),
    )

pub cube_length : (S len : ℕ) → (not (eqb len (volume S)) ≡ false) ↔ (len ≡ volume S)
cube_length S len = (
  λ e. (equal len (volume S)).0 (not-false (eqb len (volume S)) e),
  λ e. rw (true_of (eqb len (volume S)) ((equal len (volume S)).1 e)),
)
  where
    not-false : (b : Bool) → not b ≡ false → T b
    not-false true e = tt
    not-false false e = absurd (true≢false e)

pub not_0 : (mark : ℕ) → (eqb mark 0 ≡ false) ↔ (1 ≤ mark)
not_0 mark = (
  λ e. let z : ¬ (mark ≡ 0) = λ q. (false_iff (eqb mark 0)).0 e ((equal mark 0).1 q) in omega arith,
  λ h. false_of (eqb mark 0) (λ t. omega (arith, (equal mark 0).0 t, h)),
)

module _ (S : ℕ) (o : Object) where
  drawable_of : (g m l : Bool) → NoneApplies (order S o g m l) → Drawable S o
  unfolding order
  drawable_of g m l n =
      let side = (side_in_lem S).0 ((false_iff _).0 n.0) in
      let counts = (counts_in o.most o.counts).0 n.1.1.1.0 in
      let points = (none_of (coordinate_out S) o.points).0 n.1.1.1.1.1.0 in
      let steps = (false_iff (steps_too_long o)).0 n.1.1.1.1.1.1.0 in
      record {
        side_least = side.0;
        side_most = side.1;
        count_least = counts.0;
        count_most = counts.1;
        coordinate_below = λ k h. (coordinate_in S (get_or o.points k 0)).0 (points k h);
        steps_short = λ a l. steps ((steps_too_long_lem o).1 (a, l));
      }

  none_applies : (g m l : Bool) → Drawable S o → g ≡ false → m ≡ false → l ≡ false → NoneApplies (order S o g m l)
  unfolding order
  none_applies g m l d eg em el =
      let side = (side_in_lem S).1 (d.side_least, d.side_most) in
      let counts = (counts_in o.most o.counts).1 (d.count_least, d.count_most) in
      let points = (none_of (coordinate_out S) o.points).1
      (λ k h. (coordinate_in S (get_or o.points k 0)).1 (d.coordinate_below k h)) in
      let steps : ¬ T (steps_too_long o) = λ t. let w = (steps_too_long_lem o).0 t in d.steps_short w.0 w.1 in
      (false_of _ side, (eg, (em, (counts, (el, (points, (false_of _ steps, tt)))))))

  -- An order answers no number exactly where the object is drawable and none of the call's own tests applies.
  pub order_accepted : (g m l : Bool) →
      (first_that (order S o g m l) ≡ accepted) ↔ (Drawable S o × (g ≡ false) × (m ≡ false) × (l ≡ false))
  unfolding order
  order_accepted g m l = (
    λ e. let n = (accepted_none (order S o g m l)).0 e in
        (drawable_of g m l n, n.1.0, n.1.1.0, n.1.1.1.1.0),
    λ w. (accepted_none (order S o g m l)).1 (none_applies g m l w.0 w.1 w.2 w.3),
  )

  -- A drawing is accepted exactly where the object is drawable, the grid has S × S × S bytes and the mark is not 0.
  pub draw_accepted : (len : ℕ) →
      (draw_verdict S len o ≡ accepted) ↔ (Drawable S o × (len ≡ volume S) × (1 ≤ o.mark))
  unfolding draw_verdict
  draw_accepted len =
      let by = order_accepted (not (eqb len (volume S))) (eqb o.mark 0) false in (
        λ e. let w = by.0 e in (w.0, (cube_length S len).0 w.1, (not_0 o.mark).0 w.2),
        λ w. by.1 (w.0, (cube_length S len).1 w.1, (not_0 o.mark).1 w.2, refl),
      )

  -- A listing is accepted exactly where the object is drawable and the list has room for its cells.
  pub list_accepted : (len : ℕ) →
      (list_verdict S len o ≡ accepted) ↔ (Drawable S o × (3 * sample_count o.counts ≤ len))
  unfolding list_verdict
  list_accepted len =
      let room : ℕ = 3 * sample_count o.counts in (
        λ e. let w = (order_accepted false false (ltb len room)).0 e in
            (w.0, not_less len room ((false_iff (ltb len room)).0 w.3)),
        λ w. (order_accepted false false (ltb len room)).1
            (w.0, refl, refl, false_of (ltb len room) (λ t. omega (arith, (less len room).0 t, w.1))),
      )

  -- A check is accepted exactly where the object is drawable.
  pub check_accepted : (check_verdict S o ≡ accepted) ↔ Drawable S o
  unfolding check_verdict
  check_accepted = (
    λ e. ((order_accepted false false false).0 e).0,
    λ d. (order_accepted false false false).1 (d, refl, refl, refl),
  )
