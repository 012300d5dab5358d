-- Document 02, A.9 holds: laws of the two orders, for objects in any number of parameters.
use mathlib.Core.Path.{◌≡◌, refl, sym, ◌∙◌}
use mathlib.Core.Logic.{◌↔◌, ◌⊎◌, inl, inr, ⊎_elim}
use Prim.Native.Nat.{ℕ, ◌≤◌, ◌<◌}
use native.Mathlib.Omega.{arith}
use lib.Dec.{T}
use lib.ListN.{length}
use Rattle.bezier.specs.Exact.{blend, scale, points, value}
use Rattle.decide.specs.Some.{some_below, some_of}
use Rattle.decide.specs.Refusal.{refused, first_that, right_after}
use Rattle.decide.proofs.Truth.{decided, true_of, false_of, false_iff, less, either}
use Rattle.decide.proofs.Some.{some_of_lem}
use Rattle.neighbours.specs.Steps.{far_apart, some_sample, too_long}
use Rattle.cube.specs.Cube.{some_axis, side_out}
use Rattle.cube.proofs.Words.{side_in_lem}
use Rattle.drawing.specs.Object.{Object, offset, coordinate, exact}
use Rattle.drawing.specs.Refusals.{count_out, coordinate_out, steps_too_long, order, draw_verdict}
use Rattle.drawing.proofs.Accepted.{counts_in, cube_length, not_0}
use Rattle.scan.proofs.Alike.{draw_the_same}
use Rattle.strip.specs.Strip.{side_above, count_above, strip_order, strip_verdict, beyond}
use Rattle.strip.proofs.Orders as orders
use Rattle.claims.specs.Strip.{ManySteps, Refused24, BesideMain, Claim, AtTheLimits}

module _ (S : ℕ) (o : Object) where
  -- The tests of the strip's own rules in words.
  side_above_lem : T (side_above S) ↔ (17 < S)
  unfolding side_above
  side_above_lem = less 17 S

  many_steps : T (some_of count_above o.counts) ↔ ManySteps o
  unfolding count_above
  many_steps =
      let some = some_of_lem count_above o.counts in (
        λ t. let w = some.0 t in record { number = w.0; is_one = w.1; above = (less 64 _).0 w.2 },
        λ m. some.1 (m.number, m.is_one, (less 64 _).1 m.above),
      )

  is_beyond : T (beyond S o) ↔ ((17 < S) ⊎ ManySteps o)
  unfolding beyond
  is_beyond =
      let some = either (side_above S) (some_of count_above o.counts) in (
        λ t. ⊎_elim (λ u. inl (side_above_lem.0 u)) (λ u. inr (many_steps.0 u)) (some.0 t),
        λ w. some.1 (⊎_elim (λ h. inl (side_above_lem.1 h)) (λ m. inr (many_steps.1 m)) w),
      )

  module _ (len : ℕ) where
    is_23 : (strip_verdict S len o ≡ refused 23) ↔ ((18 ≤ S) × (S ≤ 64))
    unfolding right_after order strip_order
    is_23 =
        let at = orders.refused_23 S len o in (
          λ e. let w = at.0 e in
              (side_above_lem.0 (rw w.1 tt), ((side_in_lem S).0 ((false_iff (side_out S)).0 w.0.0)).1),
          λ w. at.1 ((false_of (side_out S) ((side_in_lem S).1 (omega (arith, w.0), w.1)), tt), true_of (side_above S) (side_above_lem.1 w.0)),
        )

    is_24 : (strip_verdict S len o ≡ refused 24) ↔ Refused24 S o len
    unfolding right_after order strip_order
    is_24 =
        let at = orders.refused_24 S len o in (
          λ e. let w = at.0 e in
              let n = w.0 in
              let counts = (counts_in o.most o.counts).0 n.1.1.1.1.0 in
              let above = (false_iff (side_above S)).0 n.1.0 in
              record {
                side_least = ((side_in_lem S).0 ((false_iff (side_out S)).0 n.0)).0;
                side_most = let h : ¬ (17 < S) = λ h. above (side_above_lem.1 h) in omega arith;
                cube = (cube_length S len).0 n.1.1.0;
                marks = (not_0 o.mark).0 n.1.1.1.0;
                count_least = counts.0;
                count_most = counts.1;
                many_steps = many_steps.0 (rw w.1 tt);
              },
          λ w. let most = w.side_most in at.1 (
            (
              false_of (side_out S) ((side_in_lem S).1 (w.side_least, omega arith)),
              (
                false_of (side_above S) (λ t. omega (arith, side_above_lem.0 t)),
                (
                  (cube_length S len).1 w.cube,
                  ((not_0 o.mark).1 w.marks, ((counts_in o.most o.counts).1 (w.count_least, w.count_most), tt)),
                ),
              ),
            ),
            true_of (some_of count_above o.counts) (many_steps.1 w.many_steps),
          ),
        )

    beside_main : BesideMain S o len
    beside_main = record {
      is_23 = is_23;
      is_24 = is_24;
      accepts = orders.accepted_by_main S len o;
      refuses = λ k e. ⊎_elim (λ s. inl (s ∙ e)) (λ own. inr own) (orders.as_main S len o);
      refuses_more = λ e. (
        λ n. ⊎_elim (λ t. is_beyond.0 t) (λ f. absurd (n (orders.taken S len o (false_of _ f) ∙ e))) (decided (beyond S o)),
        λ w a. (false_iff (beyond S o)).0 (orders.accepted_taken S len o a) (is_beyond.1 w),
      );
    }

pub claim : Claim
claim = record {
  beside_main = beside_main;
  as_main = λ S o grid. record {
    answer = λ e d m. sym (draw_the_same _ _ (orders.taken_alike S o (orders.accepted_taken S (length grid) o e)) m d).0;
    grids = λ e d m. sym (draw_the_same _ _ (orders.taken_alike S o (orders.accepted_taken S (length grid) o e)) m d).1;
  };
}

-- At the limits, computed.
pub at_the_limits : AtTheLimits
unfolding blend scale points value some_below some_of first_that right_after far_apart some_sample too_long some_axis side_out offset
    coordinate exact count_out coordinate_out steps_too_long order draw_verdict side_above count_above strip_order strip_verdict
at_the_limits = record {
  taken = refl;
  side_18 = refl;
  side_18_main = refl;
  steps_65 = refl;
  steps_65_main = refl;
  side_65 = refl;
  steps_513 = refl;
  patch_m_65 = refl;
  patch_n_0 = refl;
}
