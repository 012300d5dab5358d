-- The verdicts of the two calls as the tests before the step test give them; and a drawing with the chosen count is document
-- 01's: accepted where that one is, and with the same grid.
use mathlib.Core.Path.{◌≡◌, refl, sym, ◌∙◌}
use mathlib.Core.Logic.{◌↔◌}
use mathlib.Core.Bool.{Bool, false, not}
use mathlib.Core.List.{List}
use Prim.Native.Nat.{ℕ, ◌≤◌}
use native.Mathlib.Omega.{arith}
use lib.Dec.{eqb}
use lib.ListN.{length}
use Rattle.decide.specs.Refusal.{accepted, first_that}
use Rattle.decide.proofs.Truth.{false_iff}
use Rattle.decide.proofs.FirstThat.{by_verdict, not_both, accepted_none}
use Rattle.cube.specs.Cube.{volume}
use Rattle.drawing.specs.declared.Choice.{Choice}
use Rattle.drawing.specs.Object.{Object}
use Rattle.drawing.specs.Refusals.{steps_too_long, order, draw_verdict, Drawable}
use Rattle.drawing.specs.Drawing.{drawing_of, drawn_by, drawn}
use Rattle.drawing.proofs.Accepted.{steps_too_long_lem, order_accepted, draw_accepted}
use Rattle.drawing.proofs.Drawn.{drawn_accepted, drawn_refused}
use Rattle.scan.specs.Refusals.{before_steps}
use Rattle.scan.specs.Column.{Below64}
use Rattle.scan.proofs.Orders.{Passed, passed}
use Rattle.curve.specs.declared.Curve.{Curve}
use Rattle.chosen.specs.Search.{InCube}
use Rattle.chosen.specs.Chosen.{chosen_order, chosen, chosen_curve, chosen_drawing}
use Rattle.chosen.proofs.Least.{by_curve, from_1, is_accepted, at_most_189}

-- The order is what comes before the step test, where neither a count nor a list has anything to say.
pub before_steps_lem : (S : ℕ) (points : List ℕ) (g m : Bool) →
    first_that (chosen_order S points g m) ≡ first_that (before_steps S points g m false false)
unfolding chosen_order before_steps first_that
before_steps_lem S points g m = refl

module _ (S : ℕ) (points : List ℕ) (g m : Bool) (e : first_that (chosen_order S points g m) ≡ accepted) where
  abbrev past : Passed S points false
  past = passed S points g m false false (sym (before_steps_lem S points g m) ∙ e)

  -- Where no number applies, the coordinates are those of a cube,
  pub below_64 : Below64 points
  below_64 k h = omega (arith, past.coordinate_below k h, past.side_most)

  pub in_cube : (c : Curve) → c.points ≡ points → length points ≡ 12 → InCube c
  in_cube c same twelve = record { twelve = rw same twelve; coordinates = rw same below_64 }

  -- and the curve with the chosen count can be drawn: 13 does not apply, and neither does 15.
  pub drawable : (mark : ℕ) (choice : Choice) → Drawable S (chosen_curve points mark choice)
  drawable mark choice = record {
    side_least = past.side_least;
    side_most = past.side_most;
    count_least = λ k h. let z : k ≡ 0 = omega arith in rw z (from_1 points);
    count_most = λ k h. let z : k ≡ 0 = omega arith in rw z (omega (arith, at_most_189 points below_64));
    coordinate_below = past.coordinate_below;
    steps_short = λ a l.
        (false_iff (steps_too_long (chosen_curve points mark choice))).0
        (sym (by_curve points (chosen points) mark choice) ∙ is_accepted points)
        ((steps_too_long_lem (chosen_curve points mark choice)).1 (a, l));
  }

module _ (S : ℕ) (points : List ℕ) (mark : ℕ) (choice : Choice) where
  abbrev o : Object
  o = chosen_curve points mark choice

  -- An order answers no number exactly where document 01's has none.
  orders_accepted : (g m : Bool) →
      (first_that (chosen_order S points g m) ≡ accepted) ↔ (first_that (order S o g m false) ≡ accepted)
  unfolding chosen_order order
  orders_accepted g m = (
    λ e. let n = (accepted_none (chosen_order S points g m)).0 e in
        (order_accepted S o g m false).1 (drawable S points g m e mark choice, n.1.0, n.1.1.0, refl),
    λ e. let n = (accepted_none (order S o g m false)).0 e in
        (accepted_none (chosen_order S points g m)).1 (n.0, (n.1.0, (n.1.1.0, (n.1.1.1.1.1.0, tt)))),
  )

  -- So the call is accepted exactly where document 01's is: where its curve is drawable, the grid has S × S × S bytes and the
  -- mark is not 0.
  pub accepted_as_drawn : (len : ℕ) →
      ((chosen_drawing S points mark choice).verdict len ≡ accepted) ↔ (draw_verdict S len o ≡ accepted)
  unfolding draw_verdict
  accepted_as_drawn len = orders_accepted (not (eqb len (volume S))) (eqb mark 0)

  pub chosen_accepted : (len : ℕ) →
      ((chosen_drawing S points mark choice).verdict len ≡ accepted) ↔ (Drawable S o × (len ≡ volume S) × (1 ≤ mark))
  chosen_accepted len =
      let c = accepted_as_drawn len in
      let d = draw_accepted S o len in
      (λ e. d.0 (c.0 e), λ w. c.1 (d.1 w))

  -- And leaves what that leaves.
  pub drawn_as_drawn : (grid : List ℕ) → drawn_by (chosen_drawing S points mark choice) grid ≡ drawn S o grid
  drawn_as_drawn grid =
      let c = chosen_drawing S points mark choice in
      let d = drawing_of S o in
      by_verdict (c.verdict (length grid)) _
      (λ e. drawn_accepted c grid e ∙ sym (drawn_accepted d grid ((accepted_as_drawn (length grid)).0 e)))
      (λ k e. drawn_refused c grid e ∙
      by_verdict (d.verdict (length grid)) _
      (λ a. absurd (not_both (sym e ∙ (accepted_as_drawn (length grid)).1 a)))
      (λ l f. sym (drawn_refused d grid f)))
