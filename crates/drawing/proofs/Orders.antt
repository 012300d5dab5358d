-- The orders of refusal hold document 01's numbers in its order, and 15 is answered exactly where there is a long
-- step and nothing before it applies.
use mathlib.Core.Path.{◌≡◌, refl}
use mathlib.Core.Logic.{◌↔◌}
use mathlib.Core.Bool.{Bool}
use mathlib.Core.List.{[], ◌∷◌}
use Prim.Native.Nat.{ℕ}
use lib.ListN.{take}
use Rattle.decide.specs.Some.{some_of}
use Rattle.decide.specs.Refusal.{refused, first_that, numbers}
use Rattle.decide.proofs.FirstThat.{NoneApplies, refused_at}
use Rattle.decide.proofs.Truth.{true_of}
use Rattle.neighbours.specs.Steps.{LongStep}
use Rattle.cube.specs.Cube.{Axis}
use Rattle.drawing.specs.Object.{Object, scale_of, exact}
use Rattle.drawing.specs.Refusals.{order, steps_too_long}
use Rattle.drawing.proofs.Accepted.{steps_too_long_lem}

module _ (S : ℕ) (o : Object) (g m l : Bool) where
  -- Order for drawing and listing: 11, 21, 12, 13, 22, 14, 15.
  pub order_numbers : numbers (order S o g m l) ≡ 11 ∷ 21 ∷ 12 ∷ 13 ∷ 22 ∷ 14 ∷ 15 ∷ []
  unfolding numbers order
  order_numbers = refl

  -- What passes every other check is refused for its steps exactly where some axis has a long step.
  pub refused_for_steps :
      (first_that (order S o g m l) ≡ refused 15) ↔
      (NoneApplies (take 6 (order S o g m l)) × ((a : Axis) × LongStep (scale_of o) o.counts (exact o a)))
  unfolding order numbers some_of
  refused_for_steps =
      let at = refused_at 15 (steps_too_long o) (take 6 (order S o g m l)) [] refl refl in (
        λ e. let w = at.0 e in (w.0, (steps_too_long_lem o).0 (rw w.1 tt)),
        λ w. at.1 (w.0, true_of (steps_too_long o) ((steps_too_long_lem o).1 w.1)),
      )
