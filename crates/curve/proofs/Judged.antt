-- The verdict of a call with a curve, by what came before the step test, and then by what the test of the curve told.
use mathlib.Core.Path.{◌≡◌, sym, ◌∙◌}
use mathlib.Core.Bool.{Bool}
use Prim.Native.Nat.{ℕ}
use native.Mathlib.Omega.{arith}
use lib.ListN.{length}
use Rattle.decide.specs.Some.{some_of}
use Rattle.decide.specs.Refusal.{Verdict, accepted, refused, first_that}
use Rattle.decide.proofs.Truth.{false_iff}
use Rattle.decide.proofs.Some.{some_of_one}
use Rattle.drawing.specs.Object.{Object}
use Rattle.drawing.specs.Refusals.{count_out, order}
use Rattle.drawing.proofs.Accepted.{count_in}
use Rattle.scan.specs.Refusals.{before_steps}
use Rattle.scan.proofs.Orders.{step_verdict, refused_before, past_tests, steps_decide}
use Rattle.curve.specs.declared.Curve.{Curve}
use Rattle.curve.specs.Curve.{curve_of}
use Rattle.curve.specs.Machine.{InLimits}

module _ (S : ℕ) (c : Curve) (g m l : Bool) where
  abbrev o : Object
  o = curve_of c

  counted : count_out 512 c.steps ≡ some_of (count_out o.most) o.counts
  counted = sym (some_of_one (count_out 512) c.steps)

  pub before_refused : {k : ℕ} → refused k ≡ first_that (before_steps S c.points g m (count_out 512 c.steps) l) →
      first_that (order S o g m l) ≡ refused k
  before_refused e = sym (refused_before S o g m l counted e)

  module _ (e : accepted ≡ first_that (before_steps S c.points g m (count_out 512 c.steps) l)) where
    -- What the test asks for.
    pub in_limits : length c.points ≡ 12 → InLimits c
    in_limits twelve =
        let p = past_tests S o g m l counted e in
        let n = (count_in 512 c.steps).0 ((false_iff _).0 p.count_in) in
        record {
          count_least = n.0;
          count_most = n.1;
          twelve = twelve;
          coordinates = λ k h. omega (arith, p.coordinate_below k h, p.side_most);
        }

    -- What it decides.
    pub test_decides : {v : Verdict} → v ≡ step_verdict o → first_that (order S o g m l) ≡ v
    test_decides told = steps_decide S o g m l counted e ∙ sym told
