-- `count_moves` meets its contract: after i steps the axis is at sample i, and the moves up to it are counted.
use Rattle.std.proofs.Common.{◌≡◌, ℕ, suc, ◌+◌, ◌-◌, ◌<◌, ◌≤◌, Bool, List, length, get_or, pos, sym, refl, ap, ◌∙◌, subst, ap₂, arith}
use mir.Val.{bool_byte}
use Rattle.cube.specs.Cube.{Axis, x_axis, y_axis, z_axis, Cell}
use Rattle.drawing.specs.Object.{offset, scale_of}
use Rattle.drawing.specs.Refusals.{Drawable}
use Rattle.cubic.specs.declared.axis.Axis as machine
use Rattle.cubic.specs.Axis.{start_of, step_of}
use Rattle.cubic.specs.Differences.{differences_at}
use Rattle.cubic.specs.Tracks.{Tracks}
use Rattle.scan.specs.Walker.{axis_of, stride_of, list_strides}
use Rattle.scan.proofs.Samples.{axis_next, position, list_stride_is}
use Rattle.scan.proofs.Written.{counted}
use Rattle.curve.specs.declared.Curve.{Curve}
use Rattle.curve.specs.Curve.{curve_of}
use Rattle.curve.specs.Machine.{doubled_along, start_walker}
use Rattle.curve.proofs.Begin.{start_at, curve_row, list_row}
use Rattle.path.specs.Path.{move_of, over_steps}
use Rattle.path.specs.Step.{moves_next}
use Rattle.path.proofs.OfCurve as along
use Rattle.path.proofs.Legs.{counts_move}
use Rattle.path.proofs.Stands.{moved_test}
use Rattle.path.proofs.list.count_moves.Given as goal

-- The cells of samples 0 to i, and that of sample i.
abbrev pub cells_to : Curve → ℕ → List Cell
cells_to c = along.cells_to c.steps c.points c.mark c.choice

abbrev pub cell : Curve → ℕ → Cell
cell c = along.cell c.steps c.points c.mark c.choice

-- The axis is at sample i.
abbrev pub AtSample : Curve → Axis → ℕ → machine.Axis → Type 0
AtSample c x i m = Tracks (scale_of (curve_of c)) (stride_of list_strides x) (doubled_along c (offset x)) i (cell c i x) m

-- The axis with number a has moved so often.
pub record SoFar (c : Curve) (a i : ℕ) (m : machine.Axis) (moves : ℕ) : Type 0 where
  pub within : i ≤ c.steps
  pub few : moves ≤ i
  pub at : (x : Axis) → offset x ≡ a → AtSample c x i m
  pub are : (x : Axis) → offset x ≡ a → moves ≡ over_steps (move_of x) (cells_to c i)

-- Sample 0.
pub start_is : (c : Curve) (x : Axis) →
    start_of (pos 1) (pos (get_or c.points (offset x) 0)) (differences_at (doubled_along c (offset x)) 0) ≡
    axis_of (start_walker c list_strides) x
unfolding offset
start_is c x_axis = refl
start_is c y_axis = refl
start_is c z_axis = refl

module _ {S : ℕ} (c : Curve) (twelve : length c.points ≡ 12) (d : Drawable S (curve_of c)) where
  pub none : (a : ℕ) → SoFar c a 0 (start_of (pos 1) (pos (get_or c.points a 0)) (differences_at (doubled_along c a) 0)) 0
  none a = record {
    within = omega arith;
    few = omega arith;
    at = λ x e. subst (λ k. AtSample c x 0 (start_of (pos 1) (pos (get_or c.points k 0)) (differences_at (doubled_along c k) 0))) e
        (rw (start_is c x) ((start_at c d list_strides).on x));
    are = λ x e. sym (along.steps_first c.steps c.points c.mark c.choice (move_of x));
  }

  -- One step more.
  pub more : {a i : ℕ} {m m' : machine.Axis} {moves : ℕ} {t : Bool} → SoFar c a i m moves → i < c.steps →
      m' ≡ step_of (pos (scale_of (curve_of c))) (pos 1) m → t ≡ moves_next (pos (scale_of (curve_of c))) m →
      SoFar c a (suc i) m' (moves + bool_byte t)
  unfolding list_row curve_row
  more {a} {i} {m} {m'} {moves} {t} s l e f = record {
    within = l;
    few = omega (arith, s.few, (counted t).1);
    at = now;
    are = λ x k.
        let w = list_row c twelve d in
        let moved = moved_test (pos (scale_of (curve_of c))) m 1 (cell c i x) (cell c (suc i) x) (omega arith)
        (position w x (omega arith) (s.at x k)) (ap (λ n. n.at) (sym e) ∙ position w x l (now x k)) in
        ap₂ (λ k j. k + j) (s.are x k) ((counted t).0 ∙ counts_move x (cell c i) (cell c (suc i)) (f ∙ moved)) ∙
        sym (along.steps_next c.steps c.points c.mark c.choice (move_of x) i);
  }
    where
      now : (x : Axis) → offset x ≡ a → AtSample c x (suc i) m'
      now x f =
          subst (AtSample c x (suc i)) (sym (e ∙ ap (λ h. step_of (pos (scale_of (curve_of c))) h m) (sym (list_stride_is x))))
          (axis_next (list_row c twelve d) x l (s.at x f))

abbrev pub invariant-loop : goal.invariant-loop
invariant-loop l = SoFar l.fn.curve l.a l.counter l.axis l.moves
