-- `count_moves` meets its contract: after i steps the axis is at sample i, and the moves up to it are counted.
use Rattle.std.proofs.Common.{◌≡◌, ℕ, ◌*◌, ◌<◌, length, ℤ, pos, sym, ap, ◌∙◌, add-one, arith, lit<, lit≤, rules}
use Rattle.integers.proofs.Magnitude.{within_pos}
use Rattle.drawing.specs.Object.{scale_of}
use Rattle.drawing.specs.Refusals.{Drawable}
use Rattle.drawing.proofs.Accepted.{check_accepted}
use Rattle.cubic.specs.declared.axis.Axis as machine
use Rattle.cubic.specs.Room.{Steps}
use Rattle.cubic.proofs.Fits.{read}
use Rattle.scan.proofs.Samples.{axis_steps, list_stride_is}
use Rattle.scan.proofs.Written.{counted}
use Rattle.scan.proofs.Axes.{axis_numbered}
use Rattle.curve.specs.declared.Curve.{Curve}
use Rattle.curve.specs.Curve.{curve_of}
use Rattle.curve.proofs.Along.{drawable_in_limits, scale_small, scale_held}
use Rattle.curve.proofs.Begin.{list_row}
use Rattle.path.specs.Path.{move_of, over_steps}
use Rattle.path.proofs.OfCurve as along
use Rattle.path.proofs.list.count_moves.Invariants.{SoFar, cells_to, more, none}
use Rattle.path.proofs.list.count_moves.Goals as goal

module _ {S : ℕ} (c : Curve) (twelve : length c.points ≡ 12) (d : Drawable S (curve_of c)) {scale : ℤ}
    (n-is : scale ≡ pos (c.steps * c.steps * c.steps)) where
  scale_is : read scale ≡ pos (scale_of (curve_of c))
  scale_is = (scale_held (drawable_in_limits c twelve d) n-is).same

  -- Sample by sample.
  room : {a i : ℕ} {m : machine.Axis} {moves : ℕ} → a < 3 → SoFar c a i m moves → Steps (read scale) (pos 1) m
  room {a = a} h s =
      let x = axis_numbered a h in
      rw (scale_is, ← list_stride_is x.0) (axis_steps (list_row c twelve d) x.0 s.within (s.at x.0 x.1))

pub cubed-scale-requires : goal.cubed-scale-requires
cubed-scale-requires c = ((check_accepted _ _).0 c.requires.curve_value).count_most 0 (lit< tt)

pub start_axis-axis-requires : goal.start_axis-axis-requires
start_axis-axis-requires c = record {
  in_limits = drawable_in_limits _ (search rules) ((check_accepted _ _).0 c.requires.curve_value);
  a_bound = c.requires.a_bound;
  small_stride = within_pos (lit≤ tt);
}

pub loop-init : goal.loop-init
loop-init c = rw c.start_axis-axis.ensures (none _ (search rules) ((check_accepted _ _).0 c.requires.curve_value) _)

pub moves-moved-requires : goal.moves-moved-requires
moves-moved-requires c =
    let n = c.args.curve in
    let twelve : length n.points ≡ 12 = search rules in
    let d = (check_accepted _ _).0 c.requires.curve_value in
    record {
      size = scale_of (curve_of n);
      is = scale_is n twelve d c.cubed-scale.ensures;
      small = scale_small (drawable_in_limits n twelve d);
      cubic = (room n twelve d c.cubed-scale.ensures c.requires.a_bound c.loop.invariant).cubic;
    }

pub advance-axis-requires : goal.advance-axis-requires
advance-axis-requires c = record {
  steps =
      room c.args.curve (search rules) ((check_accepted _ _).0 c.requires.curve_value) c.cubed-scale.ensures c.requires.a_bound
      c.loop.invariant;
  moved_value = c.moves-moved.ensures;
}

pub overflow_add-moves : goal.overflow_add-moves
overflow_add-moves c = let e = c.from-moves.ensures in record {
  fits = omega (
    arith,
    (counted c.moves-moved.result).1,
    c.loop.invariant.few,
    c.loop.invariant.within,
    ((check_accepted _ _).0 c.requires.curve_value).count_most 0 (lit< tt),
  );
}

pub loop-preserved : goal.loop-preserved
loop-preserved c =
    let n = c.args.curve in
    let twelve : length n.points ≡ 12 = search rules in
    let d = (check_accepted _ _).0 c.requires.curve_value in
    let e = scale_is n twelve d c.cubed-scale.ensures in
    rw (add-one, c.from-moves.ensures) (more n twelve d c.loop.invariant (search rules) (rw e at c.advance-axis.ensures) (rw e at c.moves-moved.ensures))

pub returns : goal.returns
returns c =
    let n = c.args.curve in
    let e : c.loop.counter ≡ n.steps = omega (arith, c.loop.invariant.within, c.loop-test.false) in
    record {
      are = λ x f.
          c.loop.invariant.are x f ∙ ap (λ i. over_steps (move_of x) (cells_to n i)) e ∙
          ap (over_steps (move_of x)) (sym (along.all_cells n.steps n.points n.mark n.choice));
    }
