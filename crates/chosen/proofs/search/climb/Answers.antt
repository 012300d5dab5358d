-- `climb` meets its contract: the counts that it passes are refused, and where it stops the axis accepts.
use mathlib.Core.Path.{◌≡◌, sym, ◌∙◌, ap}
use mathlib.Core.Bool.{true}
use Prim.Native.Nat.{ℕ}
use native.Mathlib.Omega.{arith}
use Rattle.cube.specs.Cube.{Axis}
use Rattle.drawing.specs.Object.{offset}
use Rattle.drawing.specs.Axis.{axis_of}
use Rattle.curve.specs.declared.Curve.{Curve}
use Rattle.curve.specs.Machine.{long_along}
use Rattle.chosen.specs.Chosen.{refuses_count}
use Rattle.chosen.specs.Search.{with_steps, alone_of}
use Rattle.chosen.proofs.Tries.{alone_limits, alone_says, refuses, accepts_enough}
use Rattle.chosen.proofs.search.climb.Goals as goal

-- What the axis alone says is what it says among the others.
module _ (curve line : Curve) (a : Axis) (e : line ≡ alone_of curve a) where
  among : (n : ℕ) → long_along (with_steps line n) 0 ≡ long_along (with_steps curve n) (offset a)
  among n = ap (λ line. long_along (with_steps line n) 0) e ∙ alone_says curve n a

  refused : (n : ℕ) → long_along (with_steps line n) 0 ≡ true → refuses_count curve.points n ≡ true
  refused n t = refuses curve n a (sym (among n) ∙ t)

pub is_refused-requires : goal.is_refused-requires
is_refused-requires c =
    let p = c.requires.le_from in
    rw (c.with_steps.ensures, c.alone-line.ensures)
    (alone_limits c.args.curve c.requires.in_cube (axis_of c.args.axis) c.loop-n.n (omega (arith, p.0, c.loop-n.invariant.0))
    (omega (arith, c.loop-n.invariant.1, p.2)))

pub returns-else-is_refused : goal.returns-else-is_refused
returns-else-is_refused c =
    let i = c.loop-n.invariant in
    record {
      least = i.0;
      most = omega (arith, i.1, c.requires.le_from.2);
      refused = λ n f h. refused c.args.curve _ (axis_of c.args.axis) c.alone-line.ensures n (i.2 n h f);
      accepts =
          sym (among c.args.curve _ (axis_of c.args.axis) c.alone-line.ensures c.loop-n.n) ∙
          sym (c.is_refused.ensures ∙ ap (λ k. long_along k 0) c.with_steps.ensures) ∙ c.if-is_refused.false;
    }

pub returns-after-loop-n : goal.returns-after-loop-n
returns-after-loop-n c =
    let i = c.loop-n.invariant in
    let p = c.requires.le_from in
    record {
      least = i.0;
      most = omega (arith, i.1, p.2);
      refused = λ n f h. refused c.args.curve _ (axis_of c.args.axis) c.alone-line.ensures n (i.2 n h f);
      accepts = accepts_enough c.args.curve (axis_of c.args.axis) c.loop-n.n (omega (arith, i.1, p.2, c.loop-n-test.false));
    }
