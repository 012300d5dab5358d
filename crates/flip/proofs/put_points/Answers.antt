-- `put_points` meets its contract: the points before k are those with the first k numbers.
use borrow.Author.Count.{below_more}
use mathlib.Core.Path.{sym, ◌∙◌}
use Prim.Native.Nat.{◌+◌, ◌*◌, ◌≤◌}
use native.Mathlib.Omega.{arith}
use lib.ListN.{length, get_or, length-set}
use Rattle.flip.proofs.Points.{same_points, put_before, put_here, read, read_point, length_points_at, point_at, has_point}
use Rattle.flip.proofs.put_points.Goals as goal

pub bounds-points-at : goal.bounds-points-at
bounds-points-at c =
    omega (arith, has_point c.args.points.now c.args.numbers.now c.requires.numbers_value c.loop-k.k c.loop-k-test.true, c.from-at.ensures)

pub bounds-points-at-in-loop-k : goal.bounds-points-at-in-loop-k
bounds-points-at-in-loop-k c =
    omega (arith, has_point c.args.points.now c.args.numbers.now c.requires.numbers_value c.loop-k.k c.loop-k-test.true, c.from-at.ensures)

pub bounds-points-at-in-loop-k-2 : goal.bounds-points-at-in-loop-k-2
bounds-points-at-in-loop-k-2 c =
    omega (arith, has_point c.args.points.now c.args.numbers.now c.requires.numbers_value c.loop-k.k c.loop-k-test.true, c.from-at.ensures)

pub loop-k-preserved : goal.loop-k-preserved
loop-k-preserved c =
    let s = c.args in
    let l = c.loop-k in
    let n = get_or s.numbers.now l.k 0 in
    let v = read s.points.now n in
    let room : 3 * l.k + 3 ≤ length l.to = omega (arith, l.auto.to, c.requires.to_len) in
    rw c.from-at.ensures (below_more _ _
    (λ j h a. put_before l.to l.k v j h a ∙ l.invariant j h a)
    (λ a. put_here l.to l.k v room a ∙ read_point s.points.now n a))

pub returns : goal.returns
returns c =
    let s = c.args in
    let l = c.loop-k in
    same_points (length s.numbers.now) _ _ (omega (arith, l.auto.to, c.requires.to_len)) (length_points_at s.points.now s.numbers.now)
    (λ k h a. l.invariant k (omega arith) a ∙ sym (point_at s.points.now s.numbers.now k h a))
