-- `smallest` meets its contract: every count below the present one is refused, and one that all three axes accept is the
-- smallest.
use Rattle.std.proofs.Common.{arith, ◌≡◌, ◌≤◌, max}
use lib.Dec.{lit≤}
use Rattle.gaps.specs.Gaps.{ends_apart}
use Rattle.chosen.specs.Search.{enough}
use Rattle.chosen.proofs.Least.{below_ends, ends_enough}
use Rattle.chosen.proofs.Tries.{climbed_on, none_asked, one_more, it_alone, all_agree}
use Rattle.chosen.proofs.search.smallest.Goals as goal
use Rattle.chosen.proofs.search.smallest.Goals.{then-m-n, else-m-n}

-- Where the search starts, and where it may stop.
pub loop-n-init : goal.loop-n-init
loop-n-init c =
    let points = c.args.curve.points in
    let starts : c.max-n.result ≡ max 1 (ends_apart points) = omega (arith, c.max-n.ensures, c.ends_apart.ensures) in
    let stops : c.max-most.result ≡ enough points = omega (arith, c.max-most.ensures, c.three_gaps.ensures) in (
      omega (arith, starts),
      omega (arith, starts, stops, ends_enough points),
      stops,
      λ m l h. below_ends points m l (omega (arith, h, starts)),
      lit≤ tt,
      none_asked _ _ _,
    )

-- Where the axis has stayed one more agrees, and where it has climbed it alone does.
pub returns-then-agreed-eq3 : goal.returns-then-agreed-eq3
returns-then-agreed-eq3 c =
    let i = c.loop-n.invariant in
    elim c.if-m-n.branch [
      | then-m-n w ↦ all_agree c.args.curve i.5 c.climb-m.ensures i.0 i.3 (omega (arith, w.agreed-is, c.if-agreed-eq3.true)) w.if-m-n.true
      | else-m-n w ↦ absurd (omega (arith, w.agreed-is, c.if-agreed-eq3.true))
    ]

pub loop-n-preserved : goal.loop-n-preserved
loop-n-preserved c =
    let i = c.loop-n.invariant in
    let up = c.climb-m.ensures in
    let few : c.if-m-n.agreed ≤ 2 =
    elim c.if-m-n.branch [
      | then-m-n w ↦ omega (arith, w.agreed-is, i.4, c.if-agreed-eq3.false)
      | else-m-n w ↦ omega (arith, w.agreed-is)
    ] in (
      omega (arith, i.0, up.least),
      omega (arith, i.2, up.most),
      i.2,
      climbed_on _ i.3 up,
      few,
      rw c.next_axis-axis.ensures
          (elim c.if-m-n.branch [
            | then-m-n w ↦ rw w.agreed-is (one_more _ i.5 up w.if-m-n.true)
            | else-m-n w ↦ rw w.agreed-is (it_alone _ i.5 up)
          ]),
    )
