-- `start_through` meets its contract: what `start` is given are the count and twice the coordinates, which leave room.
use mathlib.Core.Path.{◌≡◌}
use mathlib.Core.List.{List}
use Prim.Native.Nat.{ℕ, ◌*◌, ◌<◌}
use native.Mathlib.Omega.{arith}
use lib.IntN.{ℤ, pos}
use lib.ListN.{length, get_or}
use Rattle.cubic.proofs.Fits.{read}
use Rattle.scan.specs.Column.{Below64, AtBytes}
use Rattle.scan.proofs.Natural.{answer_read}
use Rattle.scan.proofs.Column.{bytes_start}
use Rattle.scan.proofs.number.start_through.Goals as goal

-- Twice a coordinate, as it is read back.
twice_read : (points : List ℕ) (b : ℕ) {r : ℤ} → Below64 points → r ≡ pos (2 * get_or points b 0) → b < length points →
    read r ≡ pos (2 * get_or points b 0)
twice_read points b below e h = answer_read e (omega (arith, below b h))

-- What `start` is given.
record Given (points : List ℕ) (n b0 b1 b2 b3 : ℕ) (count q0 q1 q2 q3 : ℤ) : Type 0 where
  pub steps : read count ≡ pos n
  pub point0 : read q0 ≡ pos (2 * get_or points b0 0)
  pub point1 : read q1 ≡ pos (2 * get_or points b1 0)
  pub point2 : read q2 ≡ pos (2 * get_or points b2 0)
  pub point3 : read q3 ≡ pos (2 * get_or points b3 0)

given : {points : List ℕ} {n b0 b1 b2 b3 : ℕ} {count q0 q1 q2 q3 : ℤ} → AtBytes points n b0 b1 b2 b3 →
    count ≡ pos n → q0 ≡ pos (2 * get_or points b0 0) → q1 ≡ pos (2 * get_or points b1 0) →
    q2 ≡ pos (2 * get_or points b2 0) → q3 ≡ pos (2 * get_or points b3 0) →
    Given points n b0 b1 b2 b3 count q0 q1 q2 q3
given {points} {n} {b0} {b1} {b2} {b3} l e e0 e1 e2 e3 =
    let there = l.there in
    record {
      steps = answer_read e (omega (arith, l.count));
      point0 = twice_read points b0 l.coordinates e0 there.0;
      point1 = twice_read points b1 l.coordinates e1 there.1;
      point2 = twice_read points b2 l.coordinates e2 there.2;
      point3 = twice_read points b3 l.coordinates e3 there.3;
    }

pub start-requires : goal.start-requires
start-requires c =
    let g =
    given c.requires c.from.ensures c.doubled.ensures c.doubled-2.ensures c.doubled-3.ensures
    c.doubled-4.ensures in
    rw (g.steps, g.point0, g.point1, g.point2, g.point3) (bytes_start c.requires)

pub returns : goal.returns
returns c =
    let g =
    given c.requires c.from.ensures c.doubled.ensures c.doubled-2.ensures c.doubled-3.ensures
    c.doubled-4.ensures in
    rw (g.steps, g.point0, g.point1, g.point2, g.point3) at c.start.ensures
