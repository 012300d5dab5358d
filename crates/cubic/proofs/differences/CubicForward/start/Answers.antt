-- `start` meets its contract: the bounds of a level keep every product and sum in range, and the rows of equation 22's
-- matrix are the value and the differences at index 0.
use mathlib.Core.Path.{◌≡◌, sym}
use mathlib.Core.List.{List}
use Prim.Native.Nat.{ℕ, ◌+◌, ◌*◌, ◌≤◌, ◌<◌, ◌^◌}
use native.Mathlib.Nat.{le_trans}
use native.Mathlib.Omega.{arith}
use lib.IntN.{ℤ, pos, nat_abs, ◌+ℤ◌, ◌*ℤ◌}
use lib.ListN.{get_or}
use mir.Facts.{to_z-of_z}
use Rattle.integers.specs.Magnitude.{Within}
use Rattle.cubic.specs.Basis.{dot}
use Rattle.cubic.specs.Room.{Each, Small, Startable}
use Rattle.cubic.proofs.Fits.{Holds, read, literal, held, add, add_fits, mul, mul_fits}
use Rattle.cubic.proofs.Closed.{coef3, coef2, coef1, coef0, start_differences}
use Rattle.cubic.proofs.Bounds.{coef3_within, coef2_within, coef1_within, coef0_within, more_factors}
use Rattle.cubic.proofs.differences.CubicForward.start.Goals as goal
use Rattle.cubic.proofs.differences.CubicForward.start.Goals.{After-coefficient-a0}

-- The products of bounds that come up are at most L³Q or 120L²Q.
record Bounds (L Q : ℕ) : Type 0 where
  one : Q ≤ L * Q
  two : L * Q ≤ L * L * Q
  values : L * L * L * Q ≤ 2 ^ 60
  differences : 120 * (L * L * Q) ≤ 2 ^ 60

module _ {n q0 q1 q2 q3 : ℤ} (p : Startable n q0 q1 q2 q3) where
  bounds : Bounds p.limit p.size
  bounds =
      let f = more_factors p.limit p.size p.level.some in
      record {
        one = f.0;
        two = f.1;
        values = le_trans p.level.values p.level.room;
        differences = le_trans p.level.differences p.level.room;
      }

  -- A control value is held.
  control : {q : ℤ} → Within p.size q → Holds p.size q (read q)
  control b = let f = bounds in held b (omega arith)

  -- A row of entries within 6 has room.
  row_small : {row : List ℤ} →
      Each 6 (get_or row 0 (pos 0)) (get_or row 1 (pos 0)) (get_or row 2 (pos 0)) (get_or row 3 (pos 0)) →
      Small row (read q0) (read q1) (read q2) (read q3)
  row_small e =
      let f = bounds in
      let q = p.controls in
      rw ((control q.first).same, (control q.second).same, (control q.third).same, (control q.fourth).same)
      (record { size = p.size; entries = e; controls = q; room = omega arith })

  -- What the function `coefficient` answers is the row on the control values themselves.
  answer : (row : List ℤ) {r : ℤ} → r ≡ dot row (read q0) (read q1) (read q2) (read q3) → r ≡ dot row q0 q1 q2 q3
  answer row e =
      let q = p.controls in
      rw ((control q.first).same, (control q.second).same, (control q.third).same, (control q.fourth).same) at e

-- Four entries within 6.
entries : (a b c d : ℤ) → nat_abs a ≤ 6 → nat_abs b ≤ 6 → nat_abs c ≤ 6 → nat_abs d ≤ 6 → Each 6 a b c d
entries a b c d ha hb hc hd = record {
  first = record { size = ha };
  second = record { size = hb };
  third = record { size = hc };
  fourth = record { size = hd };
}

-- A result that is a known integer is held.
result : {M : ℕ} {r z : ℤ} → r ≡ z → Within M z → M < 2 ^ 63 → Holds M z (read r)
result e b h = rw e (held b h)

-- What is held of a product and of a sum.
abbrev times : ℤ → ℤ → ℤ
times a b = read (a *ℤ b)

abbrev plus : ℤ → ℤ → ℤ
plus a b = read (a +ℤ b)

-- The machine holds the count n and the coefficients a3 to a0, and reads them as N and A3 to A0.
record Held (L Q : ℕ) (n a3 a2 a1 a0 N A3 A2 A1 A0 : ℤ) : Type 0 where
  room : Bounds L Q
  count : Holds L n N
  third : Holds (8 * Q) a3 A3
  second : Holds (12 * Q) a2 A2
  first : Holds (6 * Q) a1 A1
  zeroth : Holds Q a0 A0

-- The rows of equation 22's matrix, operation by operation.
module _ {L Q : ℕ} {n a3 a2 a1 a0 N A3 A2 A1 A0 : ℤ} (h : Held L Q n a3 a2 a1 a0 N A3 A2 A1 A0) where
  value1 : Holds (L * Q) (n *ℤ a0) (times N A0)
  value1 = mul h.count h.zeroth (omega arith)

  value2 : Holds (L * (L * Q)) (n *ℤ (n *ℤ a0)) (times N (times N A0))
  value2 = mul h.count value1 (omega arith)

  value3 : Holds (L * (L * (L * Q))) (n *ℤ (n *ℤ (n *ℤ a0))) (times N (times N (times N A0)))
  value3 = mul h.count value2 (omega arith)

  slope1 : Holds (L * (6 * Q)) (n *ℤ a1) (times N A1)
  slope1 = mul h.count h.first (omega arith)

  slope2 : Holds (12 * Q + L * (6 * Q)) (a2 +ℤ n *ℤ a1) (plus A2 (times N A1))
  slope2 = add h.second slope1 (omega arith)

  slope3 : Holds (L * (12 * Q + L * (6 * Q))) (n *ℤ (a2 +ℤ n *ℤ a1)) (times N (plus A2 (times N A1)))
  slope3 = mul h.count slope2 (omega arith)

  slope4 : Holds (8 * Q + L * (12 * Q + L * (6 * Q))) (a3 +ℤ n *ℤ (a2 +ℤ n *ℤ a1))
      (plus A3 (times N (plus A2 (times N A1))))
  slope4 = add h.third slope3 (omega arith)

  bend1 : Holds (6 * (8 * Q)) (pos 6 *ℤ a3) (times (pos 6) A3)
  bend1 = mul (literal 6) h.third (omega arith)

  bend2 : Holds (2 * (12 * Q)) (pos 2 *ℤ a2) (times (pos 2) A2)
  bend2 = mul (literal 2) h.second (omega arith)

  bend3 : Holds (L * (2 * (12 * Q))) (n *ℤ (pos 2 *ℤ a2)) (times N (times (pos 2) A2))
  bend3 = mul h.count bend2 (omega arith)

  bend4 : Holds (6 * (8 * Q) + L * (2 * (12 * Q))) (pos 6 *ℤ a3 +ℤ n *ℤ (pos 2 *ℤ a2))
      (plus (times (pos 6) A3) (times N (times (pos 2) A2)))
  bend4 = add bend1 bend3 (omega arith)

-- What the machine holds behind the four coefficients.
module _ (c : After-coefficient-a0) where
  abbrev p : Startable c.args.n c.args.q0 c.args.q1 c.args.q2 c.args.q3
  p = c.requires

  abbrev of : (ℤ → ℤ → ℤ → ℤ → ℤ) → ℤ
  of a = a c.args.q0 c.args.q1 c.args.q2 c.args.q3

  state : Held p.limit p.size c.args.n (of coef3) (of coef2) (of coef1) (of coef0)
      (read c.args.n)
      (read c.coefficient-a3.result)
      (read c.coefficient-a2.result)
      (read c.coefficient-a1.result)
      (read c.coefficient-a0.result)
  state =
      let f = bounds p in
      let e = p.controls in
      record {
        room = f;
        count = record { same = to_z-of_z c.ranges.n; size = p.count };
        third = result (answer p _ c.coefficient-a3.ensures) (coef3_within e) (omega arith);
        second = result (answer p _ c.coefficient-a2.ensures) (coef2_within e) (omega arith);
        first = result (answer p _ c.coefficient-a1.ensures) (coef1_within e) (omega arith);
        zeroth = result (answer p _ c.coefficient-a0.ensures) (coef0_within e) (omega arith);
      }

pub coefficient-a3-requires : goal.coefficient-a3-requires
coefficient-a3-requires c =
    row_small c.requires (entries _ _ _ _ (omega arith) (omega arith) (omega arith) (omega arith))

pub coefficient-a2-requires : goal.coefficient-a2-requires
coefficient-a2-requires c =
    row_small c.requires (entries _ _ _ _ (omega arith) (omega arith) (omega arith) (omega arith))

pub coefficient-a1-requires : goal.coefficient-a1-requires
coefficient-a1-requires c =
    row_small c.requires
    (entries _ _ _ _ (omega arith) (omega arith) (omega arith) (omega arith))

pub coefficient-a0-requires : goal.coefficient-a0-requires
coefficient-a0-requires c =
    row_small c.requires
    (entries _ _ _ _ (omega arith) (omega arith) (omega arith) (omega arith))

pub overflow_mul-result : goal.overflow_mul-result
overflow_mul-result c = let h = state c in mul_fits h.count h.zeroth (omega arith)

pub overflow_mul-result-2 : goal.overflow_mul-result-2
overflow_mul-result-2 c = let h = state c in mul_fits h.count (value1 h) (omega arith)

pub overflow_mul-result-3 : goal.overflow_mul-result-3
overflow_mul-result-3 c = let h = state c in mul_fits h.count (value2 h) (omega arith)

pub overflow_mul-result-4 : goal.overflow_mul-result-4
overflow_mul-result-4 c = let h = state c in mul_fits h.count h.first (omega arith)

pub overflow_add-result : goal.overflow_add-result
overflow_add-result c = let h = state c in add_fits h.second (slope1 h) (omega arith)

pub overflow_mul-result-5 : goal.overflow_mul-result-5
overflow_mul-result-5 c = let h = state c in mul_fits h.count (slope2 h) (omega arith)

pub overflow_add-result-2 : goal.overflow_add-result-2
overflow_add-result-2 c = let h = state c in add_fits h.third (slope3 h) (omega arith)

pub overflow_mul-result-6 : goal.overflow_mul-result-6
overflow_mul-result-6 c = let h = state c in mul_fits (literal 6) h.third (omega arith)

pub overflow_mul-result-7 : goal.overflow_mul-result-7
overflow_mul-result-7 c = let h = state c in mul_fits (literal 2) h.second (omega arith)

pub overflow_mul-result-8 : goal.overflow_mul-result-8
overflow_mul-result-8 c = let h = state c in mul_fits h.count (bend2 h) (omega arith)

pub overflow_add-result-3 : goal.overflow_add-result-3
overflow_add-result-3 c = let h = state c in add_fits (bend1 h) (bend3 h) (omega arith)

pub overflow_mul-result-9 : goal.overflow_mul-result-9
overflow_mul-result-9 c = let h = state c in mul_fits (literal 6) h.third (omega arith)

pub returns : goal.returns
returns c =
    let h = state c in
    rw ((value3 h).same, (slope4 h).same, (bend4 h).same, (bend1 h).same) (sym (start_differences _ _ _ _ _))
