-- `coefficient` meets its contract: entries within 6 and control values within Q have products within 6Q and sums
-- within 24Q.
use mathlib.Core.List.{List}
use Prim.Native.Nat.{ℕ, ◌+◌, ◌*◌}
use native.Mathlib.Omega.{arith}
use lib.Dec.{lit<}
use lib.IntN.{ℤ, pos, ◌+ℤ◌, ◌*ℤ◌}
use lib.ListN.{get_or}
use Rattle.integers.specs.Magnitude.{Within}
use Rattle.cubic.specs.Room.{Small}
use Rattle.cubic.specs.Basis.{dot}
use Rattle.cubic.proofs.Fits.{Holds, read, held, add, add_fits, mul, mul_fits}
use Rattle.cubic.proofs.basis.coefficient.Goals as goal

-- What is held of a product.
abbrev times : ℤ → ℤ → ℤ
times b q = read (read b *ℤ read q)

module _ {row : List ℤ} {q0 q1 q2 q3 : ℤ} (p : Small row q0 q1 q2 q3) where
  abbrev entry_at : ℕ → ℤ
  entry_at k = get_or row k (pos 0)

  -- An entry of the row.
  entry : {b : ℤ} → Within 6 b → Holds 6 b (read b)
  entry b = held b (lit< tt)

  -- A control value.
  control : {q : ℤ} → Within p.size q → Holds p.size q (read q)
  control b = held b (omega (arith, p.room))

  -- A product.
  product : {b q : ℤ} → Within 6 b → Within p.size q → Holds (6 * p.size) (b *ℤ q) (times b q)
  product b q = mul (entry b) (control q) (omega (arith, p.room))

  -- The sum of the first two products.
  sum2 : Holds (6 * p.size + 6 * p.size) (entry_at 0 *ℤ q0 +ℤ entry_at 1 *ℤ q1)
      (read (times (entry_at 0) q0 +ℤ times (entry_at 1) q1))
  sum2 =
      add (product p.entries.first p.controls.first) (product p.entries.second p.controls.second)
      (omega (arith, p.room))

  -- The sum of the first three products.
  sum3 : Holds (6 * p.size + 6 * p.size + 6 * p.size) (entry_at 0 *ℤ q0 +ℤ entry_at 1 *ℤ q1 +ℤ entry_at 2 *ℤ q2)
      (read (read (times (entry_at 0) q0 +ℤ times (entry_at 1) q1) +ℤ times (entry_at 2) q2))
  sum3 = add sum2 (product p.entries.third p.controls.third) (omega (arith, p.room))

pub overflow_mul-result : goal.overflow_mul-result
overflow_mul-result c =
    let p = c.requires in
    mul_fits (entry p p.entries.first) (control p p.controls.first) (omega (arith, p.room))

pub overflow_mul-result-2 : goal.overflow_mul-result-2
overflow_mul-result-2 c =
    let p = c.requires in
    mul_fits (entry p p.entries.second) (control p p.controls.second) (omega (arith, p.room))

pub overflow_add-result : goal.overflow_add-result
overflow_add-result c =
    let p = c.requires in
    add_fits (product p p.entries.first p.controls.first) (product p p.entries.second p.controls.second)
    (omega (arith, p.room))

pub overflow_mul-result-3 : goal.overflow_mul-result-3
overflow_mul-result-3 c =
    let p = c.requires in
    mul_fits (entry p p.entries.third) (control p p.controls.third) (omega (arith, p.room))

pub overflow_add-result-2 : goal.overflow_add-result-2
overflow_add-result-2 c =
    let p = c.requires in
    add_fits (sum2 p) (product p p.entries.third p.controls.third) (omega (arith, p.room))

pub overflow_mul-result-4 : goal.overflow_mul-result-4
overflow_mul-result-4 c =
    let p = c.requires in
    mul_fits (entry p p.entries.fourth) (control p p.controls.fourth) (omega (arith, p.room))

pub overflow_add-result-3 : goal.overflow_add-result-3
overflow_add-result-3 c =
    let p = c.requires in
    add_fits (sum3 p) (product p p.entries.fourth p.controls.fourth) (omega (arith, p.room))

pub returns : goal.returns
unfolding dot
returns c =
    let p = c.requires in
    (add (sum3 p) (product p p.entries.fourth p.controls.fourth) (omega (arith, p.room))).same
