-- What a cell owns: the cells of values are in the order of the values, so a value has one cell. From the cell that owns
-- v, a move by at most one leads to the cell that owns any w at most one cell from v.
use mathlib.Core.Path.{◌≡◌}
use Prim.Native.Nat.{ℕ, suc, ◌+◌, ◌*◌, ◌≤◌, ◌<◌}
use native.Mathlib.Nat.{
  le_refl,
  le_antisymm,
  mul-le-mul_right,
  mul-lt-mul_of_pos_right,
  lt_of_mul-lt-mul_left,
  lt_of_mul-lt-mul_right,
  le_of_mul-le-mul_right,
}
use native.Mathlib.Omega.{arith}
use lib.Dec.{T}
use Rattle.rounding.specs.Nearest.{Owns, within_half, AtMostOneApart}
use Rattle.rounding.proofs.Half.{within_half_lem}

module _ {s b c v w : ℕ} where
  -- The cell of a smaller value is at most that of a larger one.
  pub owns_ordered : v ≤ w → Owns s b v → Owns s c w → b ≤ c
  owns_ordered l h k =
      let below = h.above in
      let up_to = k.up_to in
      let less : b < suc c = lt_of_mul-lt-mul_left s {m = b} {n = suc c} (omega arith) in
      omega arith

module _ {s c v : ℕ} where
  -- A value has one cell.
  pub owns_unique : {b : ℕ} → Owns s b v → Owns s c v → b ≡ c
  owns_unique h k = le_antisymm (owns_ordered (le_refl v) h k) (owns_ordered (le_refl v) k h)

  -- It is within half a cell of its cell.
  pub owns_within_half : Owns s c v → T (within_half s c v)
  owns_within_half h =
      let above = h.above in
      (within_half_lem s c v).1 (h.up_to, omega arith)

  -- A value one cell further has the next cell.
  owns_further : Owns s c v → Owns s (suc c) (v + s)
  owns_further h =
      let above = h.above in
      let up_to = h.up_to in
      record { above = omega arith; up_to = omega arith }

-- A value at most one cell above another has a cell at most one above.
pub owns_next : {s b c v w : ℕ} → v ≤ w + s → Owns s b v → Owns s c w → b ≤ suc c
owns_next l h k = owns_ordered l h (owns_further k)

-- One move, from the cell that owns v towards a w at most one cell from v: a cell up where w lies above what the cell owns,
-- a cell down where it lies below, and otherwise none.
module _ {s c v w : ℕ} where
  pub move_up : Owns s c v → AtMostOneApart s v w → 2 * (s * c) + s < 2 * w → Owns s (suc c) w
  move_up h near l =
      let up_to = h.up_to in
      let up = near.up in
      record { above = omega arith; up_to = omega arith }

  pub move_down : Owns s (suc c) v → AtMostOneApart s v w → 2 * w + s ≤ 2 * (s * suc c) → Owns s c w
  move_down h near l =
      let above = h.above in
      let down = near.down in
      record { above = omega arith; up_to = omega arith }

-- A cell that owns p / d owns a / g, if the two fractions are equal.
pub owns_equal : {c p d a g : ℕ} → 0 < d → 0 < g → a * d ≡ p * g → Owns d c p → Owns g c a
owns_equal {c} {p} {d} {a} {g} D G e h =
    let l : 2 * (d * c) * g < (2 * p + d) * g = mul-lt-mul_of_pos_right h.above G in
    let u : 2 * p * g ≤ (2 * (d * c) + d) * g = mul-le-mul_right g h.up_to in
    record {
      above = lt_of_mul-lt-mul_right d {m = 2 * (g * c)} {n = 2 * a + g} (omega arith);
      up_to = le_of_mul-le-mul_right {m = 2 * a} {n = 2 * (g * c) + g} (omega arith) D;
    }
