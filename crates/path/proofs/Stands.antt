-- The machine axis by axis. A walker stands at a cell where each position is the coordinate times the stride. One axis after
-- another taken from the walker at the next sample, it stands at the cells of the moves.
use Rattle.std.proofs.Common.{◌≡◌, ℕ, ◌+◌, ◌*◌, ◌≤◌, Bool, true, false, cond, not, ◌||◌, eqb, ℤ, pos, ◌+ℤ◌, ◌-ℤ◌, nat_abs, sym, ap, ◌∙◌, le_refl, mul-le-mul, le_antisymm, arith}
use mathlib.Core.Path.{fun_ext}
use native.Mathlib.Nat.{le_of_mul-le-mul_left}
use lib.Signed.{lt_z, le_z}
use Rattle.decide.proofs.Truth.{equal, true_of, false_of}
use Rattle.cube.specs.Cube.{Axis, x_axis, y_axis, z_axis, Cell, Inside, place}
use Rattle.drawing.specs.Object.{offset}
use Rattle.integers.proofs.Difference.{zval}
use Rattle.cubic.specs.declared.axis.Axis as machine
use Rattle.cubic.specs.Differences.{next_of}
use Rattle.cubic.specs.Axis.{with_value, settle_of, step_of}
use Rattle.scan.specs.Walker.{Walker, axis_of, HasPlace, place_of, ByteCell, cell_of_walker}
use Rattle.scan.proofs.Samples.{grid_stride, grid_stride_small}
use Rattle.path.specs.Path.{moved}
use Rattle.path.specs.Step.{moves_next}
use Rattle.path.proofs.Paths.{moved_there}

-- The walker stands at a cell.
pub record Stands (stride : Axis → ℕ) (c : Cell) (w : Walker) : Type 0 where
  pub on : (a : Axis) → (axis_of w a).at ≡ pos (stride a * c a)

-- One axis taken from a walker at another cell.
module _ {stride : Axis → ℕ} {c d : Cell} {v w : Walker} (s : Stands stride c v) (t : Stands stride d w) where
  pub stands_x : Stands stride (moved x_axis c d) (record { x = w.x; y = v.y; z = v.z })
  unfolding moved offset
  stands_x = record { on = on }
    where
      on : (a : Axis) → (axis_of (record { x = w.x; y = v.y; z = v.z }) a).at ≡ pos (stride a * moved x_axis c d a)
      on x_axis = t.on x_axis
      on y_axis = s.on y_axis
      on z_axis = s.on z_axis

  pub stands_y : Stands stride (moved y_axis c d) (record { x = v.x; y = w.y; z = v.z })
  unfolding moved offset
  stands_y = record { on = on }
    where
      on : (a : Axis) → (axis_of (record { x = v.x; y = w.y; z = v.z }) a).at ≡ pos (stride a * moved y_axis c d a)
      on x_axis = s.on x_axis
      on y_axis = t.on y_axis
      on z_axis = s.on z_axis

  pub stands_z : Stands stride (moved z_axis c d) (record { x = v.x; y = v.y; z = w.z })
  unfolding moved offset
  stands_z = record { on = on }
    where
      on : (a : Axis) → (axis_of (record { x = v.x; y = v.y; z = w.z }) a).at ≡ pos (stride a * moved z_axis c d a)
      on x_axis = s.on x_axis
      on y_axis = s.on y_axis
      on z_axis = t.on z_axis

-- A position after a move up, and after one down.
up : (p k q : ℕ) → pos p +ℤ pos k ≡ pos q → q ≡ p + k
up p k q = simp zval (omega arith)

down : (p k q : ℕ) → pos p -ℤ pos k ≡ pos q → p ≡ q + k
down p k q = simp zval (omega arith)

same : (p q : ℕ) → pos p ≡ pos q → p ≡ q
same p q = simp zval (omega arith)

-- An axis moves with its next step where its coordinate does.
pub moved_test : (s : ℤ) (m : machine.Axis) (k c d : ℕ) → 1 ≤ k → m.at ≡ pos (k * c) → (step_of s (pos k) m).at ≡ pos (k * d) →
    moves_next s m ≡ not (eqb c d)
unfolding moves_next step_of settle_of
moved_test s m k c d h e f =
    let v : ℤ = (next_of m.cubic).value in
    by_tests (lt_z s v) (le_z v (pos 0 -ℤ s)) f
  where
    differ : ¬ (c ≡ d) → true ≡ not (eqb c d)
    differ n = rw (false_of (eqb c d) (λ t. n ((equal c d).0 t)))

    by_tests : (b₁ b₂ : Bool) →
        (cond {A = machine.Axis} b₁
        (record { at = m.at +ℤ pos k; cubic = with_value ((next_of m.cubic).value -ℤ (s +ℤ s)) (next_of m.cubic) })
        (cond b₂
        (record { at = m.at -ℤ pos k; cubic = with_value ((next_of m.cubic).value +ℤ (s +ℤ s)) (next_of m.cubic) })
        (record { at = m.at; cubic = next_of m.cubic }))).at ≡ pos (k * d) →
        (b₁ || b₂) ≡ not (eqb c d)
    by_tests true b₂ g =
        differ (λ q. omega (arith, up (k * c) k (k * d) (rw e at g), ap (k *◌) q, h))
    by_tests false true g =
        differ (λ q. omega (arith, down (k * c) k (k * d) (rw e at g), ap (k *◌) q, h))
    by_tests false false g =
        let z = same (k * c) (k * d) (sym e ∙ g) in
        let w : c ≡ d = le_antisymm (le_of_mul-le-mul_left (rw z (le_refl (k * d))) h) (le_of_mul-le-mul_left (rw z (le_refl (k * d))) h) in
        rw (true_of (eqb c d) ((equal c d).1 w))

-- So the code tells whether an axis moves, where v stands before the move and w after it.
pub told : {stride : Axis → ℕ} (a : Axis) (from to : Cell) {v w : Walker} (s : ℤ) {h : ℤ} → h ≡ pos (stride a) → 1 ≤ stride a →
    Stands stride from v → Stands stride (moved a from to) w → axis_of w a ≡ step_of s h (axis_of v a) →
    moves_next s (axis_of v a) ≡ not (eqb (from a) (to a))
told {stride} a from to {v} {w} s is l p t e =
    moved_test s (axis_of v a) (stride a) (from a) (to a) l (p.on a)
    (sym (ap (λ m. m.at) (e ∙ ap (λ k. step_of s k (axis_of v a)) is)) ∙ t.on a ∙
    ap (λ k. pos (stride a * k)) (moved_there from to a))

-- A grid's strides are not 0.
pub grid_stride_positive : {S : ℕ} → 2 ≤ S → (a : Axis) → 1 ≤ grid_stride S a
unfolding grid_stride
grid_stride_positive h x_axis = omega arith
grid_stride_positive h y_axis = omega arith
grid_stride_positive h z_axis = omega (arith, mul-le-mul h h)

-- In a grid its place is the cell's.
module _ {S : ℕ} {c : Cell} {w : Walker} (most : S ≤ 64) (inside : Inside S c) (s : Stands (grid_stride S) c w) where
  pub stands_place : place_of w ≡ place S c
  unfolding place_of place grid_stride
  stands_place = rw (s.on x_axis, s.on y_axis, s.on z_axis) (omega arith)

  pub stands_has_place : HasPlace w
  stands_has_place = record {
    position = λ a. grid_stride S a * c a;
    is = s.on;
    small = λ a.
        let below : c a ≤ 63 = omega (arith, inside a) in
        omega (arith, mul-le-mul (grid_stride_small most a) below);
  }

-- In a listing its coordinates are the cell's.
module _ {S : ℕ} {c : Cell} {w : Walker} (most : S ≤ 64) (inside : Inside S c) (s : Stands (λ a. 1) c w) where
  at : (a : Axis) → (axis_of w a).at ≡ pos (c a)
  at a = s.on a ∙ ap pos (omega arith)

  pub stands_byte : ByteCell w
  stands_byte a = record { byte = c a; is = at a; small = omega (arith, inside a) }

  pub stands_cell : cell_of_walker w ≡ c
  unfolding cell_of_walker
  stands_cell = fun_ext (λ a. ap nat_abs (at a))
