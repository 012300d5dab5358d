-- A step of the machine from a sample to the next, axis by axis, with the strides of a grid or of a list: after each axis's step
-- the walker stands at the cell after its move.
use Rattle.std.proofs.Common.{◌≡◌, ℕ, suc, ◌*◌, ◌<◌, ◌≤◌, Bool, not, eqb, [], length, ℤ, pos, ap, ◌∙◌, arith, lit≤}
use Rattle.cube.specs.Cube.{Axis, x_axis, y_axis, z_axis, Cell, Inside}
use Rattle.drawing.specs.Object.{offset, scale_of}
use Rattle.drawing.specs.Refusals.{Drawable}
use Rattle.cubic.specs.declared.axis.Axis as machine
use Rattle.cubic.specs.Axis.{step_of}
use Rattle.cubic.specs.Room.{Steps}
use Rattle.cubic.proofs.Fits.{read}
use Rattle.scan.specs.Walker.{Strides, Walker, axis_of, stride_of, grid_strides, list_strides, SmallStrides, step_all}
use Rattle.scan.proofs.Natural.{stride_read}
use Rattle.scan.proofs.Samples.{Walk, At, along, at_next, at_steps, position, grid_stride}
use Rattle.scan.proofs.Samples.{grid_stride_is, grid_stride_small, grid_small, list_stride_is, list_small}
use Rattle.curve.specs.declared.Curve.{Curve}
use Rattle.curve.specs.Curve.{curve_of}
use Rattle.curve.specs.Machine.{doubled_along, start_walker}
use Rattle.curve.proofs.Along.{drawable_in_limits, scale_small, scale_held}
use Rattle.curve.proofs.Begin.{start_at, curve_row}
use Rattle.path.specs.Path.{moved}
use Rattle.path.specs.Step.{moves_next, Moving}
use Rattle.path.proofs.OfCurve as curves
use Rattle.path.proofs.Paths.{moved_inside}
use Rattle.path.proofs.Stands.{Stands, told, stands_x, stands_y, stands_z, grid_stride_positive}

-- The cell of sample i.
abbrev pub cell : Curve → ℕ → Cell
cell c = curves.cell c.steps c.points c.mark c.choice

-- The scale.
abbrev pub N : Curve → ℤ
N c = pos (scale_of (curve_of c))

-- A curve that can be drawn, and strides.
pub record Setting (S : ℕ) (c : Curve) : Type 0 where
  pub twelve : length c.points ≡ 12
  pub drawable : Drawable S (curve_of c)
  pub strides : Strides
  pub stride : Axis → ℕ
  pub is : (a : Axis) → stride_of strides a ≡ pos (stride a)
  pub most : (a : Axis) → stride a ≤ 4096
  pub least : (a : Axis) → 1 ≤ stride a
  pub small : SmallStrides strides

-- In a grid and in a list.
abbrev pub in_grid : {S : ℕ} (c : Curve) → length c.points ≡ 12 → Drawable S (curve_of c) → Setting S c
in_grid {S} c twelve d = record {
  twelve = twelve;
  drawable = d;
  strides = grid_strides S;
  stride = grid_stride S;
  is = grid_stride_is S;
  most = grid_stride_small d.side_most;
  least = grid_stride_positive d.side_least;
  small = grid_small d.side_most;
}

abbrev pub in_list : {S : ℕ} (c : Curve) → length c.points ≡ 12 → Drawable S (curve_of c) → Setting S c
in_list c twelve d = record {
  twelve = twelve;
  drawable = d;
  strides = list_strides;
  stride = λ a. 1;
  is = list_stride_is;
  most = λ a. lit≤ tt;
  least = λ a. lit≤ tt;
  small = list_small;
}

module _ {S : ℕ} {c : Curve} (g : Setting S c) where
  abbrev row : Walk S (curve_of c) g.strides c.steps (along []) (λ a. doubled_along c (offset a))
  row = curve_row c g.twelve g.drawable g.strides g.stride g.is g.most

  -- The walker is at sample i.
  abbrev pub AtSample : ℕ → Walker → Type 0
  AtSample i w = At (curve_of c) g.strides (along []) (λ a. doubled_along c (offset a)) i w

  pub at_0 : {h : Strides} {w : Walker} → h ≡ g.strides → w ≡ start_walker c h → AtSample 0 w
  at_0 e q = rw (q, e) (start_at c g.drawable g.strides)

  pub inside : (i : ℕ) → i ≤ c.steps → Inside S (cell c i)
  inside i l = curves.inside_at c.steps c.points c.mark c.choice g.drawable i l

  pub stands : {i : ℕ} {w : Walker} → i ≤ c.steps → AtSample i w → Stands g.stride (cell c i) w
  unfolding curve_row
  stands l t = record { on = λ a. position row a l (t.on a) }

  -- The scale and the strides as the code holds them.
  module _ {scale : ℤ} {h : Strides} (n-is : scale ≡ pos (c.steps * c.steps * c.steps)) (h-is : h ≡ g.strides) where
    scale_is : read scale ≡ N c
    scale_is = (scale_held (drawable_in_limits c g.twelve g.drawable) n-is).same

    stride_is : (a : Axis) → read (stride_of h a) ≡ stride_of g.strides a
    stride_is a = ap (λ k. read (stride_of k a)) h-is ∙ stride_read (g.small.on a)

    -- There is room for a step
    pub room : (a : Axis) {i : ℕ} {w : Walker} → i ≤ c.steps → AtSample i w → Steps (read scale) (read (stride_of h a)) (axis_of w a)
    room a l t = rw (scale_is, stride_is a) ((at_steps row l t).on a)

    -- and to ask whether the axis moves;
    pub may_move : (a : Axis) {i : ℕ} {w : Walker} → i ≤ c.steps → AtSample i w → Moving (read scale) (axis_of w a)
    may_move a l t = record {
      size = scale_of (curve_of c);
      is = scale_is;
      small = scale_small (drawable_in_limits c g.twelve g.drawable);
      cubic = ((at_steps row l t).on a).cubic;
    }

    -- what is told of a move is told with the scale,
    pub tells : (m : machine.Axis) {t : Bool} → t ≡ moves_next (read scale) m → t ≡ moves_next (N c) m
    tells m e = rw scale_is at e

    -- and the step is this one.
    pub stepped : (a : Axis) (m : machine.Axis) {r : machine.Axis} → r ≡ step_of (read scale) (read (stride_of h a)) m →
        r ≡ step_of (N c) (stride_of g.strides a) m
    stepped a m e = rw (scale_is, stride_is a) at e

  module _ {i : ℕ} {w : Walker} (l : i < c.steps) (t : AtSample i w) where
    abbrev from : Cell
    from = cell c i

    abbrev to : Cell
    to = cell c (suc i)

    abbrev there : Walker
    there = step_all (N c) g.strides w

    next : AtSample (suc i) there
    next = at_next row l t

    standing : Stands g.stride from w
    standing = stands (omega arith) t

    standing_next : Stands g.stride to there
    standing_next = stands l next

    pub inside_x : Inside S (moved x_axis from to)
    inside_x = moved_inside x_axis (inside i (omega arith)) (inside (suc i) l)

    pub inside_y : Inside S (moved y_axis (moved x_axis from to) to)
    inside_y = moved_inside y_axis inside_x (inside (suc i) l)

    pub inside_z : Inside S (moved z_axis (moved y_axis (moved x_axis from to) to) to)
    inside_z = moved_inside z_axis inside_y (inside (suc i) l)

    -- Where the walker stands, one axis after the other, and whether the axis has moved.
    module _ {x : machine.Axis} (ex : x ≡ step_of (N c) (stride_of g.strides x_axis) w.x) where
      pub at_x : Stands g.stride (moved x_axis from to) (record { x = x; y = w.y; z = w.z })
      at_x = rw ex (stands_x standing standing_next)

      pub tells_x : {t : Bool} → t ≡ moves_next (N c) w.x → t ≡ not (eqb (from x_axis) (to x_axis))
      tells_x e = e ∙ told x_axis from to (N c) (g.is x_axis) (g.least x_axis) standing at_x ex

      module _ {y : machine.Axis} (ey : y ≡ step_of (N c) (stride_of g.strides y_axis) w.y) where
        pub at_y : Stands g.stride (moved y_axis (moved x_axis from to) to) (record { x = x; y = y; z = w.z })
        at_y = rw ey (stands_y at_x standing_next)

        pub tells_y : {t : Bool} → t ≡ moves_next (N c) w.y → t ≡ not (eqb (moved x_axis from to y_axis) (to y_axis))
        tells_y e = e ∙ told y_axis (moved x_axis from to) to (N c) (g.is y_axis) (g.least y_axis) at_x at_y ey

        module _ {z : machine.Axis} (ez : z ≡ step_of (N c) (stride_of g.strides z_axis) w.z) where
          pub at_z : Stands g.stride (moved z_axis (moved y_axis (moved x_axis from to) to) to) (record { x = x; y = y; z = z })
          at_z = rw ez (stands_z at_y standing_next)

          pub tells_z : {t : Bool} → t ≡ moves_next (N c) w.z →
              t ≡ not (eqb (moved y_axis (moved x_axis from to) to z_axis) (to z_axis))
          tells_z e =
              e ∙ told z_axis (moved y_axis (moved x_axis from to) to) to (N c) (g.is z_axis) (g.least z_axis) at_y at_z ez

          pub at_next_sample : AtSample (suc i) (record { x = x; y = y; z = z })
          at_next_sample = rw (ex, ey, ez) next
