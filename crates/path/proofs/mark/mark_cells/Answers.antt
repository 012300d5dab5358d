-- `mark_cells` meets its contract: after i steps the walker stands at sample i, and the path up to there is marked.
use Rattle.std.proofs.Common.{◌≡◌, ℕ, suc, ◌+◌, ◌*◌, ◌<◌, ◌≤◌, Bool, cond, not, eqb, List, [], ◌∷◌, ◌++◌, map, length, get_or, ℤ, pos, sym, refl, ap, ◌∙◌, add-one, arith, lit<, length-append, length-set, rules}
use mir.Val.{bool_byte}
use Rattle.cube.specs.Cube.{Axis, x_axis, y_axis, z_axis, Cell, Inside, place, volume}
use Rattle.cube.proofs.Places.{place_below}
use Rattle.drawing.specs.declared.Choice.{Choice}
use Rattle.drawing.specs.Refusals.{Drawable}
use Rattle.drawing.specs.Drawing.{marked, cells}
use Rattle.drawing.specs.NewCells.{unmarked_cells}
use Rattle.drawing.proofs.Accepted.{draw_accepted}
use Rattle.drawing.proofs.Marked.{marked_at}
use Rattle.drawing.proofs.NewCells.{unmarked_at_most}
use Rattle.cubic.specs.declared.axis.Axis as machine
use Rattle.cubic.specs.Axis.{step_of}
use Rattle.cubic.specs.Room.{Steps}
use Rattle.cubic.proofs.Fits.{read}
use Rattle.scan.specs.declared.answer.Drawn.{Drawn}
use Rattle.scan.specs.Walker.{Strides, Walker, axis_of, stride_of, grid_strides, HasPlace, place_of}
use Rattle.scan.proofs.Natural.{cube_grows}
use Rattle.scan.proofs.Samples.{grid_stride, grid_small}
use Rattle.scan.proofs.Written.{counted, one_more}
use Rattle.curve.specs.declared.Curve.{Curve}
use Rattle.curve.specs.Curve.{curve_of}
use Rattle.curve.specs.Machine.{start_walker}
use Rattle.curve.proofs.Along.{drawable_in_limits}
use Rattle.path.specs.Path.{moved, move, moves, path, path_length}
use Rattle.path.specs.Step.{moves_next, Moving}
use Rattle.path.proofs.OfCurve as curves
use Rattle.path.proofs.Stands.{Stands, stands_place}
use Rattle.path.proofs.Steps.{cell, N, Setting, in_grid, AtSample, at_0, inside, stands, room, may_move, tells, stepped}
use Rattle.path.proofs.Steps.{inside_x, inside_y, inside_z, at_x, at_y, at_z, tells_x, tells_y, tells_z, at_next_sample}
use Rattle.path.proofs.Legs.{Leg, leg_append, leg_length, leg_of}
use Rattle.path.proofs.Paths.{move_short}
use Rattle.path.proofs.mark.mark_cells.Invariants.{SoFar, asked, cells_to, more}
use Rattle.path.proofs.mark.mark_cells.Goals as goal

-- What `mark_moved` asks for, and what it says then.
abbrev Asks : Walker → ℕ → List ℕ → Drawn → Type 0
Asks w mark grid drawn =
    HasPlace w × ((place_of w < length grid) × ((1 ≤ mark) × (drawn.answer ≤ 2000) × (drawn.new_cells ≤ 300000)))

abbrev Says : Choice → ℕ → Bool → Walker → List ℕ → Drawn → List ℕ → Drawn → Type 0
Says choice mark t w grid drawn gridNow drawnNow =
    (drawnNow.answer ≡ drawn.answer + cond t 1 0) ×
    (drawnNow.new_cells + unmarked_cells gridNow ≡ drawn.new_cells + unmarked_cells grid) ×
    (gridNow ≡ marked choice mark (cond t (place_of w ∷ []) []) grid)

-- Sample 0.
module _ {S : ℕ} (c : Curve) (twelve : length c.points ≡ 12) (d : Drawable S (curve_of c)) where
  abbrev g : Setting S c
  g = in_grid c twelve d

  module _ {h : Strides} {w : Walker} (h-is : h ≡ grid_strides S) (w-is : w ≡ start_walker c h) where
    starts_at : AtSample g 0 w
    starts_at = at_0 g h-is w-is

    starts : Stands (grid_stride S) (cell c 0) w
    starts = stands g (omega arith) starts_at

    begins : {len : ℕ} → len ≡ volume S → HasPlace w × (place_of w < len)
    begins e = asked d.side_most (inside g 0 (omega arith)) starts e

    abbrev first_place : ℕ
    first_place = place S (cell c 0)

    -- The first cell is marked.
    module _ (choice : Choice) (visible : 1 ≤ c.mark) (grid : List ℕ) {gridNow : List ℕ} (whole : length grid ≡ volume S) {at : ℕ}
        (at-is : at ≡ place_of w) {new : Bool} (value : new ≡ eqb (get_or grid at 0) 0)
        (after : gridNow ≡ marked_at choice c.mark grid at) where
      place_is : at ≡ first_place
      place_is = at-is ∙ stands_place d.side_most (inside g 0 (omega arith)) starts

      first_mark : gridNow ≡ marked_at choice c.mark grid first_place
      first_mark = after ∙ ap (marked_at choice c.mark grid) place_is

      first_size : length gridNow ≡ volume S
      first_size = ap length first_mark ∙ length-set grid first_place _ ∙ whole

      first_new : bool_byte new + unmarked_cells gridNow ≡ unmarked_cells grid
      first_new =
          ap (λ g. bool_byte new + unmarked_cells g) first_mark ∙
          one_more c.mark choice visible grid first_place (rw whole (place_below S _ (inside g 0 (omega arith)))) new
          (value ∙ ap (λ p. eqb (get_or grid p 0) 0) place_is)

      none : SoFar S c choice gridNow (record { answer = 1; new_cells = bool_byte new }) 0 w gridNow (record { answer = 1; new_cells = bool_byte new })
      unfolding marked
      none =
          let e = curves.path_first c.steps c.points c.mark c.choice in
          let most : volume S ≤ 64 * 64 * 64 = cube_grows d.side_most in
          record {
            within = omega arith;
            at = starts_at;
            answer = rw e refl;
            fewer = refl;
            marks = λ g f. rw e f;
            few = omega (arith, (counted new).1, unmarked_at_most gridNow, first_size, most);
            size = first_size;
          }

  -- What the loop's calls ask for and say, with the scale and the strides that the code holds.
  module _ {scale : ℤ} {h : Strides} (n-is : scale ≡ pos (c.steps * c.steps * c.steps)) (h-is : h ≡ grid_strides S)
      {choice : Choice} {grid₀ grid : List ℕ} {drawn₀ drawn : Drawn} {i : ℕ} {w : Walker}
      (s : SoFar S c choice grid₀ drawn₀ i w grid drawn) where
    may_ask : (a : Axis) → Moving (read scale) (axis_of w a)
    may_ask a = may_move g n-is h-is a s.within s.at

    may_step : (a : Axis) → Steps (read scale) (read (stride_of h a)) (axis_of w a)
    may_step a = room g n-is h-is a s.within s.at

    abbrev from : Cell
    from = cell c i

    abbrev to : Cell
    to = cell c (suc i)

    abbrev after_x : Cell
    after_x = moved x_axis from to

    abbrev after_y : Cell
    after_y = moved y_axis after_x to

    module _ (visible : 1 ≤ c.mark) (l : i < c.steps) where
      -- What `mark_moved` asks for.
      may_mark : {p : Cell} {v : Walker} (grid₁ : List ℕ) (drawn₁ : Drawn) → Inside S p → Stands (grid_stride S) p v →
          length grid₁ ≡ length grid → drawn₁.answer ≤ drawn.answer + 2 →
          drawn₁.new_cells + unmarked_cells grid₁ ≡ drawn.new_cells + unmarked_cells grid →
          Asks v c.mark grid₁ drawn₁
      may_mark grid₁ drawn₁ at v size answer fewer =
          let p = asked d.side_most at v (size ∙ s.size) in
          let most = curves.length_at_most c.steps c.points c.mark c.choice i in (
            p.0,
            (
              p.1,
              (
                visible,
                omega (arith, answer, s.answer, most, l, d.count_most 0 (lit< tt)),
                omega (arith, fewer, s.few),
              ),
            ),
          )

      -- After the step of x the walker stands at the cell of x's move,
      module _ {x : machine.Axis} {tx : Bool} (sx : x ≡ step_of (read scale) (read (stride_of h x_axis)) w.x)
          (ax : tx ≡ moves_next (read scale) w.x) where
        ex : x ≡ step_of (N c) (stride_of (grid_strides S) x_axis) w.x
        ex = stepped g n-is h-is x_axis w.x sx

        on_x : Stands (grid_stride S) after_x (record { x = x; y = w.y; z = w.z })
        on_x = at_x g l s.at ex

        in_x : Inside S after_x
        in_x = inside_x g l s.at

        told_x : tx ≡ not (eqb (from x_axis) (to x_axis))
        told_x = tells_x g l s.at ex (tells g n-is h-is w.x ax)

        asks_x : Asks (record { x = x; y = w.y; z = w.z }) c.mark grid drawn
        asks_x = may_mark grid drawn in_x on_x refl (omega arith) refl

        -- which is marked;
        module _ {gridX : List ℕ} (drawnX : Drawn)
            (saysX : Says choice c.mark tx (record { x = x; y = w.y; z = w.z }) grid drawn gridX drawnX) where
          leg_x : Leg S c.mark choice (move x_axis from to) grid drawn gridX drawnX
          leg_x = leg_of S c.mark choice x_axis from to told_x (stands_place d.side_most in_x on_x) saysX.0 saysX.1 saysX.2

          -- so after y,
          module _ {y : machine.Axis} {ty : Bool} (sy : y ≡ step_of (read scale) (read (stride_of h y_axis)) w.y)
              (ay : ty ≡ moves_next (read scale) w.y) where
            ey : y ≡ step_of (N c) (stride_of (grid_strides S) y_axis) w.y
            ey = stepped g n-is h-is y_axis w.y sy

            on_y : Stands (grid_stride S) after_y (record { x = x; y = y; z = w.z })
            on_y = at_y g l s.at ex ey

            in_y : Inside S after_y
            in_y = inside_y g l s.at

            told_y : ty ≡ not (eqb (after_x y_axis) (to y_axis))
            told_y = tells_y g l s.at ex ey (tells g n-is h-is w.y ay)

            asks_y : Asks (record { x = x; y = y; z = w.z }) c.mark gridX drawnX
            asks_y =
                may_mark gridX drawnX in_y on_y (leg_length leg_x)
                (omega (arith, leg_x.answer, move_short x_axis from to)) leg_x.fewer

            module _ {gridY : List ℕ} (drawnY : Drawn)
                (saysY : Says choice c.mark ty (record { x = x; y = y; z = w.z }) gridX drawnX gridY drawnY) where
              leg_y : Leg S c.mark choice (move x_axis from to ++ move y_axis after_x to) grid drawn gridY drawnY
              leg_y =
                  leg_append leg_x
                  (leg_of S c.mark choice y_axis after_x to told_y (stands_place d.side_most in_y on_y) saysY.0 saysY.1 saysY.2)

              -- and after z.
              module _ {z : machine.Axis} {tz : Bool} (sz : z ≡ step_of (read scale) (read (stride_of h z_axis)) w.z)
                  (az : tz ≡ moves_next (read scale) w.z) where
                ez : z ≡ step_of (N c) (stride_of (grid_strides S) z_axis) w.z
                ez = stepped g n-is h-is z_axis w.z sz

                on_z : Stands (grid_stride S) (moved z_axis after_y to) (record { x = x; y = y; z = z })
                on_z = at_z g l s.at ex ey ez

                in_z : Inside S (moved z_axis after_y to)
                in_z = inside_z g l s.at

                told_z : tz ≡ not (eqb (after_y z_axis) (to z_axis))
                told_z = tells_z g l s.at ex ey ez (tells g n-is h-is w.z az)

                asks_z : Asks (record { x = x; y = y; z = z }) c.mark gridY drawnY
                asks_z =
                    may_mark gridY drawnY in_z on_z (leg_length leg_y)
                    (omega (
                      arith,
                      leg_y.answer,
                      length-append (move x_axis from to) (move y_axis after_x to),
                      move_short x_axis from to,
                      move_short y_axis after_x to,
                    ))
                    leg_y.fewer

                module _ {gridZ : List ℕ} (drawnZ : Drawn)
                    (saysZ : Says choice c.mark tz (record { x = x; y = y; z = z }) gridY drawnY gridZ drawnZ) where
                  leg_z : Leg S c.mark choice (moves from to) grid drawn gridZ drawnZ
                  unfolding moves
                  leg_z =
                      leg_append leg_y
                      (leg_of S c.mark choice z_axis after_y to told_z (stands_place d.side_most in_z on_z) saysZ.0 saysZ.1 saysZ.2)

                  again : SoFar S c choice grid₀ drawn₀ (suc i) (record { x = x; y = y; z = z }) gridZ drawnZ
                  again = more c s l (at_next_sample g l s.at ex ey ez) leg_z

pub grid_strides-h-requires : goal.grid_strides-h-requires
grid_strides-h-requires c = ((draw_accepted _ _ _).0 c.requires).0.side_most

pub cubed-scale-requires : goal.cubed-scale-requires
cubed-scale-requires c = ((draw_accepted _ _ _).0 c.requires).0.count_most 0 (lit< tt)

pub start_walker-w-requires : goal.start_walker-w-requires
start_walker-w-requires c =
    let d = ((draw_accepted _ _ _).0 c.requires).0 in
    record {
      in_limits = drawable_in_limits _ (search rules) d;
      small_strides = rw c.grid_strides-h.ensures (grid_small d.side_most);
    }

pub place-requires : goal.place-requires
place-requires c =
    let r = (draw_accepted _ _ _).0 c.requires in
    (begins c.args.curve (search rules) r.0 c.grid_strides-h.ensures c.start_walker-w.ensures r.1).0

pub mark_cell-requires : goal.mark_cell-requires
mark_cell-requires c =
    let r = (draw_accepted _ _ _).0 c.requires in
    rw c.place.ensures (begins c.args.curve (search rules) r.0 c.grid_strides-h.ensures c.start_walker-w.ensures r.1).1

pub loop-init : goal.loop-init
loop-init c =
    let r = (draw_accepted _ _ _).0 c.requires in
    rw c.from-first.ensures (none c.args.curve (search rules) r.0 c.grid_strides-h.ensures c.start_walker-w.ensures c.args.choice r.2 c.args.grid.now r.1
    c.place.ensures c.mark_cell.ensures.value c.mark_cell.ensures.grid_after)

-- Sample by sample.
pub moves-x_moves-requires : goal.moves-x_moves-requires
moves-x_moves-requires c =
    let r = (draw_accepted _ _ _).0 c.requires in
    may_ask c.args.curve (search rules) r.0 c.cubed-scale.ensures c.grid_strides-h.ensures c.loop.invariant x_axis

pub advance-w-requires : goal.advance-w-requires
advance-w-requires c =
    let r = (draw_accepted _ _ _).0 c.requires in
    record {
      steps = may_step c.args.curve (search rules) r.0 c.cubed-scale.ensures c.grid_strides-h.ensures c.loop.invariant x_axis;
      moved_value = c.moves-x_moves.ensures;
    }

pub mark_moved-drawn-requires : goal.mark_moved-drawn-requires
mark_moved-drawn-requires c =
    let r = (draw_accepted _ _ _).0 c.requires in
    let a =
    asks_x c.args.curve (search rules) r.0 c.cubed-scale.ensures c.grid_strides-h.ensures c.loop.invariant r.2 (search rules)
    c.advance-w.ensures c.moves-x_moves.ensures in
    record { has_place = a.0; w_in_bounds = a.1.0; le_mark = a.1.1 }

pub moves-y_moves-requires : goal.moves-y_moves-requires
moves-y_moves-requires c =
    let r = (draw_accepted _ _ _).0 c.requires in
    may_ask c.args.curve (search rules) r.0 c.cubed-scale.ensures c.grid_strides-h.ensures c.loop.invariant y_axis

pub advance-w-requires-in-loop : goal.advance-w-requires-in-loop
advance-w-requires-in-loop c =
    let r = (draw_accepted _ _ _).0 c.requires in
    record {
      steps = may_step c.args.curve (search rules) r.0 c.cubed-scale.ensures c.grid_strides-h.ensures c.loop.invariant y_axis;
      moved_value = c.moves-y_moves.ensures;
    }

pub mark_moved-drawn-requires-in-loop : goal.mark_moved-drawn-requires-in-loop
mark_moved-drawn-requires-in-loop c =
    let r = (draw_accepted _ _ _).0 c.requires in
    let x = c.mark_moved-drawn.ensures in
    let a =
    asks_y c.args.curve (search rules) r.0 c.cubed-scale.ensures c.grid_strides-h.ensures c.loop.invariant r.2 (search rules)
    c.advance-w.ensures c.moves-x_moves.ensures c.mark_moved-drawn.result (x.answer_value, x.grid_after, x.grid_after_2)
    c.advance-w-in-loop.ensures c.moves-y_moves.ensures in
    record { has_place = a.0; w_in_bounds = a.1.0; le_mark = a.1.1 }

pub moves-z_moves-requires : goal.moves-z_moves-requires
moves-z_moves-requires c =
    let r = (draw_accepted _ _ _).0 c.requires in
    may_ask c.args.curve (search rules) r.0 c.cubed-scale.ensures c.grid_strides-h.ensures c.loop.invariant z_axis

pub advance-w-requires-in-loop-2 : goal.advance-w-requires-in-loop-2
advance-w-requires-in-loop-2 c =
    let r = (draw_accepted _ _ _).0 c.requires in
    record {
      steps = may_step c.args.curve (search rules) r.0 c.cubed-scale.ensures c.grid_strides-h.ensures c.loop.invariant z_axis;
      moved_value = c.moves-z_moves.ensures;
    }

pub mark_moved-drawn-requires-in-loop-2 : goal.mark_moved-drawn-requires-in-loop-2
mark_moved-drawn-requires-in-loop-2 c =
    let r = (draw_accepted _ _ _).0 c.requires in
    let x = c.mark_moved-drawn.ensures in
    let y = c.mark_moved-drawn-in-loop.ensures in
    let a =
    asks_z c.args.curve (search rules) r.0 c.cubed-scale.ensures c.grid_strides-h.ensures c.loop.invariant r.2 (search rules)
    c.advance-w.ensures c.moves-x_moves.ensures c.mark_moved-drawn.result (x.answer_value, x.grid_after, x.grid_after_2)
    c.advance-w-in-loop.ensures c.moves-y_moves.ensures c.mark_moved-drawn-in-loop.result (y.answer_value, y.grid_after, y.grid_after_2)
    c.advance-w-in-loop-2.ensures c.moves-z_moves.ensures in
    record { has_place = a.0; w_in_bounds = a.1.0; le_mark = a.1.1 }

pub loop-preserved : goal.loop-preserved
loop-preserved c =
    let r = (draw_accepted _ _ _).0 c.requires in
    let x = c.mark_moved-drawn.ensures in
    let y = c.mark_moved-drawn-in-loop.ensures in
    let z = c.mark_moved-drawn-in-loop-2.ensures in
    rw add-one
    (again c.args.curve (search rules) r.0 c.cubed-scale.ensures c.grid_strides-h.ensures c.loop.invariant r.2 (search rules)
    c.advance-w.ensures c.moves-x_moves.ensures c.mark_moved-drawn.result (x.answer_value, x.grid_after, x.grid_after_2)
    c.advance-w-in-loop.ensures c.moves-y_moves.ensures c.mark_moved-drawn-in-loop.result (y.answer_value, y.grid_after, y.grid_after_2)
    c.advance-w-in-loop-2.ensures c.moves-z_moves.ensures c.mark_moved-drawn-in-loop-2.result (z.answer_value, z.grid_after, z.grid_after_2))

pub shape_of-grid : goal.shape_of-grid
shape_of-grid c =
    let size = c.loop.invariant.size ∙ sym ((draw_accepted _ _ _).0 c.requires).1 in
    search rules

pub returns : goal.returns
unfolding path_length
returns c =
    let r = (draw_accepted _ _ _).0 c.requires in
    let o : Curve = c.args.curve in
    let twelve : length o.points ≡ 12 = search rules in
    let e : c.loop.counter ≡ o.steps = omega (arith, c.loop.invariant.within, c.loop-test.false) in
    let all : path (cells_to o c.loop.counter) ≡ path (cells (curve_of o)) =
    ap (λ i. path (cells_to o i)) e ∙ ap path (sym (curves.all_cells o.steps o.points o.mark o.choice)) in
    let m = c.mark_cell.ensures in
    record {
      answer_value = c.loop.invariant.answer ∙ ap length all;
      grid_after =
          c.loop.invariant.fewer ∙
          rw c.from-first.ensures (first_new o twelve r.0 c.grid_strides-h.ensures c.start_walker-w.ensures c.args.choice r.2 c.args.grid.now r.1
          c.place.ensures m.value m.grid_after);
      grid_after_2 =
          c.loop.invariant.marks c.args.grid.now
          (first_mark o twelve r.0 c.grid_strides-h.ensures c.start_walker-w.ensures c.args.choice r.2 c.args.grid.now r.1
          c.place.ensures m.value m.grid_after) ∙
          ap (λ cs. marked c.args.choice o.mark (map (place c.args.side) cs) c.args.grid.now) all;
    }
