-- `draw_lines` meets its contract: what is left to draw, drawn into the cube so far, gives the sheet's cube, and its new
-- cells with those counted so far the sheet's sum.
use Rattle.std.proofs.Common.{◌≡◌, sym, ◌∙◌, ap, List, ◌++◌, ℕ, ◌+◌, ◌*◌, ◌≤◌, ◌<◌, length, take, drop, Some, None, length-append, length-drop, add-one, arith}
use native.Mathlib.Nat.{mul-le-mul}
use mathlib.Core.Bool.{false≢true}
use lib.Seq.{take_all, take_at, drop_at, drop-drop}
use Rattle.std.specs.Slice.Iter.{chunks_exact_rest, chunks_exact_size}
use Rattle.decide.specs.Refusal.{accepted}
use Rattle.drawing.specs.Drawing.{drawn}
use Rattle.drawing.specs.Refusals.{draw_verdict}
use Rattle.drawing.specs.NewCells.{unmarked_cells}
use Rattle.curve.specs.declared.Curve.{Curve}
use Rattle.curve.specs.Curve.{curve_of}
use Rattle.sheet.specs.Sheet.{stroke_of, object_of}
use Rattle.sheet_lines.specs.Read.{read_line}
use Rattle.sheet_lines.proofs.Fits.{read_fits, read_curve}
use Rattle.sheet_cube.proofs.Judged.{passes_fits, passes_draws}
use Rattle.sheet_cube.proofs.Drawing.{GoodSheet, good_sheet, DrawnSoFar, none_drawn, all_drawn, all_counted, line, sum_at_most, one_more}
use Rattle.sheet_cube.proofs.Drawing.{rest, to_come, whole_buffer, line_passes, line_there, line_ends}
use Rattle.sheet_cube.proofs.draw.draw_lines.Goals as goal

module _ {input : List ℕ} {S n : ℕ} (sheet : GoodSheet input S n) where
  -- No whole line is left: all are drawn.
  all : {k : ℕ} {cube : List ℕ} {new : ℕ} → DrawnSoFar input S k cube new → k ≤ n → length (rest input k) < 71 → k ≡ n
  all {k} d most few =
      let none : k < n → ⊥ = λ h. omega (arith, few, line_ends sheet h d, length-drop (6 + 71 * k) input) in omega (arith, none)

pub slice_bounds-chunks_exact-count : goal.slice_bounds-chunks_exact-count
slice_bounds-chunks_exact-count c = (good_sheet c.args.input.now c.requires.input_value).line_1

pub slice_bounds-chunks_exact-start : goal.slice_bounds-chunks_exact-start
slice_bounds-chunks_exact-start c = (good_sheet c.args.input.now c.requires.input_value).line_1

pub loop-line-init : goal.loop-line-init
loop-line-init c =
    let from = c.into_iter-line-iterator.ensures.into_iter_gives in
    let sheet = good_sheet c.args.input.now c.requires.input_value in (
      rw (c.fill.ensures.after (λ y e. e)) (none_drawn sheet c.args.cube.now c.requires.cube_len),
      omega arith,
      ap chunks_exact_rest from ∙ c.chunks_exact-line-items.ensures.rest ∙
          take_all _ _ (omega (arith, length-drop 6 c.args.input.now)),
      ap chunks_exact_size from ∙ c.chunks_exact-line-items.ensures.size,
    )

-- One more line to draw, of a good sheet.
pub record Next (input : List ℕ) (k : ℕ) (text more : List ℕ) : Type 0 where
  pub cut : rest input k ≡ text ++ more
  pub whole : length text ≡ 71

next_line : {input : List ℕ} {k size : ℕ} {from text more : List ℕ} → from ≡ rest input k → size ≡ 71 →
    (from ≡ text ++ more) × (length text ≡ size) → Next input k text more
next_line left of_71 cut = record { cut = rw left at cut.0; whole = cut.1 ∙ of_71 }

module _ {input : List ℕ} {S n : ℕ} (sheet : GoodSheet input S n) {k : ℕ} {cube : List ℕ} {new : ℕ}
    (so_far : DrawnSoFar input S k cube new) {text more : List ℕ} (next : Next input k text more) where
  there : k < n
  there = to_come sheet so_far (omega (arith, ap length next.cut, length-append text more, next.whole))

  -- The bytes that are read are the line.
  is_line : text ≡ line sheet there so_far
  is_line = sym (take_at text more 71 next.whole) ∙ ap (take 71) (sym next.cut) ∙ line_there sheet there so_far

  left : more ≡ rest input (k + 1)
  left =
      let after : 6 + 71 * k + 71 ≡ 6 + 71 * (k + 1) = omega arith in
      sym (drop_at text more 71 next.whole) ∙ ap (drop 71) (sym next.cut) ∙ drop-drop 71 (6 + 71 * k) input ∙ ap (λ i. drop i input) after

  -- They are read,
  is_read : None ≡ read_line text → ⊥
  is_read e =
      false≢true (read_fits _ e ∙ rw (← is_line) at (passes_fits (line_passes sheet there so_far) sheet.side_most))

  -- as the line's curve.
  module _ (r : Curve) (e : Some r ≡ read_line text) where
    is_curve : curve_of r ≡ object_of (stroke_of (line sheet there so_far))
    is_curve = read_curve _ (rw is_line at e)

    draws : draw_verdict S (length cube) (curve_of r) ≡ accepted
    draws = rw is_curve (passes_draws (line_passes sheet there so_far) so_far.whole)

    -- The stroke is drawn, and its new cells are counted.
    module _ (now : List ℕ) (fresh : ℕ) (draws : now ≡ drawn S (curve_of r) cube)
        (counts : fresh + unmarked_cells now ≡ unmarked_cells cube) where
      drawn_line : now ≡ drawn S (object_of (stroke_of (line sheet there so_far))) cube
      drawn_line = draws ∙ ap (λ o. drawn S o cube) is_curve

      fewer : fresh + unmarked_cells (drawn S (object_of (stroke_of (line sheet there so_far))) cube) ≡ unmarked_cells cube
      fewer = rw drawn_line at counts

      sum_few : new + fresh ≤ 64000
      sum_few =
          let most = sheet.side_most in
          omega (arith, sum_at_most sheet there so_far fresh fewer, mul-le-mul (mul-le-mul most most) most)

      drawn_next : DrawnSoFar input S (k + 1) now (new + fresh)
      drawn_next = rw (add-one k, drawn_line) (one_more sheet there so_far fresh fewer)

pub read_curve-requires : goal.read_curve-requires
read_curve-requires c =
    let i = c.loop-line.invariant in
    omega (arith, c.in-Some.ensures.steps.1.1, i.3)

pub unreachable-requires : goal.unreachable-requires
unreachable-requires c =
    let i = c.loop-line.invariant in
    is_read (good_sheet c.args.input.now c.requires.input_value) i.0 (next_line i.2 i.3 c.in-Some.ensures.steps.1) c.in_default.ensures

pub mark_samples-new_cells-requires : goal.mark_samples-new_cells-requires
mark_samples-new_cells-requires c =
    let i = c.loop-line.invariant in
    draws (good_sheet c.args.input.now c.requires.input_value) i.0 (next_line i.2 i.3 c.in-Some.ensures.steps.1) _
    c.in-Some-read_curve.ensures

pub overflow_add-new_cells : goal.overflow_add-new_cells
overflow_add-new_cells c =
    let i = c.loop-line.invariant in
    let m = c.mark_samples-new_cells.ensures in
    record {
      fits = omega (
        arith,
        sum_few (good_sheet c.args.input.now c.requires.input_value) i.0 (next_line i.2 i.3 c.in-Some.ensures.steps.1) _
            c.in-Some-read_curve.ensures _ _ m.grid_after_2 m.grid_after,
      );
    }

pub loop-line-preserved : goal.loop-line-preserved
loop-line-preserved c =
    let i = c.loop-line.invariant in
    let m = c.mark_samples-new_cells.ensures in
    let sheet = good_sheet c.args.input.now c.requires.input_value in
    let steps = c.in-Some.ensures.steps in
    let next = next_line i.2 i.3 steps.1 in
    rw length-append (
      drawn_next sheet i.0 next _ c.in-Some-read_curve.ensures _ _ m.grid_after_2 m.grid_after,
      omega (arith, there sheet i.0 next),
      left sheet i.0 next,
      steps.0 ∙ i.3,
    )

pub shape_of-cube : goal.shape_of-cube
shape_of-cube c = c.loop-line.invariant.0.whole ∙ sym c.requires.cube_len

pub returns : goal.returns
returns c =
    let sheet = good_sheet c.args.input.now c.requires.input_value in
    let i = c.loop-line.invariant in
    let end = c.in-None.ensures.steps.1.0 in
    let done : length c.loop-line.yielded ≡ c.args.size.curves = all sheet i.0 i.1 (rw (i.2, i.3) at end) in
    let drawn : DrawnSoFar c.args.input.now c.args.size.side c.args.size.curves c.loop-line.cube c.loop-line.new_cells = rw done at i.0 in
    record {
      input_value_2 = all_counted sheet drawn;
      cube_after = all_drawn sheet drawn ∙ whole_buffer sheet c.args.cube.now c.requires.cube_len;
    }
