-- `draw_sheet` meets its contract: the buffer is judged, then the lines, and only then is the cube drawn.
use Rattle.std.proofs.Common.{rules, ◌≡◌, sym, List, ℕ, ◌≤◌, length, take, Err, arith}
use lib.Seq.{length-take-le}
use Rattle.cube.specs.Cube.{volume}
use Rattle.sheet.specs.Sheet.{judge}
use Rattle.sheet_cube.specs.declared.judge.Size.{Size}
use Rattle.sheet_cube.specs.Lines.{sized, found}
use Rattle.sheet_cube.proofs.Drawing.{good_sheet}
use Rattle.sheet_cube.proofs.Called.{buffer_call, refused_call, cube_there, drawn_call}
use Rattle.sheet_cube.proofs.draw_sheet.Goals as goal

pub returns-then-buffer-ne64000 : goal.returns-then-buffer-ne64000
returns-then-buffer-ne64000 c =
    buffer_call c.args.input.now c.args.buffer.now (λ e. omega (arith, e, c.if-buffer-ne64000.true))

-- Where the sheet is good, the buffer holds its cube.
module _ (input buffer : List ℕ) (lent : length buffer ≡ 64000) (size : Size) (judged : sized size.side size.curves ≡ found (judge input)) where
  least : size.side ≤ 40
  least = (good_sheet input (sym judged)).side_most

  there : volume size.side ≤ length buffer
  there = cube_there input buffer lent size (sym judged)

  front : length (take (volume size.side) buffer) ≡ volume size.side
  front = length-take-le (volume size.side) buffer there

pub cells-cells-requires : goal.cells-cells-requires
cells-cells-requires c = least _ _ c.if-buffer-ne64000.false _ c.in_ok-size.ensures

pub slice_bounds-draw_lines-end : goal.slice_bounds-draw_lines-end
slice_bounds-draw_lines-end c = rw c.cells-cells.ensures (there _ _ c.if-buffer-ne64000.false _ c.in_ok-size.ensures)

pub slice_bounds-draw_lines-end-2 : goal.slice_bounds-draw_lines-end-2
slice_bounds-draw_lines-end-2 c = rw c.cells-cells.ensures (sym (front _ _ c.if-buffer-ne64000.false _ c.in_ok-size.ensures))

pub draw_lines-new_cells-requires : goal.draw_lines-new_cells-requires
draw_lines-new_cells-requires c = record {
  input_value = sym c.in_ok-size.ensures;
  cube_len = rw c.cells-cells.ensures (front _ _ c.if-buffer-ne64000.false _ c.in_ok-size.ensures);
}

pub returns-in_err-size : goal.returns-in_err-size
returns-in_err-size c =
    let same : c.from_residual.result ≡ Err c.in_err-size.field-0.0 = search rules in
    rw same (refused_call _ _ c.if-buffer-ne64000.false _ (sym c.in_err-size.ensures))

pub returns : goal.returns
returns c =
    let v = c.cells-cells.ensures in
    let lent = c.if-buffer-ne64000.false in
    rw v (drawn_call _ _ lent c.in_ok-size.size (sym c.in_ok-size.ensures) _
    (rw v at c.draw_lines-new_cells.ensures.cube_after) c.draw_lines-new_cells.ensures.input_value_2)
