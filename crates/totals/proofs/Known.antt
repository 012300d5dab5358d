-- The totals of the known sheets are those that are listed: one claim, computed from the definitions.
use lib.Dec.{T}
use Rattle.bezier.specs.Exact.{blend, scale, points, value}
use Rattle.decide.specs.Some.{some_below, some_of}
use Rattle.decide.specs.Same.{same_bytes}
use Rattle.decide.specs.Refusal.{first_that}
use Rattle.rounding.specs.Nearest.{nearest}
use Rattle.neighbours.specs.Steps.{far_apart, some_sample, too_long}
use Rattle.cube.specs.Cube.{some_axis, side_out, place}
use Rattle.drawing.specs.Object.{offset, coordinate, exact, cell_of}
use Rattle.drawing.specs.Refusals.{count_out, coordinate_out, steps_too_long, order, draw_verdict}
use Rattle.drawing.specs.Drawing.{row, rows, samples, written, marked, cells, drawn_by, in_turn}
use Rattle.sheet.specs.Field.{is_digit, are_digits, after_blanks, is_number, digits_of, is_bad, decimal, value_of, in_columns}
use Rattle.sheet.specs.Line.{before, lines, is_wrong, some_bad, in_line}
use Rattle.sheet.specs.Sheet.{side_order, mark_out, curve_order, judge_curves, judge_lines, judge}
use Rattle.sheet.specs.Printed.{cube_of, refusal_line}
use Rattle.sheet.specs.Known.{all_print}
use Rattle.totals.specs.Totals.{sum_over, held_from, mark_lines, totals}
use Rattle.totals.specs.Printed.{totals_output}
use Rattle.totals.specs.Known.{known}

pub known_print : T (all_print totals_output known)
unfolding blend scale points value some_below some_of first_that nearest far_apart some_sample too_long
    some_axis side_out place offset coordinate exact cell_of count_out coordinate_out steps_too_long order draw_verdict row rows
    samples written marked cells drawn_by is_digit are_digits after_blanks is_number digits_of is_bad decimal value_of in_columns
    before lines is_wrong some_bad in_line side_order mark_out curve_order judge_curves judge_lines judge in_turn cube_of refusal_line
    same_bytes all_print sum_over held_from mark_lines totals totals_output
known_print = tt
