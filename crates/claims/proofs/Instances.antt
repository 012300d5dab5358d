-- Demand 3 speaks of something: an accepted curve exists, a refused one leaves the grid, a later stroke over an earlier
-- one leaves both marks in view, one that goes under leaves the earlier, a face-to-face curve marks the cells between, cells are
-- new where they were unmarked, a patch with a half in each of two rows has no slit, a solid fills a cube, and one is refused for
-- its steps along v. Computed, in cubes of side 2 and 3. Then a row of a solid, as K12 has one of a patch.
use mathlib.Core.Path.{◌≡◌, refl}
use mathlib.Core.List.{List, [], ◌∷◌, ◌++◌, map}
use Prim.Native.Nat.{ℕ, ◌+◌}
use lib.ListN.{length, replicate}
use Rattle.bezier.specs.Exact.{blend, scale, points, value}
use Rattle.decide.specs.Some.{some_below, some_of}
use Rattle.decide.specs.Refusal.{accepted, refused, first_that}
use Rattle.rounding.specs.Nearest.{nearest}
use Rattle.neighbours.specs.Steps.{far_apart, some_sample, too_long}
use Rattle.cube.specs.Cube.{some_axis, side_out, place}
use Rattle.drawing.specs.declared.Choice.{Choice}
use Rattle.drawing.specs.declared.Choice.TheVariants.{Over, Under}
use Rattle.drawing.specs.Object.{Object, curve, solid, offset, coordinate, exact, cell_of}
use Rattle.drawing.specs.Refusals.{count_out, coordinate_out, steps_too_long, order, draw_verdict}
use Rattle.drawing.specs.Drawing.{row, rows, samples, written, marked, bytes, cells, drawn_by, in_turn}
use Rattle.drawing.specs.NewCells.{unmarked_cells, new_cells}
use Rattle.gaps.specs.Gaps.{gap, gap_after, gap_along, largest_gap}
use Rattle.chosen.specs.Chosen.{refuses_count, first_accepted, chosen, chosen_order}
use Rattle.path.specs.Path.{moved, move, moves, onward, path, path_length}
use Rattle.claims.specs.Demand3.{Call, draw_curve, draw_patch, draw_solid, draw_chosen, draw_path, drawing_by, run}
use Rattle.claims.specs.Demand3.{Accepted}
use Rattle.claims.specs.Known.{sums, along_x}

-- Along x from (0, 0, 0) to (1, 0, 0), and along y from (0, 0, 0) to (0, 1, 0), in one step each.
abbrev call_along_x : Choice → ℕ → Call
call_along_x choice mark = draw_curve 2 1 (0 ∷ 0 ∷ 0 ∷ 0 ∷ 0 ∷ 0 ∷ 1 ∷ 0 ∷ 0 ∷ 1 ∷ 0 ∷ 0 ∷ []) mark choice

abbrev along_y : Choice → ℕ → Call
along_y choice mark = draw_curve 2 1 (0 ∷ 0 ∷ 0 ∷ 0 ∷ 0 ∷ 0 ∷ 0 ∷ 1 ∷ 0 ∷ 0 ∷ 1 ∷ 0 ∷ []) mark choice

-- A cube of side 2 that holds the bytes 1 to 8.
abbrev held : List ℕ
held = 1 ∷ 2 ∷ 3 ∷ 4 ∷ 5 ∷ 6 ∷ 7 ∷ 8 ∷ []

-- An accepted curve.
pub is_accepted : Accepted (length held) (call_along_x Over 100)
unfolding blend scale points value some_below some_of first_that far_apart some_sample too_long some_axis side_out offset coordinate exact
    count_out coordinate_out steps_too_long order draw_verdict
is_accepted = refl

-- Mark 0 is refused, and the grid keeps what it held.
pub refused_leaves : run (call_along_x Over 0 ∷ []) held ≡ held
unfolding blend scale points value some_below some_of first_that far_apart some_sample too_long some_axis side_out offset coordinate exact
    count_out coordinate_out steps_too_long order draw_verdict in_turn run drawn_by
refused_leaves = refl

-- The second stroke takes the cell that both pass; the first keeps its other cell, and every other cell keeps its byte.
pub later_over_earlier : run (call_along_x Over 100 ∷ along_y Over 200 ∷ []) held ≡ 200 ∷ 100 ∷ 200 ∷ 4 ∷ 5 ∷ 6 ∷ 7 ∷ 8 ∷ []
unfolding blend scale points value some_below some_of first_that nearest far_apart some_sample too_long
    some_axis side_out place offset coordinate exact cell_of count_out coordinate_out steps_too_long order draw_verdict row rows samples
    written marked cells drawn_by in_turn run
later_over_earlier = refl

-- From under, the second stroke leaves the cell that both pass to the first, and takes its other one, which is unmarked.
pub under_earlier : run (call_along_x Over 100 ∷ along_y Under 200 ∷ []) (replicate 8 0) ≡ 100 ∷ 100 ∷ 200 ∷ replicate 5 0
unfolding blend scale points value some_below some_of first_that nearest far_apart some_sample too_long
    some_axis side_out place offset coordinate exact cell_of count_out coordinate_out steps_too_long order draw_verdict row rows samples
    written marked cells drawn_by in_turn run
under_earlier = refl

-- With a chosen count the same points are drawn the same, and a record whose mark is 0 is refused.
pub with_a_chosen_count :
    (run (draw_chosen 2 (0 ∷ 0 ∷ 0 ∷ 0 ∷ 0 ∷ 0 ∷ 1 ∷ 0 ∷ 0 ∷ 1 ∷ 0 ∷ 0 ∷ []) 100 Over ∷ []) held ≡ 100 ∷ 100 ∷ 3 ∷ 4 ∷ 5 ∷ 6 ∷ 7 ∷ 8 ∷ []) ×
    (run (draw_chosen 2 (0 ∷ 0 ∷ 0 ∷ 0 ∷ 0 ∷ 0 ∷ 1 ∷ 0 ∷ 0 ∷ 1 ∷ 0 ∷ 0 ∷ []) 0 Over ∷ []) held ≡ held)
unfolding blend scale points value some_below some_of first_that nearest far_apart some_sample too_long
    some_axis side_out place offset coordinate exact cell_of count_out coordinate_out steps_too_long order draw_verdict row rows samples
    written marked cells drawn_by in_turn run gap gap_after gap_along largest_gap refuses_count first_accepted chosen chosen_order
with_a_chosen_count = (refl, refl)

-- From (0, 0, 0) to (1, 1, 1), from corner to corner in one step.
abbrev corners : List ℕ
corners = 0 ∷ 0 ∷ 0 ∷ 0 ∷ 0 ∷ 0 ∷ 1 ∷ 1 ∷ 1 ∷ 1 ∷ 1 ∷ 1 ∷ []

-- The curve marks the two corners. The face-to-face curve marks (1, 0, 0) and (1, 1, 0) between them as well, which is as long as
-- a path of one step can be; from under it leaves the earlier marks.
pub between_corners :
    (run (draw_curve 2 1 corners 100 Over ∷ []) held ≡ 100 ∷ 2 ∷ 3 ∷ 4 ∷ 5 ∷ 6 ∷ 7 ∷ 100 ∷ []) ×
    (run (draw_path 2 1 corners 100 Over ∷ []) held ≡ 100 ∷ 100 ∷ 3 ∷ 100 ∷ 5 ∷ 6 ∷ 7 ∷ 100 ∷ []) ×
    (path_length (curve 1 corners 100 Over) ≡ 4) ×
    (run (call_along_x Over 100 ∷ draw_path 2 1 corners 200 Under ∷ []) (replicate 8 0) ≡ 100 ∷ 100 ∷ 0 ∷ 200 ∷ 0 ∷ 0 ∷ 0 ∷ 200 ∷ [])
unfolding blend scale points value some_below some_of first_that nearest far_apart some_sample too_long
    some_axis side_out place offset coordinate exact cell_of count_out coordinate_out steps_too_long order draw_verdict row rows samples
    written marked cells drawn_by in_turn run moved move moves onward path path_length
between_corners = (refl, refl, refl, refl)

-- From an unmarked cube the first of the two has two new cells, the second, which shares one of its two with the first,
-- one, over or under, and the first once more, with another mark, none; a cell that both samples of a stroke share is new once.
abbrev in_one_cell : Call
in_one_cell = draw_curve 2 1 (1 ∷ 1 ∷ 1 ∷ 1 ∷ 1 ∷ 1 ∷ 1 ∷ 1 ∷ 1 ∷ 1 ∷ 1 ∷ 1 ∷ []) 7 Over

abbrev new_after : List Call → Call → ℕ
new_after calls call = new_cells (run calls (replicate 8 0)) (run (call ∷ []) (run calls (replicate 8 0)))

pub new_by_turns :
    (new_after [] (call_along_x Over 100) ≡ 2) ×
    (new_after (call_along_x Over 100 ∷ []) (along_y Over 200) ≡ 1) ×
    (new_after (call_along_x Over 100 ∷ []) (along_y Under 200) ≡ 1) ×
    (new_after (call_along_x Over 100 ∷ along_y Over 200 ∷ []) (call_along_x Over 101) ≡ 0) ×
    (new_after (call_along_x Over 100 ∷ []) in_one_cell ≡ 1)
unfolding blend scale points value some_below some_of first_that nearest far_apart some_sample too_long
    some_axis side_out place offset coordinate exact cell_of count_out coordinate_out steps_too_long order draw_verdict row rows samples
    written marked cells drawn_by in_turn run unmarked_cells new_cells
new_by_turns = (refl, refl, refl, refl, refl)

-- Two rows of three samples: x is 0, 1/2, 1 and 1, 3/2, 2, y is 0, 1, 2 in both.
abbrev two_rows : Call
two_rows =
    draw_patch 3 2 1
    (0 ∷ 0 ∷ 0 ∷ 0 ∷ 0 ∷ 0 ∷ 1 ∷ 0 ∷ 0 ∷ 1 ∷ 0 ∷ 0 ∷
    0 ∷ 1 ∷ 0 ∷ 0 ∷ 1 ∷ 0 ∷ 1 ∷ 1 ∷ 0 ∷ 1 ∷ 1 ∷ 0 ∷
    1 ∷ 1 ∷ 0 ∷ 1 ∷ 1 ∷ 0 ∷ 2 ∷ 1 ∷ 0 ∷ 2 ∷ 1 ∷ 0 ∷
    1 ∷ 2 ∷ 0 ∷ 1 ∷ 2 ∷ 0 ∷ 2 ∷ 2 ∷ 0 ∷ 2 ∷ 2 ∷ 0 ∷ [])
    9 Over

-- It is drawn, and at y = 0, 1 and 2 the cells of the two rows are next to each other.
pub no_slit : run (two_rows ∷ []) (replicate 27 0) ≡ 9 ∷ 9 ∷ 0 ∷ 9 ∷ 9 ∷ 0 ∷ 0 ∷ 9 ∷ 9 ∷ replicate 18 0
unfolding blend scale points value some_below some_of first_that nearest far_apart some_sample too_long
    some_axis side_out place offset coordinate exact cell_of count_out coordinate_out steps_too_long order draw_verdict row rows samples
    written marked cells drawn_by in_turn run
no_slit = refl

-- Four points along v with these x and y, and with z 0 0 1 1; four times four of them along u, with y 0 0 1 1.
abbrev line : (x y : ℕ) → List ℕ
line x y = x ∷ y ∷ 0 ∷ x ∷ y ∷ 0 ∷ x ∷ y ∷ 1 ∷ x ∷ y ∷ 1 ∷ []

abbrev sheet : (x : ℕ) → List ℕ
sheet x = line x 0 ++ line x 0 ++ line x 1 ++ line x 1

-- The solid of four times sixteen of them along t, with x 0 0 1 1, in one step along each parameter.
abbrev block : Choice → ℕ → Call
block choice mark = draw_solid 2 1 1 1 (sheet 0 ++ sheet 0 ++ sheet 1 ++ sheet 1) mark choice

-- Its eight samples fill the cube of side 2: over, whatever it held; under, but for the two cells that were marked.
pub filled :
    (run (block Over 9 ∷ []) held ≡ replicate 8 9) ×
    (run (call_along_x Over 100 ∷ block Under 9 ∷ []) (replicate 8 0) ≡ 100 ∷ 100 ∷ replicate 6 9) ×
    (new_after (call_along_x Over 100 ∷ []) (block Over 9) ≡ 6)
unfolding blend scale points value some_below some_of first_that nearest far_apart some_sample too_long
    some_axis side_out place offset coordinate exact cell_of count_out coordinate_out steps_too_long order draw_verdict row rows samples
    written marked cells drawn_by in_turn run unmarked_cells new_cells
filled = (refl, refl, refl)

-- Sixteen times four points along v with z 0 0 0 2, and all else 0: nothing moves along t and along u.
abbrev repeated : List ℕ → List ℕ
repeated l = l ++ l ++ l ++ l

abbrev along_v : (n m l : ℕ) → Call
along_v n m l = draw_solid 3 n m l (repeated (repeated (0 ∷ 0 ∷ 0 ∷ 0 ∷ 0 ∷ 0 ∷ 0 ∷ 0 ∷ 0 ∷ 0 ∷ 0 ∷ 2 ∷ []))) 9 Over

-- With four steps along v the last is 74/64 of a cell, and it is refused with 15; with five it is accepted.
pub steps_along_v :
    ((drawing_by (along_v 1 1 4)).verdict 27 ≡ refused 15) ×
    ((drawing_by (along_v 5 5 4)).verdict 27 ≡ refused 15) ×
    Accepted 27 (along_v 1 1 5)
unfolding blend scale points value some_below some_of first_that far_apart some_sample too_long some_axis side_out offset coordinate exact
    count_out coordinate_out steps_too_long order draw_verdict
steps_along_v = (refl, refl, refl)

-- The solid with x of g(i, j, k) = i + j + k, K12's patch four times, moved by i, with n = m = l = 4. In a cube of side 16 it is
-- accepted. Along t at (j, k) = (2, 1) x is 9/4, 12/4, 15/4, 18/4 and 21/4, and the half goes down.
abbrev sums_of_three : Object
sums_of_three = solid 4 4 4 (along_x (sums ++ map (λ x. 1 + x) sums ++ map (λ x. 2 + x) sums ++ map (λ x. 3 + x) sums)) 1 Over

pub row_of_a_solid :
    (draw_verdict 16 4096 sums_of_three ≡ accepted) ×
    (bytes (map (cell_of sums_of_three) (row 4 (2 ∷ 1 ∷ []))) ≡ along_x (2 ∷ 3 ∷ 4 ∷ 4 ∷ 5 ∷ []))
unfolding blend scale points value some_below some_of first_that nearest far_apart some_sample too_long
    some_axis side_out offset coordinate exact cell_of count_out coordinate_out steps_too_long order draw_verdict row bytes
row_of_a_solid = (refl, refl)
