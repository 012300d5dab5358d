-- Document 01, "The stroke sheet" and "Who can cause which refusal": line 1 is the side alone, each later line a curve:
-- mark, n, then x y z of points 0 to 3. The first refused line decides.
use Rattle.std.specs.Prelude.{Bool, false, ◌||◌, List, [], ◌∷◌, ◌++◌, map, ℕ, suc, ltb, eqb}
use Rattle.decide.specs.Refusal.{Rule, ◌when◌, Verdict, accepted, refused, first_that}
use Rattle.cube.specs.Cube.{side_out}
use Rattle.drawing.specs.declared.Choice.TheVariants.{Over}
use Rattle.drawing.specs.Object.{Object, curve}
use Rattle.drawing.specs.Refusals.{order}
use Rattle.sheet.specs.Line.{lines, is_wrong, number, some_bad}

-- A curve line: its step count, the coordinates of its points and its mark.
pub record Stroke : Type 0 where
  pub steps : ℕ
  pub points : List ℕ
  pub mark : ℕ

abbrev pub stroke_of : (line : List ℕ) → Stroke
stroke_of l = record {
  steps = number l 1;
  points = map (number l) (2 ∷ 3 ∷ 4 ∷ 5 ∷ 6 ∷ 7 ∷ 8 ∷ 9 ∷ 10 ∷ 11 ∷ 12 ∷ 13 ∷ []);
  mark = number l 0;
}

-- What a stroke draws: document 02, A.11, "sheets always mean over".
abbrev pub object_of : Stroke → Object
object_of s = curve s.steps s.points s.mark Over

-- Sheet line 1: 41, 42, 11, 43.
unfoldable pub side_order : (line : List ℕ) → List Rule
side_order l =
    41 when is_wrong 1 l ∷
    42 when some_bad 1 l ∷
    11 when side_out (number l 0) ∷
    43 when ltb 40 (number l 0) ∷
    []

-- 12: mark 0, or in a sheet also above 255.
unfoldable pub mark_out : ℕ → Bool
mark_out mark = eqb mark 0 || ltb 255 mark

-- A curve line, line number k: 44, 41, 42, then 12, 13, 14, 15, those of a drawing into the sheet's own cube.
unfoldable pub curve_order : (S k : ℕ) (line : List ℕ) → List Rule
curve_order S k l =
    (44 when ltb 201 k ∷
    41 when is_wrong 14 l ∷
    42 when some_bad 14 l ∷
    []) ++ order S (object_of (stroke_of l)) false (mark_out (number l 0)) false

-- What a sheet is judged: its side and its strokes, or the refusal's number and the line.
pub data Judged : Type 0 where
  good : (side : ℕ) (strokes : List Stroke) → Judged
  bad : (number line : ℕ) → Judged

-- Line k is refused, or it is not and the later lines decide.
abbrev pub or_later : (k : ℕ) → Verdict → Judged → Judged
or_later k (refused n) later = bad n k
or_later k accepted later = later

-- The curve lines from line k on, of a sheet that is otherwise good.
unfoldable pub judge_curves : (S k : ℕ) (ls : List (List ℕ)) (all : Judged) → Judged
judge_curves S k [] all = all
judge_curves S k (l ∷ ls) all = or_later k (first_that (curve_order S k l)) (judge_curves S (suc k) ls all)

-- A sheet by its lines. No line 1 is 41, in line 1.
unfoldable pub judge_lines : List (List ℕ) → Judged
judge_lines [] = bad 41 1
judge_lines (l ∷ ls) =
    or_later 1 (first_that (side_order l)) (judge_curves (number l 0) 2 ls (good (number l 0) (map stroke_of ls)))

-- A sheet.
unfoldable pub judge : (input : List ℕ) → Judged
judge input = judge_lines (lines input)
