-- The drawing of a good sheet: what is left to draw, drawn into the cube so far, gives the sheet's cube, and its new cells
-- with those counted so far the sheet's sum.
use mathlib.Core.Path.{◌≡◌, refl, sym, ◌∙◌, ap, ap₂, subst}
use mathlib.Core.List.{List, [], ◌∷◌, ◌++◌, map, append-nil}
use Prim.Native.Nat.{ℕ, suc, ◌+◌, ◌*◌, ◌≤◌, ◌<◌}
use native.Mathlib.Nat.{zero-add, add-zero}
use native.Mathlib.Omega.{arith}
use lib.ListN.{length, take, drop, length-drop, drop_of_length-le, replicate, length-replicate}
use lib.Seq.{drop-drop}
use Rattle.decide.specs.Refusal.{accepted, first_that}
use Rattle.decide.proofs.FirstThat.{by_verdict}
use Rattle.cube.specs.Cube.{volume}
use Rattle.drawing.specs.Drawing.{drawing_of, drawn, in_turn}
use Rattle.drawing.specs.NewCells.{unmarked_cells, new_in_turn}
use Rattle.drawing.proofs.Drawn.{length_drawn}
use Rattle.drawing.proofs.NewCells.{new_of_lem}
use Rattle.sheet.specs.Line.{lines, number}
use Rattle.sheet.specs.Sheet.{Stroke, stroke_of, object_of, side_order, curve_order, Judged, good, bad, judge_curves, judge}
use Rattle.sheet.specs.Printed.{cube_of}
use Rattle.sheet.specs.Call.{new_cells_of, drew, said, buffer_after}
use Rattle.sheet.proofs.NewCells.{new_at_most}
use Rattle.sheet_lines.specs.Read.{first_line}
use Rattle.sheet_cube.specs.Lines.{Found, sized, fault, found}
use Rattle.sheet_cube.proofs.Judged.{Passes, passes, passes_side, side_refused, side_accepted, strokes_of, Left, good_first, good_all, good≢bad}
use Rattle.sheet_cube.proofs.Judged.{by_emptiness, rest_lines, left_start, left_more, line_within}
use Rattle.sheet_lines.proofs.Lines.{first_prefix, first_within}

-- A sheet that is found to have a side and a number of curve lines is good, of that side and with so many strokes.
pub record IsGood (j : Judged) (S n : ℕ) : Type 0 where
  pub strokes : List Stroke
  pub good : j ≡ good S strokes
  pub count : length strokes ≡ n

abbrev side_of : Found → ℕ
side_of (sized S n) = S
side_of (fault n k) = 0

abbrev curves_of : Found → ℕ
curves_of (sized S n) = n
curves_of (fault n k) = 0

abbrev is_sized : Found → Type 0
is_sized (sized S n) = Unit
is_sized (fault n k) = ⊥

pub is_good_lem : (j : Judged) {S n : ℕ} → found j ≡ sized S n → IsGood j S n
is_good_lem (good R l) e = record { strokes = l; good = ap (λ s. good (side_of s) l) e; count = ap curves_of e }
is_good_lem (bad n k) e = absurd (subst is_sized (sym e) tt)

abbrev side_in : Judged → ℕ
side_in (good S l) = S
side_in (bad n k) = 0

abbrev strokes_in : Judged → List Stroke
strokes_in (good S l) = l
strokes_in (bad n k) = []

empty : (l : List (List ℕ)) → length l ≡ 0 → l ≡ []
empty [] e = refl
empty (x ∷ xs) e = absurd (omega (arith, e))

at_next : (i : ℕ) → 6 + 71 * i + 71 ≡ 6 + 71 * suc i
at_next i = omega arith

line_next : (i : ℕ) → suc (i + 2) ≡ suc i + 2
line_next i = omega arith

-- A good sheet.
pub record GoodSheet (input : List ℕ) (S n : ℕ) : Type 0 where
  pub line_1 : 6 ≤ length input
  pub side_least : 2 ≤ S
  pub side_most : S ≤ 40
  pub judged : judge input ≡ good S (strokes_of input)
  pub left : Left input S 6 2
  pub count : length (strokes_of input) ≡ n

pub good_sheet : (input : List ℕ) {S n : ℕ} → found (judge input) ≡ sized S n → GoodSheet input S n
good_sheet input {S} {n} e =
    let g = is_good_lem (judge input) e in
    by_verdict (first_that (side_order (first_line input))) (GoodSheet input S n)
    (λ a.
    let R : ℕ = number (first_line input) 0 in
    let s = side_accepted input a in
    let all : good R (strokes_of input) ≡ good S g.strokes = good_all R 2 _ (lines (drop 6 input)) (sym s ∙ g.good) in
    let side : R ≡ S = ap side_in all in
    let these : strokes_of input ≡ g.strokes = ap strokes_in all in
    record {
      line_1 = omega (arith, (passes_side input a).whole, first_within input);
      side_least = rw (← side) (passes_side input a).least;
      side_most = rw (← side) (passes_side input a).most;
      judged = g.good ∙ ap (good S) (sym these);
      left = left_start input S a side;
      count = ap length these ∙ g.count;
    })
    (λ k r. absurd (good≢bad (sym g.good ∙ side_refused input r)))

-- What holds of every stroke of a list.
abbrev pub Each : (P : Stroke → Type 0) → List Stroke → Type 0
Each P [] = Unit
Each P (s ∷ strokes) = P s × Each P strokes

-- It holds of each of them, wherever it stands.
pub each_one : (P : Stroke → Type 0) (before after : List Stroke) (s : Stroke) → Each P (before ++ s ∷ after) → P s
each_one P [] after s all = all.0
each_one P (b ∷ before) after s all = each_one P before after s all.1

-- What holds of the stroke of every accepted curve line holds of every stroke of a good sheet.
module _ (P : Stroke → Type 0) (S : ℕ)
    (accepted-line : (k : ℕ) (l : List ℕ) → first_that (curve_order S k l) ≡ accepted → P (stroke_of l)) where
  good_curves : (k : ℕ) (all : Judged) (ls : List (List ℕ)) {R : ℕ} {strokes : List Stroke} →
      judge_curves S k ls all ≡ good R strokes → Each P (map stroke_of ls)
  good_curves k all [] e = tt
  good_curves k all (l ∷ ls) e =
      let g = good_first S all k l ls e in (accepted-line k l g.0, good_curves (suc k) all ls g.1)

  pub good_strokes : (input : List ℕ) {strokes : List Stroke} → judge input ≡ good S strokes → Each P strokes
  good_strokes input {strokes} e =
      let g = good_sheet input (ap found e) in
      let these : strokes_of input ≡ strokes = ap strokes_in (sym g.judged ∙ e) in
      subst (Each P) these (good_curves 2 _ (lines (drop 6 input)) (sym g.left.judged ∙ e))

-- What is left of a sheet after line 1 and i curve lines.
abbrev pub rest : (input : List ℕ) (i : ℕ) → List ℕ
rest input i = drop (6 + 71 * i) input

-- With i curve lines drawn: the cube and the sum of new cells, and what is left to draw.
pub record DrawnSoFar (input : List ℕ) (S i : ℕ) (cube : List ℕ) (new : ℕ) : Type 0 where
  pub left : Left input S (6 + 71 * i) (i + 2)
  pub turn :
      in_turn (λ s. drawn S (object_of s)) (map stroke_of (lines (rest input i))) cube ≡ cube_of S (strokes_of input)
  pub sum :
      new + new_in_turn (λ s. drawn S (object_of s)) (map stroke_of (lines (rest input i))) cube ≡ new_cells_of S (strokes_of input)
  pub whole : length cube ≡ volume S

module _ {input : List ℕ} {S n : ℕ} (sheet : GoodSheet input S n) where
  pub none_drawn : (cube : List ℕ) → length cube ≡ volume S → DrawnSoFar input S 0 (replicate (length cube) 0) 0
  unfolding cube_of new_cells_of
  none_drawn cube e = record {
    left = sheet.left;
    turn = ap (λ v. in_turn (λ s. drawn S (object_of s)) (strokes_of input) (replicate v 0)) e;
    sum = zero-add _ ∙ ap (λ v. new_in_turn (λ s. drawn S (object_of s)) (strokes_of input) (replicate v 0)) e;
    whole = length-replicate _ 0 ∙ e;
  }

  -- All are drawn.
  module _ {cube : List ℕ} {new : ℕ} (d : DrawnSoFar input S n cube new) where
    none_left : lines (rest input n) ≡ []
    none_left =
        let l : length (lines (rest input n)) ≡ 0 = omega (arith, d.left.count, sheet.count) in
        empty (lines (rest input n)) l

    pub all_drawn : cube ≡ cube_of S (strokes_of input)
    unfolding in_turn
    all_drawn = rw none_left at d.turn

    pub all_counted : said (judge input) ≡ drew S n new
    unfolding new_in_turn
    all_counted =
        let all : new + 0 ≡ new_cells_of S (strokes_of input) = rw none_left at d.sum in
        ap said sheet.judged ∙ ap₂ (drew S) sheet.count (sym all ∙ add-zero new)

  -- A buffer that is the cube alone holds nothing else afterwards.
  pub whole_buffer : (cube : List ℕ) → length cube ≡ volume S → cube_of S (strokes_of input) ≡ buffer_after (judge input) cube
  whole_buffer cube e =
      sym (append-nil (cube_of S (strokes_of input))) ∙
      ap (cube_of S (strokes_of input) ++◌) (sym (drop_of_length-le cube (fits e))) ∙
      ap (λ j. buffer_after j cube) (sym sheet.judged)
    where
      fits : {a b : ℕ} → a ≡ b → a ≤ b
      fits e = omega (arith, e)

  -- Where something is left of the input, a line is left to draw.
  pub to_come : {i : ℕ} {cube : List ℕ} {new : ℕ} → DrawnSoFar input S i cube new → 0 < length (rest input i) → i < n
  to_come {i} d there = omega (arith, d.left.count, sheet.count, ap length (rest_lines (rest input i) there))

  -- One more to draw.
  module _ {i : ℕ} (h : i < n) {cube : List ℕ} {new : ℕ} (d : DrawnSoFar input S i cube new) where
    abbrev pub line : List ℕ
    line = first_line (rest input i)

    rest_there : 0 < length (rest input i)
    unfolding lines
    rest_there =
        by_emptiness (rest input i)
        (λ z. absurd (omega (arith, h, sheet.count, d.left.count, ap (λ r. length (lines r)) z)))
        (λ l. l)

    pub at_line : 6 + 71 * i < length input
    at_line = omega (arith, rest_there, length-drop (6 + 71 * i) input)

    pub line_accepted : first_that (curve_order S (i + 2) line) ≡ accepted
    line_accepted =
        (good_first S (good S (strokes_of input)) (i + 2) line (lines (drop (length line) (rest input i)))
        (ap (λ ls. judge_curves S (i + 2) ls (good S (strokes_of input))) (sym (rest_lines (rest input i) rest_there)) ∙
        sym d.left.judged ∙ sheet.judged)).0

    pub line_passes : Passes S (i + 2) line
    line_passes = passes line line_accepted

    pub line_there : take 71 (rest input i) ≡ line
    line_there = ap (λ k. take k (rest input i)) (sym line_passes.whole) ∙ sym (first_prefix (rest input i))

    pub line_ends : 6 + 71 * i + 71 ≤ length input
    line_ends = line_within input S d.left at_line line_accepted

    two : lines (rest input i) ≡ line ∷ lines (rest input (suc i))
    two =
        let after : drop (length line) (rest input i) ≡ rest input (suc i) =
        ap (λ k. drop k (rest input i)) line_passes.whole ∙ drop-drop 71 (6 + 71 * i) input ∙ ap (λ k. drop k input) (at_next i) in
        rw (← after) (rest_lines (rest input i) rest_there)

    -- It is drawn, and its new cells are counted.
    module _ (more : ℕ) (fewer : more + unmarked_cells (drawn S (object_of (stroke_of line)) cube) ≡ unmarked_cells cube) where
      sum_more :
          new + more +
          new_in_turn (λ s. drawn S (object_of s)) (map stroke_of (lines (rest input (suc i)))) (drawn S (object_of (stroke_of line)) cube)
          ≡ new_cells_of S (strokes_of input)
      unfolding new_in_turn
      sum_more =
          let all = rw two at d.sum in
          omega (arith, all, new_of_lem cube (drawn S (object_of (stroke_of line)) cube) fewer)

      -- The sum is a number of cells of the cube.
      pub sum_at_most : new + more ≤ volume S
      sum_at_most = omega (arith, sum_more, new_at_most S (strokes_of input))

      pub one_more : DrawnSoFar input S (suc i) (drawn S (object_of (stroke_of line)) cube) (new + more)
      unfolding in_turn
      one_more = record {
        left = rw (← at_next i, ← line_next i) (left_more input S d.left at_line line_accepted);
        turn = rw two at d.turn;
        sum = sum_more;
        whole = length_drawn (drawing_of S (object_of (stroke_of line))) cube ∙ d.whole;
      }
