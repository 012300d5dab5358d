-- How a sheet is judged, line by line: what line 1 decides, what a curve line decides, and what is known of a good sheet.
use mathlib.Core.Path.{◌≡◌, refl, sym, ◌∙◌, ap, subst}
use mathlib.Core.Bool.{true, false}
use mathlib.Core.List.{List, [], ◌∷◌, map}
use Prim.Native.Nat.{ℕ, suc, ◌+◌, ◌-◌, ◌≤◌, ◌<◌}
use native.Mathlib.Omega.{arith}
use lib.Dec.{eqb, ltb}
use lib.ListN.{length, drop, length-drop, length-map, drop_of_length-le}
use lib.Seq.{drop-drop}
use Rattle.decide.specs.Refusal.{accepted, refused, first_that}
use Rattle.decide.proofs.FirstThat.{by_verdict, accepted_passes}
use Rattle.decide.proofs.Truth.{both_false, false_iff, false_of, equal, less, not_less}
use Rattle.cube.proofs.Words.{side_in_lem}
use Rattle.decide.specs.Some.{some_below}
use Rattle.decide.proofs.Some.{some_below_lem}
use Rattle.cube.specs.Cube.{volume}
use Rattle.drawing.specs.Refusals.{order, Drawable, draw_verdict}
use Rattle.drawing.proofs.Accepted.{order_accepted, draw_accepted}
use Rattle.sheet.specs.Line.{lines, is_wrong, number, some_bad}
use Rattle.sheet.specs.Sheet.{Stroke, stroke_of, object_of, side_order, mark_out, curve_order, Judged, good, bad, or_later, judge_curves, judge_lines}
use Rattle.sheet.specs.Sheet.{judge}
use Rattle.sheet_lines.specs.Read.{first_line, fits}
use Rattle.sheet_lines.proofs.Lines.{lines_first, first_within, line_length}
use Rattle.sheet_lines.proofs.Fits.{points_at_lem}
use Rattle.sheet_cube.specs.Lines.{sized, found}

-- What an accepted curve line passes.
pub record Passes (S k : ℕ) (l : List ℕ) : Type 0 where
  pub few : ltb 201 k ≡ false
  pub whole : length l ≡ 71
  pub fields_good : some_bad 14 l ≡ false
  pub drawn : first_that (order S (object_of (stroke_of l)) false (mark_out (number l 0)) false) ≡ accepted

pub passes : {S k : ℕ} (l : List ℕ) → first_that (curve_order S k l) ≡ accepted → Passes S k l
unfolding curve_order
passes l e =
    let a = accepted_passes _ _ _ e in
    let b = accepted_passes _ _ _ a.1 in
    let c = accepted_passes _ _ _ b.1 in
    record { few = a.0; whole = line_length 14 l b.0; fields_good = c.0; drawn = c.1 }

-- An accepted curve line of a sheet whose side is at most 40 fits a record, and its stroke is drawn.
module _ {S k : ℕ} {l : List ℕ} (p : Passes S k l) where
  drawable : Drawable S (object_of (stroke_of l)) × (false ≡ false) × (mark_out (number l 0) ≡ false) × (false ≡ false)
  drawable = (order_accepted S (object_of (stroke_of l)) false (mark_out (number l 0)) false).0 p.drawn

  pub passes_fits : S ≤ 40 → fits l ≡ true
  unfolding fits
  passes_fits h =
      let bytes : some_below 12 (λ k. ltb 255 (number l (k + 2))) ≡ false =
      false_of _ (λ t. let w = (some_below_lem (λ k. ltb 255 (number l (k + 2))) 12).0 t in
      omega (arith, h, drawable.0.coordinate_below w.0 w.1, points_at_lem l w.0 w.1, (less 255 (number l (w.0 + 2))).0 w.2))
      in
      rw (p.fields_good, drawable.2, bytes) refl

  pub passes_draws : {len : ℕ} → len ≡ volume S → draw_verdict S len (object_of (stroke_of l)) ≡ accepted
  unfolding mark_out
  passes_draws {len} e =
      (draw_accepted S (object_of (stroke_of l)) len).1 (
        drawable.0,
        e,
        let z = (both_false (eqb (number l 0) 0) (ltb 255 (number l 0)) drawable.2).0 in
            let n : ¬ (number l 0 ≡ 0) = λ q. (false_iff _).0 z ((equal (number l 0) 0).1 q) in omega (arith, n),
      )

-- Good and bad are apart.
abbrev is_good : Judged → Type 0
is_good (good S strokes) = Unit
is_good (bad n k) = ⊥

pub good≢bad : {S n k : ℕ} {strokes : List Stroke} → good S strokes ≡ bad n k → ⊥
good≢bad e = subst is_good e tt

module _ (S : ℕ) (all : Judged) (k : ℕ) (l : List ℕ) (ls : List (List ℕ)) where
  -- The first curve line is refused, or the later ones decide.
  pub curve_refused : {n : ℕ} → first_that (curve_order S k l) ≡ refused n → judge_curves S k (l ∷ ls) all ≡ bad n k
  unfolding judge_curves
  curve_refused e = ap (λ v. or_later k v (judge_curves S (suc k) ls all)) e

  pub curve_accepted : first_that (curve_order S k l) ≡ accepted → judge_curves S k (l ∷ ls) all ≡ judge_curves S (suc k) ls all
  unfolding judge_curves
  curve_accepted e = ap (λ v. or_later k v (judge_curves S (suc k) ls all)) e

  -- Where the sheet is good, the first curve line is accepted and the later ones are good.
  pub good_first : {R : ℕ} {strokes : List Stroke} → judge_curves S k (l ∷ ls) all ≡ good R strokes →
      (first_that (curve_order S k l) ≡ accepted) × (judge_curves S (suc k) ls all ≡ good R strokes)
  good_first {R} {strokes} e =
      by_verdict (first_that (curve_order S k l))
      ((first_that (curve_order S k l) ≡ accepted) × (judge_curves S (suc k) ls all ≡ good R strokes))
      (λ a. (a, sym (curve_accepted a) ∙ e))
      (λ n r. absurd (good≢bad (sym e ∙ curve_refused r)))

-- The lines of what is left, where something is left, are its first line and those after it.
pub rest_lines : (rest : List ℕ) → 0 < length rest →
    lines rest ≡ first_line rest ∷ lines (drop (length (first_line rest)) rest)
rest_lines [] h = absurd (omega arith)
rest_lines (b ∷ bs) h = lines_first b bs

-- A list is empty or not.
pub by_emptiness : (l : List ℕ) {P : Type 0} → (l ≡ [] → P) → (0 < length l → P) → P
by_emptiness [] e n = e refl
by_emptiness (b ∷ bs) e n = n (omega arith)

-- Line 1 is refused, or the curve lines after it decide.
module _ (input : List ℕ) where
  abbrev line_1 : List ℕ
  line_1 = first_line input

  -- No line 1 is wrong.
  empty_refused : first_that (side_order []) ≡ refused 41
  unfolding first_that side_order is_wrong
  empty_refused = refl

  pub side_refused : {n : ℕ} → first_that (side_order line_1) ≡ refused n → judge input ≡ bad n 1
  unfolding judge judge_lines first_line lines
  side_refused {n} e =
      by_emptiness input
      (λ z. rw z (ap (λ v. or_later 1 v (bad 41 1)) (sym empty_refused ∙ rw z at e)))
      (λ h. rw (rest_lines input h) (ap (λ v. or_later 1 v
      (judge_curves (number line_1 0) 2 (lines (drop (length line_1) input))
      (good (number line_1 0) (map stroke_of (lines (drop (length line_1) input)))))) e))

  -- What an accepted line 1 passes.
  pub record PassesSide : Type 0 where
    pub whole : length line_1 ≡ 6
    pub least : 2 ≤ number line_1 0
    pub most : number line_1 0 ≤ 40

  pub passes_side : first_that (side_order line_1) ≡ accepted → PassesSide
  unfolding side_order
  passes_side e =
      let a = accepted_passes _ _ _ e in
      let b = accepted_passes _ _ _ a.1 in
      let c = accepted_passes _ _ _ b.1 in
      let d = accepted_passes _ _ _ c.1 in
      record {
        whole = line_length 1 line_1 a.0;
        least = ((side_in_lem (number line_1 0)).0 ((false_iff _).0 c.0)).0;
        most = not_less 40 (number line_1 0) ((false_iff _).0 d.0);
      }

  abbrev curves : List (List ℕ)
  curves = lines (drop 6 input)

  pub side_accepted : first_that (side_order line_1) ≡ accepted →
      judge input ≡ judge_curves (number line_1 0) 2 curves (good (number line_1 0) (map stroke_of curves))
  unfolding judge judge_lines first_line
  side_accepted e =
      let six = (passes_side e).whole in
      by_emptiness input
      (λ z. absurd (omega (arith, sym six ∙ ap (λ i. length (first_line i)) z)))
      (λ h. rw (rest_lines input h, six) (ap (λ v. or_later 1 v
      (judge_curves (number line_1 0) 2 curves (good (number line_1 0) (map stroke_of curves)))) e))

-- Where the curve lines are good, so is the whole, and as it was to be.
pub good_all : (S k : ℕ) (all : Judged) (ls : List (List ℕ)) {R : ℕ} {strokes : List Stroke} →
    judge_curves S k ls all ≡ good R strokes → all ≡ good R strokes
unfolding judge_curves
good_all S k all [] e = e
good_all S k all (l ∷ ls) e = good_all S (suc k) all ls (good_first S all k l ls e).1

-- The strokes of a sheet, if it is good.
abbrev pub strokes_of : (input : List ℕ) → List Stroke
strokes_of input = map stroke_of (lines (drop 6 input))

module _ (input : List ℕ) (S : ℕ) where
  -- From byte at on there is line k, and every line before it is accepted.
  pub record Left (at k : ℕ) : Type 0 where
    pub judged : judge input ≡ judge_curves S k (lines (drop at input)) (good S (strokes_of input))
    pub count : length (strokes_of input) + 2 ≡ k + length (lines (drop at input))

  -- After a good line 1.
  pub left_start : first_that (side_order (first_line input)) ≡ accepted → number (first_line input) 0 ≡ S → Left 6 2
  left_start a e = record {
    judged =
        side_accepted input a ∙ ap (λ q. judge_curves q 2 (lines (drop 6 input)) (good q (strokes_of input))) e;
    count = rw (length-map (lines (drop 6 input)) stroke_of) (omega arith);
  }

  module _ {at k : ℕ} (left : Left at k) where
    abbrev rest : List ℕ
    rest = drop at input

    -- Nothing is left: the sheet is good.
    pub left_none : length input ≤ at → found (judge input) ≡ sized S (k - 2)
    unfolding judge_curves lines
    left_none h =
        let none : rest ≡ [] = drop_of_length-le input h in
        let n : length (strokes_of input) + 2 ≡ k = left.count ∙ rw none (omega arith) in
        ap found left.judged ∙ rw none (ap (sized S) (omega (arith, n)))

    module _ (h : at < length input) where
      abbrev line : List ℕ
      line = first_line rest

      rest_there : 0 < length rest
      rest_there = omega (arith, h, length-drop at input)

      splits : lines rest ≡ line ∷ lines (drop (length line) rest)
      splits = rest_lines rest rest_there

      -- Line k is refused, and decides.
      pub left_refused : {n : ℕ} → first_that (curve_order S k line) ≡ refused n → judge input ≡ bad n k
      left_refused e = left.judged ∙ rw splits (curve_refused S (good S (strokes_of input)) k line (lines (drop (length line) rest)) e)

      -- An accepted line k lies within the input,
      pub line_within : first_that (curve_order S k line) ≡ accepted → at + 71 ≤ length input
      line_within e = omega (arith, (passes line e).whole, first_within rest, length-drop at input)

      -- and is passed.
      pub left_more : first_that (curve_order S k line) ≡ accepted → Left (at + 71) (suc k)
      left_more e =
          let after : drop (length line) rest ≡ drop (at + 71) input =
          ap (λ n. drop n rest) (passes line e).whole ∙ drop-drop 71 at input in
          let two : lines rest ≡ line ∷ lines (drop (at + 71) input) = rw (← after) splits in
          record {
            judged = left.judged ∙ rw two (curve_accepted S (good S (strokes_of input)) k line (lines (drop (at + 71) input)) e);
            count = left.count ∙ ap (λ l. k + length l) two ∙ omega arith;
          }
