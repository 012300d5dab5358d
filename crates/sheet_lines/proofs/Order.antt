-- The order of a curve line by whether the line fits: one that does not is refused with its number, and one that does
-- is judged as its curve is.
use mathlib.Core.Path.{◌≡◌, refl, sym, ◌∙◌}
use mathlib.Core.Logic.{⊎_elim}
use mathlib.Core.Bool.{Bool, true, false, cond, or-false, true≢false}
use mathlib.Core.List.{List, [], ◌∷◌}
use Prim.Native.Nat.{ℕ, ◌+◌, ◌≤◌, ◌<◌}
use native.Mathlib.Omega.{arith}
use lib.Dec.{T, ltb, not_T}
use borrow.Author.Tests.{le-ltb}
use Rattle.decide.specs.Some.{some_below, some_of}
use Rattle.decide.specs.Refusal.{Verdict, refused, first_that}
use Rattle.decide.proofs.Truth.{decided, true_of, false_of, false_iff, less}
use Rattle.decide.proofs.Some.{some_below_lem, some_of_lem}
use Rattle.cube.specs.Cube.{side_out}
use Rattle.cube.proofs.Words.{side_in_lem}
use Rattle.drawing.specs.Refusals.{count_out, coordinate_out, order, check_verdict}
use Rattle.sheet.specs.Line.{number, is_wrong, some_bad}
use Rattle.sheet.specs.Sheet.{mark_out, stroke_of, object_of, curve_order}
use Rattle.sheet_lines.specs.Read.{fits, first_of, unfit_refusal}
use Rattle.sheet_lines.proofs.Fits.{fits_parts, points_at_lem}

-- The first number that applies, where 14 does if neither 42 nor 12 does.
ladder : (bad mark count coordinate : Bool) (later : Verdict) → (bad ≡ false → mark ≡ false → coordinate ≡ true) →
    cond bad (refused 42) (cond mark (refused 12) (cond count (refused 13) (cond coordinate (refused 14) later))) ≡
    refused (first_of bad mark count)
ladder true mark count coordinate later f = refl
ladder false true count coordinate later f = refl
ladder false false true coordinate later f = refl
ladder false false false coordinate later f = rw (f refl refl)

one_of : (p : ℕ → Bool) (n : ℕ) → some_of p (n ∷ []) ≡ p n
unfolding some_of
one_of p n = or-false (p n)

-- A coordinate above 255 is out of any cube.
above_out : (S c : ℕ) → side_out S ≡ false → 255 < c → T (coordinate_out S c)
unfolding coordinate_out
above_out S c side h =
    not_T (ltb c S) (λ t. omega (arith, (less c S).0 t, (side_in_lem S).0 ((false_iff (side_out S)).0 side)))

module _ (S : ℕ) (l : List ℕ) (side : side_out S ≡ false) (unfit : fits l ≡ false) where
  coordinate_out_lem : some_bad 14 l ≡ false → mark_out (number l 0) ≡ false →
      some_of (coordinate_out S) (stroke_of l).points ≡ true
  coordinate_out_lem good mark =
      ⊎_elim
      (λ t.
      let w = (some_below_lem (λ k. ltb 255 (number l (k + 2))) 12).0 t in
      let above = (less 255 (number l (w.0 + 2))).0 w.2 in
      true_of _ ((some_of_lem (coordinate_out S) (stroke_of l).points).1
      (w.0, w.1, rw (points_at_lem l w.0 w.1) (above_out S (number l (w.0 + 2)) side above))))
      (λ f. absurd (true≢false (sym ((fits_parts l).1 (good, mark, false_of _ f)) ∙ unfit)))
      (decided (some_below 12 (λ k. ltb 255 (number l (k + 2)))))

module _ (S k : ℕ) (l : List ℕ) (few : k ≤ 201) (right : is_wrong 14 l ≡ false) where
  -- A line that fits is judged as its curve is.
  pub fit_judged : fits l ≡ true → first_that (curve_order S k l) ≡ check_verdict S (object_of (stroke_of l))
  unfolding first_that curve_order check_verdict
  fit_judged e = let p = (fits_parts l).0 e in rw (le-ltb 201 k few, right, p.0, p.1)

  -- A line that does not is refused with its number.
  pub unfit_refused : side_out S ≡ false → fits l ≡ false → first_that (curve_order S k l) ≡ refused (unfit_refusal l)
  unfolding first_that curve_order order unfit_refusal
  unfit_refused side e =
      rw (le-ltb 201 k few, right, side, one_of (count_out 512) (number l 1))
      (ladder (some_bad 14 l) (mark_out (number l 0)) (count_out 512 (number l 1)) (some_of (coordinate_out S) (stroke_of l).points) _
      (coordinate_out_lem S l side e))
