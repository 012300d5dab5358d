-- Line 202 is refused whatever it holds, so a refused sheet's line is line 202 at most, and its number is 44 at most.
use mathlib.Core.Path.{◌≡◌, refl, subst}
use mathlib.Core.List.{List, [], ◌∷◌, map}
use Prim.Native.Nat.{ℕ, suc, ◌≤◌, ◌<◌}
use native.Mathlib.Omega.{arith}
use lib.Dec.{ltb, lit≤}
use borrow.Author.Tests.{ltb-false}
use Rattle.decide.specs.Some.{some_of}
use Rattle.decide.specs.Refusal.{Verdict, accepted, refused, first_that, numbers}
use Rattle.decide.proofs.FirstThat.{accepted_passes, refused_most}
use Rattle.decide.proofs.Truth.{true_of, less}
use Rattle.drawing.specs.Refusals.{order}
use Rattle.sheet.specs.Line.{lines, number}
use Rattle.sheet.specs.Sheet.{stroke_of, side_order, curve_order, Judged, good, bad, or_later, judge_curves, judge_lines, judge}

pub too_many_lines : (S k : ℕ) (line : List ℕ) → 201 < k → first_that (curve_order S k line) ≡ refused 44
unfolding first_that curve_order
too_many_lines S k line past = simp (true_of (ltb 201 k) ((less 201 k).1 past))

-- A line after an accepted curve line is line 202 at most.
next_line_lem : (S k : ℕ) (line : List ℕ) → first_that (curve_order S k line) ≡ accepted → suc k ≤ 202
unfolding curve_order
next_line_lem S k line e = omega (arith, ltb-false 201 k (accepted_passes _ _ _ e).0)

-- A refused sheet's number and line.
abbrev Small : Judged → Type 0
Small (good S strokes) = Unit
Small (bad n k) = (n ≤ 44) × (k ≤ 202)

-- A line that is refused, or else the later ones, with what is known of both.
either_small : (k : ℕ) (v : Verdict) (later : Judged) → ((n : ℕ) → v ≡ refused n → n ≤ 44) → k ≤ 202 →
    (v ≡ accepted → Small later) → Small (or_later k v later)
either_small k (refused n) later few line after = (few n refl, line)
either_small k accepted later few line after = after refl

curves_small : (S k : ℕ) (ls : List (List ℕ)) (all : Judged) → k ≤ 202 → Small all → Small (judge_curves S k ls all)
unfolding judge_curves curve_order order numbers some_of
curves_small S k [] all line whole = whole
curves_small S k (l ∷ ls) all line whole =
    either_small k (first_that (curve_order S k l)) (judge_curves S (suc k) ls all)
    (λ n e. refused_most 44 (curve_order S k l) refl e) line
    (λ e. curves_small S (suc k) ls all (next_line_lem S k l e) whole)

lines_small : (ls : List (List ℕ)) → Small (judge_lines ls)
unfolding judge_lines side_order numbers some_of
lines_small [] = (lit≤ tt, lit≤ tt)
lines_small (l ∷ ls) =
    either_small 1 (first_that (side_order l)) (judge_curves (number l 0) 2 ls (good (number l 0) (map stroke_of ls)))
    (λ n e. refused_most 44 (side_order l) refl e) (lit≤ tt)
    (λ e. curves_small (number l 0) 2 ls (good (number l 0) (map stroke_of ls)) (lit≤ tt) tt)

pub bad_small : (input : List ℕ) {n k : ℕ} → judge input ≡ bad n k → (n ≤ 44) × (k ≤ 202)
unfolding judge
bad_small input e = subst Small e (lines_small (lines input))
