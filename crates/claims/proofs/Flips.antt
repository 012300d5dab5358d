-- Document 02, A.7 holds: laws of exact values and of definitions, in which no field of the machine occurs. Then K3 and K4.
use mathlib.Core.Path.{◌≡◌, refl, sym, ◌∙◌, ap}
use Prim.Native.Nat.{ℕ}
use native.Mathlib.Omega.{arith}
use lib.ListN.{length, get_or}
use Rattle.bezier.specs.Exact.{blend, scale, points, value}
use Rattle.decide.specs.Some.{some_below, some_of}
use Rattle.decide.specs.Same.{same_bytes}
use Rattle.decide.specs.Refusal.{outcome, first_that}
use Rattle.decide.proofs.Unique.{verdict_unique}
use Rattle.rounding.specs.Nearest.{nearest}
use Rattle.neighbours.specs.Steps.{far_apart, some_sample, too_long}
use Rattle.cube.specs.Cube.{some_axis, side_out}
use Rattle.drawing.specs.Object.{Object, offset, coordinate, exact, cell_of}
use Rattle.drawing.specs.Refusals.{count_out, coordinate_out, steps_too_long, order, draw_verdict, check_verdict}
use Rattle.drawing.specs.Drawing.{row, bytes, Drawing, drawing_of}
use Rattle.gaps.specs.Gaps.{quits}
use Rattle.scan.proofs.Alike.{Alike, draw_the_same}
use Rattle.curve.specs.declared.Curve.{Curve}
use Rattle.curve.specs.Curve.{curve_of}
use Rattle.curve.proofs.Answers.{check_answer_unique}
use Rattle.chosen.specs.Chosen.{chosen, count_verdict, chosen_drawing}
use Rattle.chosen.proofs.Answers.{count_answer_unique}
use Rattle.patch.specs.declared.Patch.{Patch}
use Rattle.patch.specs.Patch.{patch_of}
use Rattle.strip.specs.Strip.{strip_drawing}
use Rattle.flip.specs.Flip.{points_at, reversed, flipped_curve, flipped_patch}
use Rattle.flip.proofs.Samples.{Reordered, same_check_verdict, drawings_alike, strips_alike}
use Rattle.flip.proofs.Curves as curves
use Rattle.flip.proofs.Patches as patches
use Rattle.flip.proofs.Counts as counts
use Rattle.flip.proofs.Listings as listings
use Rattle.claims.specs.Known.{holds}
use Rattle.claims.specs.Flips.{DrawTheSame, CurveFlip, PatchFlip, Claim, K3AndK4}

-- Drawings of whatever kind that are alike.
do_the_same : (d e : Drawing) → Alike d e → DrawTheSame d e
do_the_same d e w = record {
  answer = λ c f. (draw_the_same d e w c f).0;
  grid = λ c f. (draw_the_same d e w c f).1;
}

-- Those of objects with the same samples, on the main path and on the strip.
module _ (S : ℕ) {o p : Object} (w : Reordered o p) where
  drawn_the_same : DrawTheSame (drawing_of S o) (drawing_of S p)
  drawn_the_same = do_the_same (drawing_of S o) (drawing_of S p) (drawings_alike S w)

  on_strip_the_same : DrawTheSame (strip_drawing S o) (strip_drawing S p)
  on_strip_the_same = do_the_same (strip_drawing S o) (strip_drawing S p) (strips_alike S w)

module _ (S : ℕ) (c : Curve) (h : length c.points ≡ 12) where
  abbrev n : ℕ
  n = c.steps

  reordered : Reordered (curve_of c) (curve_of (flipped_curve c))
  reordered = curves.curve_reordered n c.mark c.choice c.points h

  curve_flip : CurveFlip S c
  curve_flip = record {
    values = λ i b a. sym (curves.value_reversed n c.mark c.choice c.points i b a);
    cells = λ i b. sym (curves.cell_reversed n c.mark c.choice c.points i b);
    listings = λ e l k. record {
      agree = listings.agree S n c.points c.mark c.choice h e l k;
      list_rest = listings.keeps_rest S (curve_of c) l;
      back_rest = listings.keeps_rest S (curve_of (flipped_curve c)) k;
    };
    drawings = drawn_the_same S reordered;
    strip_drawings = on_strip_the_same S reordered;
    checks = λ e f. check_answer_unique _ _ (e ∙
        ap (λ v. outcome v (quits c.points n)) (same_check_verdict reordered S) ∙
        ap (outcome (check_verdict S (curve_of (flipped_curve c)))) (sym (counts.same_quit c.points n)) ∙ sym f);
    chosen_counts = counts.same_chosen c.points h;
    choices = λ e f. count_answer_unique _ _ (e ∙
        ap (λ v. outcome v (chosen c.points)) (counts.same_count_verdict c.points h S) ∙
        ap (outcome (count_verdict S (reversed c.points))) (sym (counts.same_chosen c.points h)) ∙ sym f);
    chosen_drawings =
        do_the_same (chosen_drawing S c.points c.mark c.choice) (chosen_drawing S (reversed c.points) c.mark c.choice)
        (counts.chosen_alike c.points h S c.mark c.choice);
  }

module _ (S : ℕ) (p : Patch) (h : length p.points ≡ 48) where
  patch_reordered : Reordered (patch_of p) (patch_of (flipped_patch p))
  patch_reordered = patches.patch_reordered p.mark p.choice p.n p.m p.points h

  patch_flip : PatchFlip S p
  patch_flip = record {
    values = λ i j b d a. sym (patches.patch_value_exchanged p.mark p.choice p.n p.m p.points i j a);
    cells = λ i j b d. sym (patches.cell_exchanged p.mark p.choice p.n p.m p.points i j b d);
    drawings = drawn_the_same S patch_reordered;
    strip_drawings = on_strip_the_same S patch_reordered;
    checks = λ e f. verdict_unique _ _ (e ∙ same_check_verdict patch_reordered S ∙ sym f);
  }

pub claim : Claim
claim = record {
  curve = curve_flip;
  curve_twice = λ c h.
      ap (λ points. record { mark = c.mark; choice = c.choice; steps = c.steps; points = points }) (curves.reversed_twice c.points h);
  patch = patch_flip;
  patch_twice = λ p h.
      ap (λ points. record { points = points; n = p.n; m = p.m; mark = p.mark; choice = p.choice }) (patches.exchanged_twice p.points h);
}

-- K3 and K4, computed.
pub k3_and_k4 : K3AndK4
unfolding blend scale points value some_below some_of first_that nearest far_apart some_sample too_long
    some_axis side_out offset coordinate exact cell_of count_out coordinate_out steps_too_long order draw_verdict row bytes same_bytes
    holds points_at reversed
k3_and_k4 = record {
  points = refl;
  by_the_walk = λ e. let second : ◌≡◌ {A = ℕ} 3 2 = ap (λ l. get_or l 1 0) e in omega arith;
  k3 = tt;
  k4 = tt;
}
