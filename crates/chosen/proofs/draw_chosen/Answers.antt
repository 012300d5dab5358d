-- `draw_chosen` meets its contract: the verdict is that of its order, and an accepted curve is drawn with the chosen count.
use Rattle.std.proofs.Common.{rules, arith, ◌≡◌, refl, sym, ◌∙◌, ap, subst, Bool, not, eqb, ℕ, length}
use lib.Dec.{lit<}
use Rattle.decide.specs.Refusal.{Verdict, accepted, first_that}
use Rattle.cube.specs.Cube.{volume}
use Rattle.drawing.specs.Refusals.{draw_verdict, sample_count}
use Rattle.drawing.specs.Drawing.{Drawing, drawn}
use Rattle.curve.specs.declared.Curve.{Curve}
use Rattle.curve.specs.Curve.{curve_of}
use Rattle.scan.proofs.Orders.{draws_refused, draws_accepted}
use Rattle.chosen.specs.Chosen.{chosen, chosen_order, chosen_curve, chosen_drawing}
use Rattle.chosen.specs.Search.{with_steps}
use Rattle.chosen.proofs.Orders.{in_cube, accepted_as_drawn, chosen_accepted, drawn_as_drawn}
use Rattle.chosen.proofs.draw_chosen.Goals as goal

-- The verdict is that of the call's own order.
abbrev drawing : ℕ → Curve → Drawing
drawing S c = chosen_drawing S c.points c.mark c.choice

judged : (S : ℕ) (c : Curve) (len : ℕ) (cube : Bool) (v : Verdict) → cube ≡ eqb len (volume S) →
    v ≡ first_that (chosen_order S c.points (not cube) (eqb c.mark 0)) → (drawing S c).verdict len ≡ v
judged S c len cube v f e = rw (sym f) (sym e)

pub returns-in_err-before_search : goal.returns-in_err-before_search
returns-in_err-before_search c =
    draws_refused (drawing c.args.side c.args.curve) c.args.grid.now
    (judged c.args.side c.args.curve (length c.args.grid.now) _ _ c.is_volume-cube.ensures c.in_err-before_search.ensures)
    (search rules)

pub smallest-requires : goal.smallest-requires
smallest-requires c =
    in_cube c.args.side c.args.curve.points _ _
    (judged c.args.side c.args.curve (length c.args.grid.now) _ _ c.is_volume-cube.ensures c.in_ok-before_search.ensures)
    c.args.curve refl (search rules)

-- What is drawn is the curve with the chosen count.
module _ (c : Curve) {n : ℕ} {w : Curve} (small : n ≡ chosen c.points) (same : w ≡ with_steps c n) where
  with_chosen : curve_of w ≡ chosen_curve c.points c.mark c.choice
  with_chosen = ap curve_of same ∙ ap (λ n. curve_of (with_steps c n)) small

  steps_are : w.steps ≡ chosen c.points
  steps_are = ap (λ c. c.steps) same ∙ small

pub mark_samples-new_cells-requires : goal.mark_samples-new_cells-requires
mark_samples-new_cells-requires c =
    let j = judged c.args.side c.args.curve (length c.args.grid.now) _ _ c.is_volume-cube.ensures c.in_ok-before_search.ensures in
    subst (λ o. draw_verdict c.args.side (length c.args.grid.now) o ≡ accepted)
    (sym (with_chosen c.args.curve c.smallest.ensures c.with_steps-chosen.ensures))
    ((accepted_as_drawn _ _ _ _ _).0 j)

pub overflow_add-answer : goal.overflow_add-answer
overflow_add-answer c =
    let k = c.args.curve in
    let j = judged c.args.side k (length c.args.grid.now) _ _ c.is_volume-cube.ensures c.in_ok-before_search.ensures in
    let most = ((chosen_accepted c.args.side k.points k.mark k.choice _).0 j).0.count_most 0 (lit< tt) in
    record { fits = omega (arith, steps_are k c.smallest.ensures c.with_steps-chosen.ensures, most) }

pub returns : goal.returns
unfolding sample_count
returns c =
    let k = c.args.curve in
    let j = judged c.args.side k (length c.args.grid.now) _ _ c.is_volume-cube.ensures c.in_ok-before_search.ensures in
    draws_accepted (drawing c.args.side k) c.args.grid.now j _
    (c.mark_samples-new_cells.ensures.grid_after_2 ∙
    ap (λ o. drawn c.args.side o c.args.grid.now) (with_chosen k c.smallest.ensures c.with_steps-chosen.ensures) ∙
    sym (drawn_as_drawn _ _ _ _ _))
    (omega (arith, steps_are k c.smallest.ensures c.with_steps-chosen.ensures)) c.mark_samples-new_cells.ensures.grid_after
