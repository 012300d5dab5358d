-- `choose_steps` meets its contract: 11 or 14 where it applies, and else the smallest count.
use Rattle.std.proofs.Common.{rules, ◌≡◌, refl, sym, ap, ap₂, false, Err}
use Rattle.decide.specs.Refusal.{outcome}
use Rattle.chosen.specs.Chosen.{chosen, count_verdict}
use Rattle.chosen.proofs.Orders.{in_cube}
use Rattle.chosen.proofs.choose_steps.Goals as goal

pub smallest-requires : goal.smallest-requires
smallest-requires c = in_cube _ _ false false (sym c.in_ok-before_search.ensures) c.args.curve refl (search rules)

pub returns-in_err-before_search : goal.returns-in_err-before_search
unfolding count_verdict
returns-in_err-before_search c =
    let same : c.from_residual.result ≡ Err c.in_err-before_search.field-0.0 = search rules in
    rw same (ap (λ v. outcome v (chosen c.args.curve.points)) c.in_err-before_search.ensures)

pub returns : goal.returns
unfolding count_verdict
returns c = ap₂ outcome c.in_ok-before_search.ensures c.smallest.ensures
