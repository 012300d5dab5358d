-- Document 02, A.5 holds. Then the test of some curves, computed.
use mathlib.Core.Path.{◌≡◌, refl}
use mathlib.Core.Bool.{true, false}
use mathlib.Core.List.{[], ◌∷◌}
use Rattle.drawing.specs.Object.{offset, coordinate}
use Rattle.gaps.specs.Gaps.{gap, gap_after, gap_along, largest_gap, quits}
use Rattle.gaps.proofs.Weights as weights
use Rattle.gaps.proofs.Largest as largest
use Rattle.gaps.proofs.Quits as quitting
use Rattle.claims.specs.Quits.{Claim}

pub claim : Claim
claim = record {
  gap_leads = largest.gap_leads;
  none_larger = largest.none_larger;
  one_as_large = largest.some_as_large;
  quits_where = quitting.quits_where;
  sum_of_gaps = λ points a n i h. weights.sum_of_gaps h (coordinate points a);
  no_step_too_long = quitting.quits_short;
}

-- K1's curve quits with n = 3 and does not with n = 2; x 0 0 0 6 does not with n = 17, which is accepted, and does with
-- n = 18; z 9 9 0 0 does not with n = 26 and does with n = 27; where all points agree the test quits with n = 1.
pub computed :
    (quits (0 ∷ 0 ∷ 0 ∷ 1 ∷ 0 ∷ 0 ∷ 2 ∷ 0 ∷ 0 ∷ 3 ∷ 0 ∷ 0 ∷ []) 3 ≡ true) ×
    (quits (0 ∷ 0 ∷ 0 ∷ 1 ∷ 0 ∷ 0 ∷ 2 ∷ 0 ∷ 0 ∷ 3 ∷ 0 ∷ 0 ∷ []) 2 ≡ false) ×
    (quits (0 ∷ 0 ∷ 0 ∷ 0 ∷ 0 ∷ 0 ∷ 0 ∷ 0 ∷ 0 ∷ 6 ∷ 0 ∷ 0 ∷ []) 17 ≡ false) ×
    (quits (0 ∷ 0 ∷ 0 ∷ 0 ∷ 0 ∷ 0 ∷ 0 ∷ 0 ∷ 0 ∷ 6 ∷ 0 ∷ 0 ∷ []) 18 ≡ true) ×
    (quits (0 ∷ 0 ∷ 9 ∷ 0 ∷ 0 ∷ 9 ∷ 0 ∷ 0 ∷ 0 ∷ 0 ∷ 0 ∷ 0 ∷ []) 26 ≡ false) ×
    (quits (0 ∷ 0 ∷ 9 ∷ 0 ∷ 0 ∷ 9 ∷ 0 ∷ 0 ∷ 0 ∷ 0 ∷ 0 ∷ 0 ∷ []) 27 ≡ true) ×
    (quits (5 ∷ 5 ∷ 5 ∷ 5 ∷ 5 ∷ 5 ∷ 5 ∷ 5 ∷ 5 ∷ 5 ∷ 5 ∷ 5 ∷ []) 1 ≡ true)
unfolding offset coordinate gap gap_after gap_along largest_gap quits
computed = (refl, refl, refl, refl, refl, refl, refl)
