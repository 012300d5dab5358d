-- A remainder reaches N, from below and from above: at sample 1 of K3 and of K4 the value is a half above the coordinate,
-- which stays going up and moves going down.
use mathlib.Core.Path.{◌≡◌, refl}
use lib.IntN.{pos, negsuc}
use Rattle.cubic.specs.Blend.{blendℤ, samples}
use Rattle.cubic.specs.Differences.{delta, differences_at, next_of}
use Rattle.cubic.specs.Axis.{start_of, settle_of, step_of}

-- K3: 0 1 2 3 with n = 6, so N = 216. The remainder is N, and the coordinate stays 0.
pub reached_going_up :
    step_of (pos 216) (pos 1)
    (start_of (pos 1) (pos 0) (differences_at (samples (pos 6) (pos 0) (pos 2) (pos 4) (pos 6)) 0)) ≡
    record { at = pos 0; cubic = record { value = pos 216; d1 = pos 216; d2 = pos 0; d3 = pos 0 } }
unfolding step_of settle_of start_of next_of differences_at delta samples blendℤ
reached_going_up = refl

-- K4: 3 2 1 0 with n = 6. The decision meets -N, and the coordinate goes down to 2 and leaves the remainder N.
pub reached_going_down :
    step_of (pos 216) (pos 1)
    (start_of (pos 1) (pos 3) (differences_at (samples (pos 6) (pos 6) (pos 4) (pos 2) (pos 0)) 0)) ≡
    record { at = pos 2; cubic = record { value = pos 216; d1 = negsuc 215; d2 = pos 0; d3 = pos 0 } }
unfolding step_of settle_of start_of next_of differences_at delta samples blendℤ
reached_going_down = refl
