-- Document 01's rules for one channel: which f32 are accepted, and what the others are refused for.
use Rattle.std.specs.Prelude.{Bool, false, not, ◌&&◌, ◌||◌, List, [], ◌∷◌, pos, Float}
use Rattle.std.specs.Float.{fin}
use Rattle.std.specs.Float.Ieee.{le, lt}
use Rattle.std.specs.Float.Ieee.Scale.{finite}
use Rattle.decide.specs.Refusal.{Rule, ◌when◌}

-- The f32 value 0.
abbrev pub zero32 : Float
zero32 = fin false 0 (pos 0)

-- The f32 value 1.
abbrev pub one32 : Float
one32 = fin false 1 (pos 0)

-- Each channel is 0 to 1; minus zero counts as 0, which it equals.
unfoldable pub in_range : Float → Bool
unfolding le
in_range v = le zero32 v && le v one32

-- A channel that is infinite or no number.
abbrev pub infinite_or_nan : Float → Bool
infinite_or_nan v = not (finite v)

-- A channel below 0 or above 1.
unfoldable pub outside : Float → Bool
unfolding lt
outside v = lt v zero32 || lt one32 v

-- Each channel: 31 then 32.
abbrev pub channel_refusals : Float → List Rule
channel_refusals v =
    31 when infinite_or_nan v
    ∷ 32 when outside v
    ∷ []
