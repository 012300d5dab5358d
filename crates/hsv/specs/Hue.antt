-- Document 02, A.1: "hue h, at least 0 and below 6, saturation s and value v, each 0 to 1".
use Rattle.std.specs.Prelude.{Bool, false, not, ◌&&◌, List, [], ◌∷◌, ◌++◌, pos, T, Float}
use Rattle.std.specs.Float.{fin}
use Rattle.std.specs.Float.Ieee.{le, lt}
use Rattle.decide.specs.Refusal.{Rule, ◌when◌}
use Rattle.channel.specs.Channel.{zero32, in_range, infinite_or_nan, channel_refusals}
use Rattle.hsv.specs.declared.Hsv.{Hsv}

-- The f32 value 6.
abbrev pub six32 : Float
six32 = fin false 3 (pos 1)

-- A hue is at least 0 and below 6; minus zero counts as 0, which it equals.
unfoldable pub hue_in_range : Float → Bool
unfolding le lt
hue_in_range h = le zero32 h && lt h six32

-- A hue: 31, then 33 out of range.
abbrev pub hue_refusals : Float → List Rule
hue_refusals h =
    31 when infinite_or_nan h
    ∷ 33 when not (hue_in_range h)
    ∷ []

-- h, s, v in turn, each tried for 31 before its range.
abbrev pub hsv_refusals : Hsv → List Rule
hsv_refusals w =
    hue_refusals w.hue
    ++ (channel_refusals w.saturation
    ++ channel_refusals w.value)

-- A hue in range, and a saturation and a value from 0 to 1.
pub record HsvInRange (w : Hsv) : Type 0 where
  pub hue : T (hue_in_range w.hue)
  pub saturation : T (in_range w.saturation)
  pub value : T (in_range w.value)
