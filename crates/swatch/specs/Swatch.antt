-- Swatches: three channels, a single grey that stands for three equal channels (document 01), or hue, saturation and value
-- (document 02, A.1).
use Rattle.std.specs.Prelude.{List}
use Rattle.decide.specs.Refusal.{Rule}
use Rattle.channel.specs.declared.Rgb.{Rgb}
use Rattle.channel.specs.Rgb.{rgb_refusals}
use Rattle.hsv.specs.Hue.{hsv_refusals}
use Rattle.hsv.specs.Channels.{hsv_channels}
use Rattle.swatch.specs.declared.Swatch.{Swatch}
use Rattle.swatch.specs.declared.Swatch.TheVariants.{Color, Grey, Hue}

-- The channels of a swatch.
abbrev pub channels_of : Swatch → Rgb
channels_of (Color c) = c
channels_of (Grey g) = record { red = g; green = g; blue = g }
channels_of (Hue w) = hsv_channels w

-- The refusals of a swatch: those of its channels, or of hue, saturation and value in turn.
abbrev pub swatch_refusals : Swatch → List Rule
swatch_refusals (Color c) = rgb_refusals c
swatch_refusals (Grey g) = rgb_refusals (channels_of (Grey g))
swatch_refusals (Hue w) = hsv_refusals w
