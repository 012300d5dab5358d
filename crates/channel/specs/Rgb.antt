-- Document 01's three channels: red, green and blue.
use Rattle.std.specs.Prelude.{List, ◌++◌, T, Float}
use Rattle.decide.specs.Refusal.{Rule}
use Rattle.channel.specs.declared.Rgb.{Rgb}
use Rattle.channel.specs.Channel.{in_range, channel_refusals}

-- Red, green and blue.
abbrev pub rgb : (red green blue : Float) → Rgb
rgb red green blue = record { red = red; green = green; blue = blue }

-- Red, green, blue, each 31 then 32.
abbrev pub rgb_refusals : Rgb → List Rule
rgb_refusals c =
    channel_refusals c.red
    ++ (channel_refusals c.green
    ++ channel_refusals c.blue)

-- Three channels from 0 to 1.
pub record AllInRange (c : Rgb) : Type 0 where
  pub red : T (in_range c.red)
  pub green : T (in_range c.green)
  pub blue : T (in_range c.blue)
