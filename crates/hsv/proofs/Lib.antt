-- `Rounds`: products and differences of values from 0 up. `Hue`: the whole and the fractional part of a hue. `InRange`: the
-- channels lie from 0 to 1. `Canonical`: an f32 is written in one way. `Ends`: saturation 0, and the ends of the hues.
pub mod Rounds
pub mod Hue
pub mod InRange
pub mod Canonical
pub mod Ends
