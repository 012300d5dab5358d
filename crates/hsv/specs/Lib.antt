-- Document 02, A.1. `Hue`: the range and the refusals of a hue. `Channels`: the three channels that hue, saturation and
-- value stand for.
pub mod Hue
pub mod Channels
