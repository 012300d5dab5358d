-- Document 01, "Swatches", channel by channel. `Channel`: the range and the refusals of one. `Coordinate`: the rule of its
-- coordinate. `HalfWay`: the value half-way to another. `Rgb`: red, green and blue in turn.
pub mod Channel
pub mod Coordinate
pub mod HalfWay
pub mod Rgb
