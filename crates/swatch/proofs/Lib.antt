-- `Range`: the channels of an accepted swatch lie from 0 to 1, and its cell in the cube. `Unique`: each contract fixes its
-- answer.
pub mod Range
pub mod Unique
