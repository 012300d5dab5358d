-- `Orders`: differences by their order. One cubic: `Closed` has its differences as polynomials, `Next` equation 8, `Linear`
-- that the blend is linear, `Rows` equation 23, `Across` differences along several parameters, and `Exact` what it has to do
-- with the exact values of document 01.
-- One axis: `Tracks` follows the values from cell to cell, `Ends` has remainders that reach N, and `LongStep` is the step test.
-- Bounds: `Fits` for sums and products, `Bounds` for values and differences, and `Levels` at the limits of document 01.
pub mod Orders
pub mod Closed
pub mod Next
pub mod Linear
pub mod Rows
pub mod Across
pub mod Exact
pub mod Tracks
pub mod Ends
pub mod LongStep
pub mod Fits
pub mod Bounds
pub mod Levels
