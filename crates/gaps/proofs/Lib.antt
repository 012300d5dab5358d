-- `Weights`: a step of a curve is a sum of the gaps between its points. `Largest`: the largest gap in words. `Quits`: where
-- the test quits no step is too long. `Ends`: counts below the distance from the first point to the last are refused.
pub mod Weights
pub mod Largest
pub mod Quits
pub mod Ends
