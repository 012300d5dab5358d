-- `Gaps`: document 02, A.5: the largest gap between consecutive points, and where the long-step test of a curve quits.
-- `Weights`: a step of a curve as a sum of the gaps.
pub mod Gaps
pub mod Weights
