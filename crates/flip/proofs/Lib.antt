-- `Points`: points by their numbers. `Samples`: objects with the same samples in another order. `Curves`, `Patches`: a record
-- and its flip are such objects. `Counts`: where the step test quits, and the chosen count. `Listings`: the listings of a curve
-- and of its flip.
pub mod Points
pub mod Samples
pub mod Curves
pub mod Patches
pub mod Counts
pub mod Listings
