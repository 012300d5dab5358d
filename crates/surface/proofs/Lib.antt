-- `Follows`: surfaces follow the values. `Slices`: volumes do, slice by slice.
-- `Search`: a test over rows and samples, found and found nowhere. `Long`: the search finds the long steps.
pub mod Follows
pub mod Slices
pub mod Search
pub mod Long
