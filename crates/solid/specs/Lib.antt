-- `Solid`: what a solid record stands for. `Blocks`: slices by their differences, on one axis and on three. `Machine`: what the
-- machine starts from, and within which limits.
pub mod Solid
pub mod Blocks
pub mod Machine
