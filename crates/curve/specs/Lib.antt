-- `Curve`: what a curve record stands for, and what its test and a check of it answer. `Machine`: what the machine starts
-- from, and within which limits.
pub mod Curve
pub mod Machine
