-- `Truth`: tests joined by and, or, not. `Some`: tests over a range or a list in words. `FirstThat`: what the first
-- number that applies says of all rules. `Unique`: a verdict's number fixes it.
pub mod Truth
pub mod Some
pub mod FirstThat
pub mod Unique
