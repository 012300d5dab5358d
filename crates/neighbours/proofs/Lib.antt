-- `Pairs`: which samples are neighbours. `Long`: the long-step test in words.
pub mod Pairs
pub mod Long
