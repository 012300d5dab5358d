-- `Nan`: one NaN stands for every NaN pattern.
pub mod Nan
