-- `Surface`: a surface by its differences, its values, its first differences along either parameter, and the search for
-- a value beyond 2N. `Volume`: a volume by its differences, its slices, and its first differences along v.
pub mod Surface
pub mod Volume
