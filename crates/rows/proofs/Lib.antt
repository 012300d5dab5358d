-- `Face`: the surface through sixteen coordinates may start. `Walked`: the walk through the rows of an object. `Limits`: the
-- step test of a record.
pub mod Face
pub mod Walked
pub mod Limits
