-- `Puts`: writes one after another. `Line`: a line of numbers, part by part. `Writes`: a call's answer and what it leaves,
-- by its verdict. `Refusals`: what refuses a call that writes of a cube. `Columns`: a number in columns, column by column.
-- `Unique`: the contracts fix answer and text.
pub mod Puts
pub mod Line
pub mod Writes
pub mod Refusals
pub mod Columns
pub mod Unique
