-- `Lines`: an input's first line. `Fields`: the digits of a field, and what is read of it. `Fits`: a curve line that
-- fits, by what is read of its fields. `Order`: the order of a curve line by whether the line fits.
pub mod Lines
pub mod Fields
pub mod Fits
pub mod Order
