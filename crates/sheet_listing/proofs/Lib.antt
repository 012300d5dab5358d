-- `Rows`: the lines of a row are those of its bytes. `ByPlane`: planes, one after another. `Unique`: the contract by planes
-- fixes answer and text.
pub mod Rows
pub mod ByPlane
pub mod Unique
