-- `Blend`: exact values on integers. `Differences`: forward differences and the struct that holds them.
-- `Basis`: a row of the basis matrix. `Axis`: one axis of a drawing. `Room`: bounds under which every sum fits.
-- `Tracks`: what an axis has to do with the exact values, and where its remainder lies.
pub mod Blend
pub mod Differences
pub mod Basis
pub mod Axis
pub mod Room
pub mod Tracks
