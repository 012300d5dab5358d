-- Document 01, "Swatches", and document 02, A.1. `Swatch`: the three kinds. `ToCell` and `HalfWay`: what the two answers
-- say.
pub mod Swatch
pub mod ToCell
pub mod HalfWay
