-- `Paths`: laws of paths through any cells. `OfCurve`: the path of a curve, sample by sample. `Stands`: a walker that stands at
-- a cell. `Held`: what the machine holds of the next remainder. `Steps`: a step of the machine,
-- axis by axis. `Legs`: one axis's move in a grid. `Listing`: and in a list.
pub mod Paths
pub mod OfCurve
pub mod Stands
pub mod Held
pub mod Steps
pub mod Legs
pub mod Listing
