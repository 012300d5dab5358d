-- `ByPlane`: a listing by whole planes. `Row`: the lines of a row's cells.
pub mod ByPlane
pub mod Row
