-- `Cube`: document 01, "The colour cube".
pub mod Cube
