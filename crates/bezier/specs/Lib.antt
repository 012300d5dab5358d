-- `Exact`: document 01, "Exact samples".
pub mod Exact
