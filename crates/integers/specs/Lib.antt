-- What contracts cite of the integers.
pub mod Magnitude
