-- `Bytes`: two lists that hold the same bytes from a place on.
pub mod Bytes
