-- `Words`: a side's range and "some axis" in words. `Places`: each cell has a byte of its own.
pub mod Words
pub mod Places
