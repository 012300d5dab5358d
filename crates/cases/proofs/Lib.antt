-- `Digested`: the digest of bytes, one byte after the other.
pub mod Digested
