-- `Record`: the form of case records. `Block`: how a run goes on. `Bytes`: the bytes lent to a call, and their digest.
pub mod Record
pub mod Block
pub mod Bytes
