-- `Judged`: how a sheet is judged, line by line. `Verdicts`: a line's verdict from what is read of it. `Chunks`: the
-- curve lines, 71 bytes at a time. `Drawing`: what is
-- left to draw of a good sheet. `Called`: what a call says and leaves. `Unique`: the contract fixes both. `Early`:
-- the first 14207 bytes decide the output.
pub mod Judged
pub mod Verdicts
pub mod Chunks
pub mod Drawing
pub mod Called
pub mod Unique
pub mod Early
