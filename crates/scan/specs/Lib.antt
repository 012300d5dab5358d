-- `Answer`: what answers say, and what a call leaves. `Refusals`: the order up to the step test. `Column`: the cubic
-- through four coordinates. `Walker`: the machine on three axes.
pub mod Answer
pub mod Refusals
pub mod Column
pub mod Walker
