-- `Chosen`: document 02, A.6: the step count that the box chooses, and the drawing with it. `Search`: what the search asks for
-- and what it finds on the way.
pub mod Chosen
pub mod Search
