-- `Least`: the chosen count is accepted, no smaller one is, and how large it can be. `Orders`: verdicts, and that a drawing with
-- the chosen count is document 01's. `Tries`: one count tried on one axis. `Last`: the last step is the first
-- of the points in reverse. `Answers`: what the count alone answers.
pub mod Least
pub mod Orders
pub mod Tries
pub mod Last
pub mod Answers
