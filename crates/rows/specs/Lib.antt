-- `Lines`: rows by their differences, on one axis and on three, and what the machine goes through. `Face`: the surface through
-- sixteen coordinates of the points. `Record`: what the step test of a record asks, and what it finds.
pub mod Lines
pub mod Face
pub mod Record
