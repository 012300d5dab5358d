-- `Samples`: the samples that a drawing goes through. `Marked`: what a grid holds after marks. `Accepted`: what
-- acceptance says. `Cells`: the cells of an accepted object. `Orders`: the refusal numbers in document 01's order.
-- `Drawn`: one drawing in words. `Listed`: one listing. `NewCells`: the new cells of a drawing are different cells, and
-- those of drawings in turn add up. `Choices`: what over and under have in common.
pub mod Samples
pub mod Marked
pub mod Accepted
pub mod Cells
pub mod Orders
pub mod Drawn
pub mod Listed
pub mod NewCells
pub mod Choices
