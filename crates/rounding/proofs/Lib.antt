-- `Half`: within half a cell, whichever way a half goes. `Owns`: what a cell owns, and one move from cell to cell.
-- `Nearest`: the coordinate of a value.
pub mod Half
pub mod Owns
pub mod Nearest
