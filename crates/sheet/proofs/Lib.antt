-- `Known`: the known sheets print what document 01 says. `Numbers`: numbers in columns read back. `Sheet`: too many
-- lines, and how large a refused sheet's number and line are. `Printed`: the length of what is printed. `Refused`: the
-- refusal line reads back. `Parts`: the parts of a listing. `Lines`: the lines of a listing. `NewCells`: the new
-- cells of a sheet are its marked cells.
pub mod Known
pub mod Numbers
pub mod Sheet
pub mod Printed
pub mod Refused
pub mod Parts
pub mod Lines
pub mod NewCells
