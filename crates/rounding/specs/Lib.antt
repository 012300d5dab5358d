-- `Nearest`: document 02's A.3, the cell of a value, with document 01's half a cell.
pub mod Nearest
