-- `Table`: the table of marks that one pass over a cube fills. `Next`: from a row of cells to the row after it.
pub mod Table
pub mod Next
